-- The neighbours of a macroblock's blocks, read among its own samples where they lie inside it and in the plane where they do not: by a test that is
-- true exactly if they lie inside.
--     Read                                                                       rows that are the macroblock's own by a test, and else the plane's
--     reach_corner_over, reach_above_over, reach_right_over, reach_left_over     a group that is present lies where it is read
--     corner_over, above_over, right_over, left_over                             and is what it is in the plane with these samples
-- Assumes nothing.
use mathlib.Core.Path.{◌≡◌, refl, sym, ◌∙◌}
use mathlib.Core.Bool.{Bool, true, false, cond, ◌&&◌}
use mathlib.Core.List.{List}
use Prim.Native.Nat.{ℕ, ◌+◌, ◌*◌, ◌-◌, ◌<◌}
use native.Mathlib.Omega.{arith}
use borrow.Author.Tests.{ltb-true, ltb-false}
use lib.Dec.{ltb}
use lib.ListN.{length, get_or}
use Rattle.lists.specs.Tab.{tab}
use Rattle.lists.proofs.Every.{both_true}
use Rattle.lists.proofs.Tab.{tab_same}
use Rattle.picture.specs.declared.Layout.{Layout}
use Rattle.picture.specs.declared.inner.Rows.{Rows}
use Rattle.picture.specs.Order.{Among, column_in, row_in, block_column, block_row}
use Rattle.picture.specs.Plane.{stride, plane_length, neighbour}
use Rattle.picture.specs.Presence.{present_at}
use Rattle.picture.specs.Reach.{Behind}
use Rattle.picture.specs.Whole.{with_whole}
use Rattle.picture.proofs.Around.{reach_corner, reach_above, reach_right, reach_left, corner_place, above_place, right_place, left_place}
use Rattle.picture.proofs.Over.{reach_own_corner, reach_own_above, reach_own_right, reach_own_left, corner_own, above_own, right_own, left_own, corner_beside, above_beside, right_beside, left_beside}

passed : (n : ℕ) → true ≡ ltb 0 n → 0 < n
passed n e = ltb-true 0 n (sym e)

failed : (n : ℕ) → false ≡ ltb 0 n → n ≡ 0
failed n e = omega (arith, ltb-false 0 n (sym e))

-- of two numbers that are not both something the product is nothing
nothing : (x y : ℕ) → false ≡ (ltb 0 x && ltb 0 y) → x * y ≡ 0
nothing x y e = by_case (ltb 0 x) refl e
  where
    by_case : (s : Bool) → ltb 0 x ≡ s → false ≡ (s && ltb 0 y) → x * y ≡ 0
    by_case true h f = rw (failed y f) (omega arith)
    by_case false h f = rw (failed x (sym h)) (omega arith)

module _ {l : Layout} {m b : ℕ} (a : Among l m b) (own plane : List ℕ) (long : length plane ≡ plane_length 16 l) (size : length own ≡ 256) where
  -- rows that are the macroblock's own by a test, and else the plane's
  pub record Read (t : Bool) (r : Rows) : Type 0 where
    pub samples : r.samples.now ≡ cond t own plane
    pub step : r.stride ≡ cond t 16 (stride 16 l)
    pub first : r.at ≡ cond t (64 * row_in b + 4 * column_in b) (block_row l m b * stride 16 l + block_column l m b)

  abbrev beside : ℕ → ℕ
  beside k = neighbour 4 l m b (with_whole 16 l m own plane) k

  -- ---- M, by both tests

  pub reach_corner_over : (t : Bool) {r : Rows} → Read t r → t ≡ (ltb 0 (row_in b) && ltb 0 (column_in b)) → Behind (present_at 4 l m b 0) 1 0 r.at (r.stride + 1) (length r.samples.now)
  reach_corner_over true d e = let p = both_true (ltb 0 (row_in b)) (ltb 0 (column_in b)) (sym e) in rw (d.samples, d.step, d.first, size) (reach_own_corner b a.block (present_at 4 l m b 0) (passed _ (sym p.0)) (passed _ (sym p.1)))
  reach_corner_over false d e = rw (d.samples, d.step, d.first, long) (reach_corner a)

  pub corner_over : (t : Bool) {r : Rows} → Read t r → t ≡ (ltb 0 (row_in b) && ltb 0 (column_in b)) → cond (present_at 4 l m b 0) (get_or r.samples.now (r.at - (r.stride + 1)) 0) 0 ≡ beside 0
  corner_over true d e =
      let p = both_true (ltb 0 (row_in b)) (ltb 0 (column_in b)) (sym e) in
      rw (d.samples, d.step, d.first) (sym (corner_own a own plane long (passed _ (sym p.0)) (passed _ (sym p.1))))
  corner_over false d e = rw (d.samples, d.step, d.first) (sym (corner_beside a own plane long (nothing (row_in b) (column_in b) e) ∙ corner_place a plane))

  -- ---- A to D and E to H, by the row

  pub reach_above_over : (t : Bool) {r : Rows} → Read t r → t ≡ ltb 0 (row_in b) → Behind (present_at 4 l m b 1) 4 1 r.at r.stride (length r.samples.now)
  reach_above_over true d e = rw (d.samples, d.step, d.first, size) (reach_own_above b a.block (present_at 4 l m b 1) (passed _ e))
  reach_above_over false d e = rw (d.samples, d.step, d.first, long) (reach_above a)

  pub above_over : (t : Bool) {r : Rows} → Read t r → t ≡ ltb 0 (row_in b) → tab 4 (λ k. cond (present_at 4 l m b 1) (get_or r.samples.now (r.at - r.stride + k * 1) 0) 0) ≡ tab 4 (λ k. beside (1 + k))
  above_over true d e = rw (d.samples, d.step, d.first) (sym (tab_same 4 _ _ (above_own a own plane long (passed _ e))))
  above_over false d e = rw (d.samples, d.step, d.first) (sym (tab_same 4 _ _ (λ i h. above_beside a own plane long (failed _ e) i h ∙ above_place a plane i h)))

  pub reach_right_over : (t : Bool) {r : Rows} → Read t r → t ≡ ltb 0 (row_in b) → Behind (present_at 4 l m b 5) 4 1 r.at (r.stride - 4) (length r.samples.now)
  reach_right_over true d e = rw (d.samples, d.step, d.first, size) (reach_own_right b a.block (present_at 4 l m b 5) (passed _ e))
  reach_right_over false d e = rw (d.samples, d.step, d.first, long) (reach_right a)

  pub right_over : (t : Bool) {r : Rows} → Read t r → t ≡ ltb 0 (row_in b) → tab 4 (λ k. cond (present_at 4 l m b 5) (get_or r.samples.now (r.at - (r.stride - 4) + k * 1) 0) 0) ≡ tab 4 (λ k. beside (5 + k))
  right_over true d e = rw (d.samples, d.step, d.first) (sym (tab_same 4 _ _ (right_own a own plane long (passed _ e))))
  right_over false d e = rw (d.samples, d.step, d.first) (sym (tab_same 4 _ _ (λ i h. right_beside a own plane long (failed _ e) i h ∙ right_place a plane i h)))

  -- ---- I to L, by the column

  pub reach_left_over : (t : Bool) {r : Rows} → Read t r → t ≡ ltb 0 (column_in b) → Behind (present_at 4 l m b 9) 4 r.stride r.at 1 (length r.samples.now)
  reach_left_over true d e = rw (d.samples, d.step, d.first, size) (reach_own_left b a.block (present_at 4 l m b 9) (passed _ e))
  reach_left_over false d e = rw (d.samples, d.step, d.first, long) (reach_left a)

  pub left_over : (t : Bool) {r : Rows} → Read t r → t ≡ ltb 0 (column_in b) → tab 4 (λ k. cond (present_at 4 l m b 9) (get_or r.samples.now (r.at - 1 + k * r.stride) 0) 0) ≡ tab 4 (λ k. beside (9 + k))
  left_over true d e = rw (d.samples, d.step, d.first) (sym (tab_same 4 _ _ (left_own a own plane long (passed _ e))))
  left_over false d e = rw (d.samples, d.step, d.first) (sym (tab_same 4 _ _ (λ i h. left_beside a own plane long (failed _ e) i h ∙ left_place a plane i h)))
