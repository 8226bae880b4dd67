-- A picture that is one slice is as document 01 has it: presence looks "only at the picture's edge and the order" (02, request 02).
--     all_one_slice            its macroblocks are all in the same slice
--     macroblocks_as_before    a macroblock of the picture is present to another exactly if it comes earlier
--     one_slice_as_before      a neighbour is present exactly if it lies inside the picture and its block comes earlier
-- Assumes nothing.
use mathlib.Core.Path.{◌≡◌, refl, sym, ◌∙◌}
use mathlib.Core.Bool.{Bool, true, false, ◌&&◌, and-true}
use Prim.Native.Nat.{ℕ, ◌-◌, ◌/◌, ◌<◌}
use native.Mathlib.Nat.{div-lt_iff_lt-mul}
use native.Mathlib.Omega.{arith}
use borrow.Author.Tests.{ltb-true, eq-eqb}
use lib.Arith.{digits_lt}
use lib.Dec.{ltb}
use Rattle.picture.specs.declared.Layout.{Layout}
use Rattle.picture.specs.Order.{count_of, order_of, order_at, macroblock_at}
use Rattle.picture.specs.Presence.{inside_picture, slice_of, same_slice, macroblock_present, present}
use Rattle.picture.proofs.Macroblocks.{inside_plane_law}

module _ (l : Layout) (some : 0 < l.width) (one : l.rows ≡ l.height) where
  only_slice : (m : ℕ) → m < count_of l → slice_of l m ≡ 0
  only_slice m h =
      let row : m / l.width < l.height = (div-lt_iff_lt-mul some).1 (omega arith) in
      let rows : 0 < l.rows = omega (arith, one) in
      let z : m / l.width / l.rows < 1 = (div-lt_iff_lt-mul rows).1 (omega (arith, one)) in
      omega arith

  pub all_one_slice : (m k : ℕ) → m < count_of l → k < count_of l → same_slice l m k ≡ true
  unfolding same_slice
  all_one_slice m k hm hk = eq-eqb (slice_of l k) (slice_of l m) (only_slice k hk ∙ sym (only_slice m hm))

  module _ (m : ℕ) (among : m < count_of l) where
    pub macroblocks_as_before : (k : ℕ) → macroblock_present l m k ≡ (ltb k (count_of l) && ltb k m)
    unfolding macroblock_present
    macroblocks_as_before k = by_case (ltb k (count_of l)) refl
      where
        by_case : (t : Bool) → ltb k (count_of l) ≡ t → (t && ltb k m && same_slice l m k) ≡ (t && ltb k m)
        by_case false e = refl
        by_case true e = rw (all_one_slice m k among (ltb-true k (count_of l) e)) (and-true (ltb k m))

    pub one_slice_as_before : (b X Y : ℕ) → b < 16 → present l (order_of m b) X Y ≡ (inside_picture l X Y && ltb (order_at l (X - 1) (Y - 1)) (order_of m b))
    unfolding present
    one_slice_as_before b X Y h = by_case (inside_picture l X Y) refl
      where
        own : order_of m b / 16 ≡ m
        own = omega arith

        by_case : (t : Bool) → inside_picture l X Y ≡ t
            → (t && ltb (order_at l (X - 1) (Y - 1)) (order_of m b) && same_slice l (order_of m b / 16) (macroblock_at l (X - 1) (Y - 1))) ≡ (t && ltb (order_at l (X - 1) (Y - 1)) (order_of m b))
        by_case false e = refl
        by_case true e =
            let i = inside_plane_law 16 l X Y e in
            let d = digits_lt {q = (Y - 1) / 16} {m = l.height} {r = (X - 1) / 16} {c = l.width} (omega (arith, i.up, i.down)) (omega (arith, i.left, i.right)) in
            rw (own, all_one_slice m (macroblock_at l (X - 1) (Y - 1)) among (omega arith)) (and-true (ltb (order_at l (X - 1) (Y - 1)) (order_of m b)))
