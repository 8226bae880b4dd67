-- What the mask leaves of the neighbours, over the sides that the code reads.
--     predicted_is     a permitted mode's samples are those of the sides; another mode has none
--     none_exactly_if  a mode has no prediction exactly if the flags do not permit it
--     mode_below_4     what is permitted has a number below 4
--     plane_filled     a plane by the corner as the code reads it; over n
--     vertical_is, horizontal_is, dc_is, plane_is     the same for what the code has filled, mode by mode
-- Assumes nothing.
use mathlib.Core.Path.{◌≡◌, refl, sym, ap, ◌∙◌}
use mathlib.Core.Bool.{Bool, true, false, cond}
use mathlib.Core.List.{List, [], ◌∷◌}
use mathlib.Core.Logic.{◌↔◌}
use Prim.Native.Nat.{ℕ, zero, suc, ◌<◌, ◌≤◌}
use native.Mathlib.Omega.{arith}
use lib.ListN.{length, get_or, replicate}
use Rattle.std.proofs.lemmas.List.{length-replicate, get_or-replicate}
use Rattle.lists.specs.Tab.{tab, grid}
use Rattle.lists.proofs.Tab.{tab_of}
use Rattle.intra4.specs.Samples.{bit_of, side_if, corner_of, masked}
use Rattle.intra4.specs.Rules.{samples, none, samples_of, row_of, mean, vertical, horizontal}
use Rattle.intra4.proofs.Masked.{one_is, three_is, none_by, samples_by}
use Rattle.intra4.proofs.Modes.{mode_below}
use Rattle.sides.specs.Samples.{above_of, left_of, mask}
use Rattle.sides.specs.Plane.{plane}
use Rattle.sides.specs.Rules.{predicted, permitted}
use Rattle.sides.specs.Code.{filled}

-- over any sides
over_sides : (above left corner : List ℕ) (f m : ℕ) → predicted (masked above left corner f) m ≡ cond (permitted f m) (samples (filled above left corner f m)) none
unfolding predicted permitted filled
over_sides above left corner f zero = one_is 16 (bit_of f 0) above vertical
over_sides above left corner f (suc zero) = one_is 16 (bit_of f 1) left horizontal
over_sides above left corner f (suc (suc zero)) = refl
over_sides above left corner f (suc (suc (suc zero))) = three_is 16 f above left corner (plane 16)
over_sides above left corner f (suc (suc (suc (suc m)))) = refl

module _ (l : List ℕ) (f m : ℕ) where
  pub predicted_is : predicted (mask 16 l f) m ≡ cond (permitted f m) (samples (filled (above_of 16 l) (left_of 16 l) (corner_of l) f m)) none
  predicted_is = over_sides (above_of 16 l) (left_of 16 l) (corner_of l) f m

  pub none_exactly_if : (predicted (mask 16 l f) m ≡ none) ↔ (permitted f m ≡ false)
  none_exactly_if = none_by (permitted f m) _ predicted_is

pub mode_below_4 : (f m : ℕ) → permitted f m ≡ true → m < 4
unfolding permitted
mode_below_4 f m e = mode_below 4 (permitted f) (λ k. refl) m e

-- the corner as the code reads it
corner_is : (l : List ℕ) → 1 ≤ length l → get_or l 0 0 ∷ [] ≡ corner_of l
corner_is [] h = absurd (omega arith)
corner_is (a ∷ l) h = refl

replicated : (n v : ℕ) → replicate n v ≡ tab n (λ k. v)
replicated n v = sym (tab_of n (λ k. v) (replicate n v) v (length-replicate n v) (λ k h. sym (get_or-replicate n k v v h)))

-- k is n, of which the code knows no literal
pub plane_filled : {n k : ℕ} (l : List ℕ) {out : List ℕ} → 1 ≤ length l → k ≡ n
    → out ≡ grid k (plane k (row_of (get_or l 0 0 ∷ []) (above_of n l)) (row_of (get_or l 0 0 ∷ []) (left_of n l)))
    → out ≡ grid n (plane n (row_of (corner_of l) (above_of n l)) (row_of (corner_of l) (left_of n l)))
plane_filled {n} l some e h = let c = corner_is l some in h ∙ (λ i. grid (e i) (plane (e i) (row_of (c i) (above_of n l)) (row_of (c i) (left_of n l))))

module _ (l : List ℕ) (f m : ℕ) (p : permitted f m ≡ true) {out : List ℕ} where
  is : out ≡ filled (above_of 16 l) (left_of 16 l) (corner_of l) f m → out ≡ samples_of (predicted (mask 16 l f) m)
  is e = e ∙ samples_by (permitted f m) _ (predicted_is l f m) p

  pub vertical_is : m ≡ 0 → out ≡ grid 16 (vertical (row_of [] (above_of 16 l))) → out ≡ samples_of (predicted (mask 16 l f) m)
  unfolding filled
  vertical_is k h = is (rw k h)

  pub horizontal_is : m ≡ 1 → out ≡ grid 16 (horizontal (row_of [] (left_of 16 l))) → out ≡ samples_of (predicted (mask 16 l f) m)
  unfolding filled
  horizontal_is k h = is (rw k h)

  pub dc_is : {first second : Bool} {v : ℕ} → m ≡ 2 → first ≡ bit_of f 0 → second ≡ bit_of f 1 → v ≡ mean 16 (side_if first (above_of 16 l)) (side_if second (left_of 16 l))
      → out ≡ replicate 256 v → out ≡ samples_of (predicted (mask 16 l f) m)
  unfolding filled grid
  dc_is {v = v} k a b e h =
      is (rw k
      (h ∙ replicated 256 v ∙ ap (λ (v : ℕ). tab 256 (λ j. v)) e ∙ (λ i. tab 256 (λ j. mean 16 (side_if (a i) (above_of 16 l)) (side_if (b i) (left_of 16 l))))))

  pub plane_is : {n : ℕ} → m ≡ 3 → 1 ≤ length l → n ≡ 16
      → out ≡ grid n (plane n (row_of (get_or l 0 0 ∷ []) (above_of 16 l)) (row_of (get_or l 0 0 ∷ []) (left_of 16 l))) → out ≡ samples_of (predicted (mask 16 l f) m)
  unfolding filled
  plane_is k some e h = is (rw k (plane_filled l some e h))
