-- What the mask leaves of the neighbours, over the sides that the code reads.
--     predicted_is     a permitted mode's samples are those of the sides; another mode has none
--     none_exactly_if  a mode has no prediction exactly if the flags do not permit it
--     mode_below_4     what is permitted has a number below 4
--     dc_is, horizontal_is, vertical_is, plane_is     the same for what the code has filled, mode by mode
-- Assumes nothing.
use mathlib.Core.Path.{◌≡◌, refl, ap, ◌∙◌}
use mathlib.Core.Bool.{Bool, true, false, cond}
use mathlib.Core.List.{List, [], ◌∷◌}
use mathlib.Core.Logic.{◌↔◌}
use Prim.Native.Nat.{ℕ, zero, suc, ◌/◌, ◌<◌, ◌≤◌}
use native.Mathlib.Omega.{arith}
use lib.ListN.{length, get_or}
use Rattle.lists.specs.Tab.{grid}
use Rattle.lists.proofs.Tab.{grid_same}
use Rattle.intra4.specs.Samples.{bit_of, side_if, corner_of, masked}
use Rattle.intra4.specs.Rules.{samples, none, samples_of, row_of, vertical, horizontal}
use Rattle.intra4.proofs.Masked.{one_is, three_is, none_by, samples_by}
use Rattle.intra4.proofs.Modes.{mode_below}
use Rattle.sides.specs.Samples.{above_of, left_of, mask}
use Rattle.sides.specs.Plane.{plane}
use Rattle.sides.proofs.Masked.{plane_filled}
use Rattle.chroma.specs.Rules.{predicted, permitted}
use Rattle.chroma.specs.Code.{quarter_means, quarter_at, filled}
use Rattle.chroma.proofs.Quarter.{quarter_at_law}

-- over any sides
over_sides : (above left corner : List ℕ) (f m : ℕ) → predicted (masked above left corner f) m ≡ cond (permitted f m) (samples (filled above left corner f m)) none
unfolding predicted permitted filled
over_sides above left corner f zero = refl
over_sides above left corner f (suc zero) = one_is 8 (bit_of f 1) left horizontal
over_sides above left corner f (suc (suc zero)) = one_is 8 (bit_of f 0) above vertical
over_sides above left corner f (suc (suc (suc zero))) = three_is 8 f above left corner (plane 8)
over_sides above left corner f (suc (suc (suc (suc m)))) = refl

module _ (l : List ℕ) (f m : ℕ) where
  pub predicted_is : predicted (mask 8 l f) m ≡ cond (permitted f m) (samples (filled (above_of 8 l) (left_of 8 l) (corner_of l) f m)) none
  predicted_is = over_sides (above_of 8 l) (left_of 8 l) (corner_of l) f m

  pub none_exactly_if : (predicted (mask 8 l f) m ≡ none) ↔ (permitted f m ≡ false)
  none_exactly_if = none_by (permitted f m) _ predicted_is

pub mode_below_4 : (f m : ℕ) → permitted f m ≡ true → m < 4
unfolding permitted
mode_below_4 f m e = mode_below 4 (permitted f) (λ k. refl) m e

module _ (l : List ℕ) (f m : ℕ) (p : permitted f m ≡ true) {out : List ℕ} where
  is : out ≡ filled (above_of 8 l) (left_of 8 l) (corner_of l) f m → out ≡ samples_of (predicted (mask 8 l f) m)
  is e = e ∙ samples_by (permitted f m) _ (predicted_is l f m) p

  pub dc_is : {first second : Bool} {v : List ℕ} → m ≡ 0 → first ≡ bit_of f 0 → second ≡ bit_of f 1
      → v ≡ quarter_means (side_if first (above_of 8 l)) (side_if second (left_of 8 l))
      → out ≡ grid 8 (λ x y. quarter_at v (x / 4) (y / 4)) → out ≡ samples_of (predicted (mask 8 l f) m)
  unfolding filled
  dc_is k a b e h =
      is (rw k
      (h
      ∙ ap (λ (w : List ℕ). grid 8 (λ x y. quarter_at w (x / 4) (y / 4))) (e ∙ (λ i. quarter_means (side_if (a i) (above_of 8 l)) (side_if (b i) (left_of 8 l))))
      ∙ grid_same 8 _ _ (λ x y p q. quarter_at_law (side_if (bit_of f 0) (above_of 8 l)) (side_if (bit_of f 1) (left_of 8 l)) (x / 4) (y / 4) (omega arith) (omega arith))))

  pub horizontal_is : m ≡ 1 → out ≡ grid 8 (horizontal (row_of [] (left_of 8 l))) → out ≡ samples_of (predicted (mask 8 l f) m)
  unfolding filled
  horizontal_is k h = is (rw k h)

  pub vertical_is : m ≡ 2 → out ≡ grid 8 (vertical (row_of [] (above_of 8 l))) → out ≡ samples_of (predicted (mask 8 l f) m)
  unfolding filled
  vertical_is k h = is (rw k h)

  pub plane_is : {n : ℕ} → m ≡ 3 → 1 ≤ length l → n ≡ 8
      → out ≡ grid n (plane n (row_of (get_or l 0 0 ∷ []) (above_of 8 l)) (row_of (get_or l 0 0 ∷ []) (left_of 8 l))) → out ≡ samples_of (predicted (mask 8 l f) m)
  unfolding filled
  plane_is k some e h = is (rw k (plane_filled l some e h))
