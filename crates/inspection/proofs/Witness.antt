-- Named planes at which faults would answer otherwise, by evaluation. A plane whose list ends early has zeros behind.
--     by_macroblock     2x1: the sample at place 16 of the plane is the first of macroblock 1, so that it differs at 256, and not at 16
--     first_of_two      1x1: of samples 3 and 7 that differ the first is told
-- Assumes nothing.
use mathlib.Core.Path.{◌≡◌, refl}
use mathlib.Core.Bool.{true, false, cond, ◌||◌}
use mathlib.Core.List.{List, []}
use Prim.Native.Nat.{ℕ, zero, suc, ◌<◌}
use native.Mathlib.Omega.{arith}
use lib.Dec.{eqb}
use Rattle.lists.specs.Tab.{tab, grid}
use Rattle.picture.specs.Plane.{layout_of, block_at}
use Rattle.inspection.specs.Inspect.{differ_at, first_differing}
use Rattle.inspection.proofs.Differences.{differing_at}

abbrev one_off : List ℕ
one_off = tab 17 (λ k. cond (eqb k 16) 1 0)

pub by_macroblock : (differ_at (layout_of 2 1) [] one_off 256 ≡ true) × (differ_at (layout_of 2 1) [] one_off 16 ≡ false)
unfolding tab grid block_at
by_macroblock = (refl, refl)

abbrev two_off : List ℕ
two_off = tab 8 (λ k. cond (eqb k 3 || eqb k 7) 1 0)

here : differ_at (layout_of 1 1) [] two_off 3 ≡ true
unfolding tab grid block_at
here = refl

none : (k : ℕ) → k < 3 → differ_at (layout_of 1 1) [] two_off k ≡ false
unfolding tab grid block_at
none zero h = refl
none (suc zero) h = refl
none (suc (suc zero)) h = refl
none (suc (suc (suc k))) h = absurd (omega (arith, h))

pub first_of_two : first_differing (layout_of 1 1) [] two_off ≡ 3
first_of_two = differing_at (layout_of 1 1) (omega arith) [] two_off 3 (omega arith) here none
