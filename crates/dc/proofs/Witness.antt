-- Inputs at which a fault would show: what the must-fail edits on the definitions' side are measured by.
--     level_before_range      levels that are none and rescale too far: LEVEL, at the first of them
--     range_by_steps          one value too far, at raster place 4: RANGE at 2, the zigzag's step
--     low_periods_round       periods 0 and 1 round before they shift
--     shift_rounds_down       chroma's shift of a negative product rounds down
--     last_residual           a DC value outside -4080..4080 in the last place: RESIDUAL there, of either sign
-- Assumes nothing.
use mathlib.Core.Path.{◌≡◌, refl}
use mathlib.Core.List.{List, [], ◌∷◌, ◌++◌}
use Prim.Native.Nat.{ℕ}
use lib.IntN.{ℤ, pos, negsuc}
use lib.ListN.{replicate}
use Rattle.lists.specs.Chain.{Test, chain}
use Rattle.lists.specs.First.{first}
use Rattle.lists.specs.Tab.{tab, grid}
use Rattle.refusal.specs.Number.{number, place}
use Rattle.refusal.specs.declared.Refusal.{Refusal}
use Rattle.whole.specs.Range.{first_outside, inside}
use Rattle.transform.specs.Hadamard.{hadamard}
use Rattle.residual.specs.Order.{in_zigzag, in_places}
use Rattle.residual.specs.Rescale.{scaled_by}
use Rattle.dc.specs.Dc.{luma_scaled, luma_values, chroma_scaled, chroma_values}
use Rattle.dc.specs.Entry.{luma_levels_tests, luma_values_tests, chroma_levels_tests, chroma_values_tests}

-- number and place of what tests come to
abbrev answered : List (Test Refusal) → List ℕ
answered tests = number (chain tests) ∷ place (chain tests) ∷ []

abbrev sixteen : List ℤ
sixteen = replicate 16 (pos 0)

abbrev four : List ℤ
four = replicate 4 (pos 0)

-- level 0 rescales too far, and level 1 is no level
pub level_before_range : (answered (luma_values_tests 28 (pos 3277 ∷ pos 40000 ∷ replicate 14 (pos 0)) sixteen) ≡ 5 ∷ 1 ∷ [])
    × (answered (chroma_values_tests 28 (pos 3277 ∷ pos 40000 ∷ pos 0 ∷ pos 0 ∷ []) four) ≡ 5 ∷ 1 ∷ [])
unfolding luma_values luma_scaled chroma_values chroma_scaled hadamard in_zigzag in_places scaled_by first_outside first inside grid tab
level_before_range = (refl, refl)

-- the levels of one value at row 1, column 0: through H it is 16 * 32, and at QP 28 that times 16 * 4
abbrev alone : List ℤ
alone = (pos 32 ∷ pos 32 ∷ pos 32 ∷ negsuc 31 ∷ []) ++ (replicate 4 (pos 32) ++ (replicate 4 (negsuc 31) ++ (pos 32 ∷ negsuc 31 ∷ negsuc 31 ∷ negsuc 31 ∷ [])))

pub range_by_steps : answered (luma_values_tests 28 alone sixteen) ≡ 6 ∷ 2 ∷ []
unfolding luma_values luma_scaled hadamard in_zigzag in_places scaled_by first_outside first inside grid tab
range_by_steps = refl

-- g = 1 with V = 10 at period 0, V = 11 at period 1: 12 >> 2 and 12 >> 1; without rounding 2 and 5
pub low_periods_round : (luma_values 0 (pos 1 ∷ replicate 15 (pos 0)) ≡ replicate 16 (pos 3))
    × (luma_values 7 (pos 1 ∷ replicate 15 (pos 0)) ≡ replicate 16 (pos 6))
unfolding luma_values luma_scaled hadamard in_places scaled_by grid tab
low_periods_round = (refl, refl)

-- g = -1 with V = 11 at period 0: -11 >> 1; by its size it would be -5
pub shift_rounds_down : chroma_values 1 (negsuc 0 ∷ pos 0 ∷ pos 0 ∷ pos 0 ∷ []) ≡ replicate 4 (negsuc 5)
unfolding chroma_values chroma_scaled hadamard grid tab
shift_rounds_down = refl

pub last_residual : (answered (luma_levels_tests 28 (replicate 15 (pos 0) ++ (negsuc 4080 ∷ [])) sixteen) ≡ 4 ∷ 15 ∷ [])
    × (answered (chroma_levels_tests 28 (replicate 3 (pos 0) ++ (pos 4081 ∷ [])) four) ≡ 4 ∷ 3 ∷ [])
unfolding first_outside first inside
last_residual = (refl, refl)
