-- Inputs at which a fault would show: what the must-fail edits on the definitions' side are measured by.
--     halvings_fall          one coefficient of -65 in row 2, column 1: columns before rows, and halvings toward zero, give another block each
--     length_comes_first     too many numbers, all out of range: LENGTH, not RESIDUAL
-- Assumes nothing.
use mathlib.Core.Path.{◌≡◌, refl}
use mathlib.Core.List.{List, [], ◌∷◌}
use lib.IntN.{ℤ, pos, negsuc, ◌+ℤ◌, ◌-ℤ◌}
use lib.ListN.{get_or, replicate}
use lib.Signed.{quot_z}
use Rattle.lists.specs.Chain.{chain, stop}
use Rattle.lists.specs.Tab.{tab, grid}
use Rattle.refusal.specs.declared.Refusal.TheVariants.{Length}
use Rattle.transform.specs.Entry.{forward_tests}
use Rattle.transform.specs.Inverse.{back, rounded, inverse}
use Rattle.transform.specs.Matrix.{Line, each_row, each_column, raster, entries}

abbrev pub one : List ℤ
one =
    pos 0 ∷ pos 0 ∷ pos 0 ∷ pos 0
    ∷ pos 0 ∷ pos 0 ∷ pos 0 ∷ pos 0
    ∷ pos 0 ∷ negsuc 64 ∷ pos 0 ∷ pos 0
    ∷ pos 0 ∷ pos 0 ∷ pos 0 ∷ pos 0 ∷ []

-- the same with columns before rows
abbrev pub columns_first : List ℤ → List ℤ
columns_first d = entries 4 (λ row column. rounded (each_row back (each_column back (raster 4 d)) row column))

-- and with halvings toward zero
abbrev toward_zero : Line → Line
toward_zero w = λ place. get_or ((w 0 +ℤ w 2 +ℤ (w 1 +ℤ quot_z (w 3) (pos 2))) ∷ (w 0 -ℤ w 2 +ℤ (quot_z (w 1) (pos 2) -ℤ w 3))
    ∷ ((w 0 -ℤ w 2) -ℤ (quot_z (w 1) (pos 2) -ℤ w 3)) ∷ ((w 0 +ℤ w 2) -ℤ (w 1 +ℤ quot_z (w 3) (pos 2))) ∷ []) place (pos 0)

abbrev pub halved_toward_zero : List ℤ → List ℤ
halved_toward_zero d = entries 4 (λ row column. rounded (each_column toward_zero (each_row toward_zero (raster 4 d)) row column))

pub halvings_fall : (get_or (inverse one) 6 (pos 0) ≡ negsuc 0)
    × (get_or (columns_first one) 6 (pos 0) ≡ pos 0)
    × (get_or (halved_toward_zero one) 6 (pos 0) ≡ pos 0)
unfolding inverse grid tab
halvings_fall = (refl, refl, refl)

pub length_comes_first : chain (forward_tests (replicate 17 (pos 256)) (replicate 16 (pos 0))) ≡ stop Length
length_comes_first = refl
