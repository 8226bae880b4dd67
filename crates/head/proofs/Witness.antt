-- Heads at which a faulty definition would answer otherwise, computed from the definitions that the contracts cite. Assumes nothing.
use mathlib.Core.Path.{◌≡◌, refl}
use mathlib.Core.List.{[], ◌∷◌}
use lib.ListN.{take}
use Rattle.lists.specs.Chain.{chain}
use Rattle.refusal.specs.Number.{number}
use Rattle.octets.specs.Sum.{summed, sum_holds, sum_of}
use Rattle.head.specs.Entry.{head_tests, size_holds, rows_hold, rows_at, long_at}
use Rattle.head.specs.Heads.{old_head, new_head, head_of, length_by}

-- "1 to 128 macroblocks": numbers at the ends and one beyond, and of a file without a head
pub heads_refused :
    number (chain (head_tests (old_head 0 1))) ∷ number (chain (head_tests (old_head 1 128))) ∷ number (chain (head_tests (old_head 1 129))) ∷ number (chain (head_tests [])) ∷ []
    ≡ 8 ∷ 0 ∷ 8 ∷ 9 ∷ []
unfolding old_head summed sum_of sum_holds size_holds rows_hold rows_at length_by
heads_refused = refl

-- "n of 0 or above the height is SIZE" (02, request 02): of 0, 1, the height, one more and 65535; and of a new head cut to 9 and to 8 bytes
pub rows_refused :
    number (chain (head_tests (new_head 1 3 0))) ∷ number (chain (head_tests (new_head 1 3 1))) ∷ number (chain (head_tests (new_head 1 3 3)))
    ∷ number (chain (head_tests (new_head 1 3 4))) ∷ number (chain (head_tests (new_head 1 3 65535)))
    ∷ number (chain (head_tests (take 9 (new_head 1 3 1)))) ∷ number (chain (head_tests (take 8 (new_head 1 3 1)))) ∷ []
    ≡ 8 ∷ 0 ∷ 0 ∷ 8 ∷ 8 ∷ 9 ∷ 9 ∷ []
unfolding new_head summed sum_of sum_holds size_holds rows_hold rows_at length_by
rows_refused = refl

-- a picture of 2 by 3 macroblocks in slices of two rows, and in one slice: mark and rows of a slice, and where the records begin
pub slices_told :
    head_of 2 3 2 ∷ head_of 2 3 3 ∷ (rows_at (head_of 2 3 2) ∷ rows_at (head_of 2 3 3) ∷ long_at (head_of 2 3 2) ∷ long_at (head_of 2 3 3) ∷ []) ∷ []
    ≡ (72 ∷ 83 ∷ 0 ∷ 2 ∷ 0 ∷ 3 ∷ 0 ∷ 2 ∷ 0 ∷ 162 ∷ []) ∷ (72 ∷ 68 ∷ 0 ∷ 2 ∷ 0 ∷ 3 ∷ 0 ∷ 145 ∷ []) ∷ (2 ∷ 3 ∷ 10 ∷ 8 ∷ []) ∷ []
unfolding head_of old_head new_head summed sum_of rows_at length_by
slices_told = refl
