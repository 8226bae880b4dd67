-- Sums and answers by evaluation, at named inputs: 97 rebuilt where 100 was original.
--     one_macroblock        a picture of 1x1: three below in every sample
--     second_absent         a picture of 2x1 whose second macroblock is absent: only the first one counts
--     minus_three           the signed mean of the first is -3, and no bit is lost
--     rounded_twice         what the reciprocal of the count, rounded first, would give in place of a mean
--     nothing_present       there is no sheet, not one of zeros
--     flag_refused, length_before_flags     a map byte of 2; and LENGTH before it
-- Assumes nothing.
use mathlib.Core.Path.{◌≡◌, refl}
use mathlib.Core.Bool.{true, false}
use mathlib.Core.List.{List, [], ◌∷◌, ◌++◌}
use Prim.Native.Nat.{ℕ, zero, suc}
use lib.Ieee.{fin, binary64, mul, div, of_int, round, units, odd, size, climb, span}
use lib.IntN.{pos, negsuc}
use lib.ListN.{replicate}
use Rattle.lists.specs.Chain.{stop, chain}
use Rattle.lists.specs.First.{first}
use Rattle.lists.specs.Total.{total}
use Rattle.head.specs.Entry.{size_holds}
use Rattle.refusal.specs.declared.Refusal.TheVariants as refusal
use Rattle.picture.specs.Order.{block_table, table_place, column_in, row_in, block_column, block_row}
use Rattle.picture.specs.Plane.{layout_of}
use Rattle.sheet.specs.Entry.{first_flag, sheet_tests}
use Rattle.sheet.specs.Errors.{signed_error, absolute_error, squared_error, present_count, sample_count, square_sum, present_sum}
use Rattle.sheet.specs.Means.{given_of, divided_once}
use Rattle.std.specs.Prelude.{None}

-- n samples of 100, of 97
abbrev hundreds : ℕ → List ℕ
hundreds n = replicate n 100

abbrev less : ℕ → List ℕ
less n = replicate n 97

pub one_macroblock : (present_sum (layout_of 1 1) (1 ∷ []) (absolute_error (hundreds 256) (less 256)) ≡ pos 768)
    × (present_sum (layout_of 1 1) (1 ∷ []) (squared_error (hundreds 256) (less 256)) ≡ pos 2304)
    × (present_sum (layout_of 1 1) (1 ∷ []) (signed_error (hundreds 256) (less 256)) ≡ negsuc 767)
    × (sample_count (layout_of 1 1) (1 ∷ []) ≡ 256)
unfolding present_sum square_sum present_count total block_column block_row column_in row_in table_place block_table first
one_macroblock = (refl, refl, refl, refl)

-- rows of 32 samples, sixteen of each macroblock: the absent one is 155 off
abbrev pair_of_rows : ℕ → List ℕ → List ℕ
pair_of_rows zero rest = rest
pair_of_rows (suc n) rest = replicate 16 97 ++ replicate 16 255 ++ pair_of_rows n rest

pub second_absent : (present_sum (layout_of 2 1) (1 ∷ 0 ∷ []) (signed_error (hundreds 512) (pair_of_rows 16 [])) ≡ negsuc 767)
    × (present_sum (layout_of 2 1) (1 ∷ 1 ∷ []) (signed_error (hundreds 512) (pair_of_rows 16 [])) ≡ pos 38912)
    × (sample_count (layout_of 2 1) (1 ∷ 0 ∷ []) ≡ 256)
unfolding present_sum square_sum present_count total block_column block_row column_in row_in table_place block_table first
second_absent = (refl, refl, refl)

-- the mean of one_macroblock is -3, exactly
pub minus_three : divided_once (negsuc 767) 256 ≡ fin true 3 (pos 0)
unfolding div of_int round units odd size climb span
minus_three = refl

-- three macroblocks, a sum of 1280: the mean is the double nearest to 5/3; by the rounded reciprocal it would be the double below
pub rounded_twice : (divided_once (pos 1280) 768 ≡ fin false 7505999378950827 (negsuc 51))
    × (mul binary64 (of_int binary64 (pos 1280)) (div binary64 (of_int binary64 (pos 1)) (of_int binary64 (pos 768))) ≡ fin false 3752999689475413 (negsuc 50))
unfolding mul div of_int round units odd size climb span
rounded_twice = (refl, refl)

pub nothing_present : (original rebuilt : List ℕ) → given_of (layout_of 1 1) original rebuilt (0 ∷ []) ≡ None
unfolding present_count total
nothing_present original rebuilt = refl

pub flag_refused : chain (sheet_tests 1 1 (hundreds 256) (less 256) (2 ∷ [])) ≡ stop (refusal.Flags 0)
unfolding size_holds first_flag first
flag_refused = refl

pub length_before_flags : chain (sheet_tests 1 1 [] (less 256) (2 ∷ [])) ≡ stop refusal.Length
unfolding size_holds first_flag first
length_before_flags = refl
