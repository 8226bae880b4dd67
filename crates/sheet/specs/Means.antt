-- The sheet: "Each is the exact whole-number sum divided once by the exact count" (02, Req 09). Assumes nothing.
use Rattle.std.specs.Prelude.{cond, List, [], ◌∷◌, ℕ, ◌*◌, eqb, ℤ, pos, Float}
use Rattle.std.specs.Float.{binary64}
use Rattle.std.specs.Float.Ieee.{of_int, div}
use Rattle.picture.specs.declared.Layout.{Layout}
use Rattle.sheet.specs.Errors.{signed_error, absolute_error, squared_error, present_count, sample_count, present_sum}
use Rattle.sheet.specs.declared.Sheet.{Sheet}
use Rattle.std.specs.Prelude.{Option, Some, None}

-- both become doubles, exactly (theorem `sums_exact`), and are divided with one rounding (`one_rounding`)
abbrev pub divided_once : (sum : ℤ) (count : ℕ) → Float
divided_once sum count = div binary64 (of_int binary64 sum) (of_int binary64 (pos count))

-- "mean absolute error, mean squared error, and mean signed error (rebuilt less original)"
abbrev pub sheet_of : Layout → (original rebuilt map : List ℕ) → Sheet
sheet_of l original rebuilt map = record {
  absolute = divided_once (present_sum l map (absolute_error original rebuilt)) (sample_count l map);
  squared = divided_once (present_sum l map (squared_error original rebuilt)) (sample_count l map);
  signed = divided_once (present_sum l map (signed_error original rebuilt)) (sample_count l map);
}

-- "With nothing present the answer is 'no sheet', and exactly then"
abbrev pub given_of : Layout → (original rebuilt map : List ℕ) → Option Sheet
given_of l original rebuilt map = cond (eqb (present_count (l.width * l.height) map) 0) None (Some (sheet_of l original rebuilt map))

-- ---- in an area of three doubles

-- in the paper's order
abbrev pub means_of : Sheet → List Float
means_of s = s.absolute ∷ s.squared ∷ s.signed ∷ []

-- "zero must not be printed": without a sheet the area keeps what it held
abbrev pub area_of : Option Sheet → List Float → List Float
area_of None before = before
area_of (Some s) before = means_of s
