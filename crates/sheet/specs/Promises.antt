-- The words of the theorems about the sheet (02, Req 09). No contract cites them. Assumes nothing.
use Rattle.std.specs.Prelude.{◌≡◌, Bool, true, false, List, ℕ, ◌*◌, ◌<◌, ℤ, pos, negsuc, nat_abs, length, Float}
use Rattle.std.specs.Float.{binary64}
use Rattle.std.specs.Float.Ieee.{round, of_int}
use Rattle.std.specs.Float.Ieee.Exact.{HasValue}
use Rattle.picture.specs.declared.Layout.{Layout}
use Rattle.picture.specs.Order.{block_column, block_row}
use Rattle.picture.specs.Plane.{stride, block_at}
use Rattle.sheet.specs.Errors.{signed_error, absolute_error, squared_error, is_present, sample_count, present_sum}
use Rattle.sheet.specs.declared.Sheet.{Sheet}

-- whether a whole number is below 0
abbrev pub is_negative : ℤ → Bool
is_negative (pos n) = false
is_negative (negsuc n) = true

-- a double is the fraction z / c
abbrev pub IsFraction : Float → ℤ → ℕ → Type 0
IsFraction x z c = HasValue x (is_negative z) (nat_abs z) c

-- a whole number that is the same number as a double
abbrev pub Converts : ℤ → Type 0
Converts z = IsFraction (of_int binary64 z) z 1

-- "divided once": the double nearest to the fraction z / c, at a tie the even one
abbrev pub rounded_once : ℤ → ℕ → Float
rounded_once z c = round binary64 (is_negative z) (nat_abs z) c

-- P of each mean of a sheet and of the sum that it is the mean of
pub record OfEach (l : Layout) (original rebuilt map : List ℕ) (s : Sheet) (P : Float → ℤ → Type 0) : Type 0 where
  pub absolute : P s.absolute (present_sum l map (absolute_error original rebuilt))
  pub squared : P s.squared (present_sum l map (squared_error original rebuilt))
  pub signed : P s.signed (present_sum l map (signed_error original rebuilt))

-- "the exact whole-number sum", "the exact count": neither loses anything as a double
pub record SumsExact (l : Layout) (original rebuilt map : List ℕ) : Type 0 where
  pub absolute : Converts (present_sum l map (absolute_error original rebuilt))
  pub squared : Converts (present_sum l map (squared_error original rebuilt))
  pub signed : Converts (present_sum l map (signed_error original rebuilt))
  pub count : Converts (pos (sample_count l map))

-- the samples of macroblock m
abbrev pub macroblock_of : Layout → (m : ℕ) → List ℕ → List ℕ
macroblock_of l m plane = block_at 16 (stride 16 l) (block_column l m 0) (block_row l m 0) plane

-- two planes of the same length have the same samples in every macroblock that is present
pub record AgreeInPresent (l : Layout) (map a b : List ℕ) : Type 0 where
  pub long : length a ≡ length b
  pub same : (m : ℕ) → m < l.width * l.height → is_present map m ≡ true → macroblock_of l m a ≡ macroblock_of l m b
