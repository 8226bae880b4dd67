-- What the private functions of the code tell, and ask. No contract of a public function cites this. Assumes nothing.
use Rattle.std.specs.Prelude.{◌≡◌, cond, List, ℕ, ◌+◌, ◌*◌, ◌≤◌, eqb, pos, ◌-ℤ◌, length, get_or}
use Rattle.lists.specs.Total.{total, gap}
use Rattle.picture.specs.declared.Layout.{Layout}
use Rattle.picture.specs.Order.{block_column, block_row}
use Rattle.picture.specs.Plane.{stride, plane_length}
use Rattle.sheet.specs.Errors.{is_present}
use Rattle.sheet.specs.Means.{divided_once}
use Rattle.sheet.specs.declared.Sheet.{Sheet}
use Rattle.sheet.specs.declared.sums.Sums.{Sums}
use Rattle.sheet.specs.declared.sums.Totals.{Totals}
use Rattle.std.specs.Prelude.{Option}
use Rattle.std.specs.Prelude.{Some, None}

-- ---- four sums, none of which has a sign: the signed sum is the difference of the last two

pub record Four : Type 0 where
  pub absolute : ℕ
  pub squared : ℕ
  pub rebuilt : ℕ
  pub original : ℕ

abbrev pub of_sums : Sums → Four
of_sums s = record { absolute = s.absolute; squared = s.squared; rebuilt = s.rebuilt; original = s.original }

abbrev pub of_totals : Totals → Four
of_totals t = record { absolute = t.absolute; squared = t.squared; rebuilt = t.rebuilt; original = t.original }

abbrev pub no_four : Four
no_four = record { absolute = 0; squared = 0; rebuilt = 0; original = 0 }

abbrev pub add_four : Four → Four → Four
add_four x y = record {
  absolute = x.absolute + y.absolute;
  squared = x.squared + y.squared;
  rebuilt = x.rebuilt + y.rebuilt;
  original = x.original + y.original;
}

-- the four rules that are summed, at a place of the planes
abbrev pub absolute_at : (original rebuilt : List ℕ) → ℕ → ℕ
absolute_at original rebuilt place = gap (get_or original place 0) (get_or rebuilt place 0)

abbrev pub squared_at : (original rebuilt : List ℕ) → ℕ → ℕ
squared_at original rebuilt place = absolute_at original rebuilt place * absolute_at original rebuilt place

abbrev pub sample_in : List ℕ → ℕ → ℕ
sample_in plane place = get_or plane place 0

-- what G makes of each of them; G says which places are summed
abbrev pub four_of : (G : (ℕ → ℕ) → ℕ) → (original rebuilt : List ℕ) → Four
four_of G original rebuilt = record {
  absolute = G (absolute_at original rebuilt);
  squared = G (squared_at original rebuilt);
  rebuilt = G (sample_in rebuilt);
  original = G (sample_in original);
}

-- sums of at most b samples
pub record OfAtMost (b : ℕ) (v : Four) : Type 0 where
  pub absolute : v.absolute ≤ 255 * b
  pub squared : v.squared ≤ 65025 * b
  pub rebuilt : v.rebuilt ≤ 255 * b
  pub original : v.original ≤ 255 * b

-- v is what G makes of the four rules, over at most b samples
pub record SumsOver (b : ℕ) (G : (ℕ → ℕ) → ℕ) (original rebuilt : List ℕ) (v : Four) : Type 0 where
  pub is : v ≡ four_of G original rebuilt
  pub low : OfAtMost b v

-- ---- which places are summed

-- n from a place on, and n rows of n, s apart
abbrev pub row_total : (n at : ℕ) → (ℕ → ℕ) → ℕ
row_total n at g = total n (λ i. g (at + i))

abbrev pub square_total : (n s at : ℕ) → (ℕ → ℕ) → ℕ
square_total n s at g = total n (λ j. row_total n (at + j * s) g)

-- those of macroblock m
abbrev pub first_place : Layout → (m : ℕ) → ℕ
first_place l m = block_row l m 0 * stride 16 l + block_column l m 0

abbrev pub macroblock_total : Layout → (m : ℕ) → (ℕ → ℕ) → ℕ
macroblock_total l m g = square_total 16 (stride 16 l) (first_place l m) g

-- and of all that are present
unfoldable pub present_total : Layout → List ℕ → (ℕ → ℕ) → ℕ
present_total l map g = total (l.width * l.height) (λ m. cond (is_present map m) (macroblock_total l m g) 0)

-- ---- what is asked

-- the planes of a picture
pub record Planes (l : Layout) (original rebuilt : List ℕ) : Type 0 where
  pub own : length original ≡ plane_length 16 l
  pub back : length rebuilt ≡ plane_length 16 l

-- 16 rows of 16 places, s apart, lie in both planes
pub record Lies (at s : ℕ) (original rebuilt : List ℕ) : Type 0 where
  pub own : at + 15 * s + 16 ≤ length original
  pub back : at + 15 * s + 16 ≤ length rebuilt

-- ---- from sums to an answer

-- the largest whole number of 53 binary digits, as many as a double has
abbrev pub longest : ℕ
longest = 9007199254740991

-- the sheet of so many macroblocks
abbrev pub sheet_from : (present : ℕ) → Totals → Sheet
sheet_from present t = record {
  absolute = divided_once (pos t.absolute) (256 * present);
  squared = divided_once (pos t.squared) (256 * present);
  signed = divided_once (pos t.rebuilt -ℤ pos t.original) (256 * present);
}

-- what comes of so many macroblocks and their totals: the sheet, and of none nothing
abbrev pub divided_from : (present : ℕ) → Totals → Option Sheet
divided_from present t = cond (eqb present 0) None (Some (sheet_from present t))
