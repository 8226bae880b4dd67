-- Errors summed over the samples of the macroblocks that are present (02, Req 09). Assumes nothing.
use Rattle.std.specs.Prelude.{Bool, cond, List, ℕ, ◌+◌, ◌*◌, eqb, ℤ, pos, nat_abs, ◌-ℤ◌, ◌*ℤ◌, get_or}
use Rattle.lists.specs.Total.{total}
use Rattle.whole.specs.Sum.{sum}
use Rattle.picture.specs.declared.Layout.{Layout}
use Rattle.picture.specs.Order.{block_column, block_row}
use Rattle.picture.specs.Plane.{stride}

-- ---- the error at a place of the two planes

-- "rebuilt less original"
abbrev pub signed_error : (original rebuilt : List ℕ) → ℕ → ℤ
signed_error original rebuilt place = pos (get_or rebuilt place 0) -ℤ pos (get_or original place 0)

-- "absolute error"
abbrev pub absolute_error : (original rebuilt : List ℕ) → ℕ → ℤ
absolute_error original rebuilt place = pos (nat_abs (signed_error original rebuilt place))

-- "squared error"
abbrev pub squared_error : (original rebuilt : List ℕ) → ℕ → ℤ
squared_error original rebuilt place = signed_error original rebuilt place *ℤ signed_error original rebuilt place

-- ---- "a map of macroblocks present": a byte for each, by its number

abbrev pub is_present : List ℕ → ℕ → Bool
is_present map m = eqb (get_or map m 0) 1

-- how many of the first n macroblocks are present
unfoldable pub present_count : ℕ → List ℕ → ℕ
present_count n map = total n (λ m. cond (is_present map m) 1 0)

-- "the exact count": their samples
abbrev pub sample_count : Layout → List ℕ → ℕ
sample_count l map = 256 * present_count (l.width * l.height) map

-- ---- sums

-- of f over the n by n places from column x of row y on, in rows of s
unfoldable pub square_sum : (n s x y : ℕ) → (ℕ → ℤ) → ℤ
square_sum n s x y f = sum n (λ j. sum n (λ i. f ((y + j) * s + (x + i))))

-- over the places of macroblock m: 16 by 16 samples from the first of its block 0 on (01, "Plane and record file")
abbrev pub macroblock_sum : Layout → (m : ℕ) → (ℕ → ℤ) → ℤ
macroblock_sum l m f = square_sum 16 (stride 16 l) (block_column l m 0) (block_row l m 0) f

-- "every sample of an absent macroblock is left out"
unfoldable pub present_sum : Layout → List ℕ → (ℕ → ℤ) → ℤ
present_sum l map f = sum (l.width * l.height) (λ m. cond (is_present map m) (macroblock_sum l m f) (pos 0))
