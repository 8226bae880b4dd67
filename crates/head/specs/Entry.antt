-- Reading a head: "9 if the mark is cut, 11, 9 if the rest is cut, .. 13; the head the same without 12. 9 keeps its place" (02, request 03), "head
-- (short ..: 9, place 0), SIZE" (01, "What is sent back, and in which order it is tested"); "n of 0 or above the height is SIZE" (02, request 02).
-- Assumes nothing.
use Rattle.std.specs.Prelude.{◌≡◌, Bool, cond, ◌&&◌, List, [], ◌∷◌, ℕ, eqb, leb, length, take}
use Rattle.lists.specs.Chain.{Test, test, chain, written}
use Rattle.refusal.specs.Faults.{refusal_of}
use Rattle.refusal.specs.Number.{said, Says}
use Rattle.refusal.specs.declared.Fault.TheVariants.{Mark, Sum}
use Rattle.refusal.specs.declared.Refusal.TheVariants as refusal
use Rattle.refusal.specs.declared.Refusal.{Refusal}
use Rattle.octets.specs.Numbers.{number_at}
use Rattle.octets.specs.Sum.{sum_holds}
use Rattle.head.specs.Heads.{new_mark, is_head, length_by}
use Rattle.head.specs.declared.Head.{Head}
use Rattle.std.specs.Prelude.{Err, Ok, Result}

-- "Width and height are 1 to 128 macroblocks"
abbrev pub dimension : ℕ → Bool
dimension n = leb 1 n && leb n 128

unfoldable pub size_holds : (width height : ℕ) → Bool
size_holds width height = dimension width && dimension height

-- "n of 0 or above the height is SIZE" (02, request 02)
unfoldable pub rows_hold : (height rows : ℕ) → Bool
rows_hold height rows = leb 1 rows && leb rows height

-- what a head says: how long it is, by its mark, and the size of the picture
abbrev pub long_at : List ℕ → ℕ
long_at file = length_by (number_at 0 file)

abbrev pub width_at : List ℕ → ℕ
width_at file = number_at 2 file

abbrev pub height_at : List ℕ → ℕ
height_at file = number_at 4 file

-- the rows of a slice: a new head "carries n before the sum", "the old head is one slice" (02, request 02)
unfoldable pub rows_at : List ℕ → ℕ
rows_at file = cond (eqb (number_at 0 file) new_mark) (number_at 6 file) (height_at file)

-- a cut mark, the mark, a cut rest, the sum; then SIZE
abbrev pub head_tests : List ℕ → List (Test Refusal)
head_tests file =
    test (leb 2 (length file)) (refusal.Form 0)
    ∷ test (is_head (number_at 0 file)) (refusal_of Mark 0 (long_at file) (length file))
    ∷ test (leb (long_at file) (length file)) (refusal.Form 0)
    ∷ test (sum_holds (take (long_at file) file)) (refusal_of Sum 0 (long_at file) (length file))
    ∷ test (size_holds (width_at file) (height_at file)) refusal.Size
    ∷ test (rows_hold (height_at file) (rows_at file)) refusal.Size ∷ []

-- what comes back (0 where refused): width, height, the rows of a slice, the head's own length
abbrev pub width_of : Result Head Refusal → ℕ
width_of (Ok h) = h.width
width_of (Err r) = 0

abbrev pub height_of : Result Head Refusal → ℕ
height_of (Ok h) = h.height
height_of (Err r) = 0

abbrev pub rows_of : Result Head Refusal → ℕ
rows_of (Ok h) = h.rows
rows_of (Err r) = 0

abbrev pub long_of : Result Head Refusal → ℕ
long_of (Ok h) = h.long
long_of (Err r) = 0

-- the size of the picture, the rows of a slice and where the records begin, or the refusal
pub record ReadsHead (file : List ℕ) (h : Result Head Refusal) : Type 0 where
  pub says : Says (said h) (chain (head_tests file))
  pub width : width_of h ≡ written (chain (head_tests file)) (width_at file) 0
  pub height : height_of h ≡ written (chain (head_tests file)) (height_at file) 0
  pub rows : rows_of h ≡ written (chain (head_tests file)) (rows_at file) 0
  pub long : long_of h ≡ written (chain (head_tests file)) (long_at file) 0
