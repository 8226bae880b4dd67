-- The head of the file (01, "Plane and record file"; 02, request 02). Assumes nothing.
use Rattle.std.specs.Prelude.{Bool, cond, ◌||◌, List, [], ◌∷◌, ◌++◌, ℕ, ◌+◌, ◌*◌, eqb, Option, Some, None}
use Rattle.octets.specs.Numbers.{bytes_of}
use Rattle.octets.specs.Sum.{summed}

-- "Head, 8 bytes: 48 44, width, height (two bytes each, in macroblocks), sum."
abbrev pub old_mark : ℕ
old_mark = 72 * 256 + 68

abbrev pub old_length : ℕ
old_length = 8

unfoldable pub old_head : (width height : ℕ) → List ℕ
old_head width height = summed (bytes_of old_mark ++ bytes_of width ++ bytes_of height)

-- numbers, each as two bytes
unfoldable pub words : List ℕ → List ℕ
words [] = []
words (n ∷ ns) = bytes_of n ++ words ns

-- "A new head, 10 bytes, mark 48 53, carries n before the sum" (02, request 02)
abbrev pub new_mark : ℕ
new_mark = 72 * 256 + 83

abbrev pub new_length : ℕ
new_length = 10

unfoldable pub new_head : (width height rows : ℕ) → List ℕ
new_head width height rows = summed (bytes_of new_mark ++ bytes_of width ++ bytes_of height ++ bytes_of rows)

-- "The old head is one slice, and the coder writes it exactly if n is the height" (02, request 02)
unfoldable pub head_of : (width height rows : ℕ) → List ℕ
head_of width height rows = cond (eqb rows height) (old_head width height) (new_head width height rows)

-- and how long the head is that it writes
abbrev pub head_length : (height rows : ℕ) → ℕ
head_length height rows = cond (eqb rows height) old_length new_length

-- whether a mark is a head's
abbrev pub is_head : ℕ → Bool
is_head mark = eqb mark old_mark || eqb mark new_mark

-- how long a head is, by its mark; 0 where no head has such a mark
unfoldable pub length_by : ℕ → ℕ
length_by mark = cond (eqb mark old_mark) old_length (cond (eqb mark new_mark) new_length 0)

-- a length that is there unless it is 0: None for 0
abbrev pub some_unless_0 : ℕ → Option ℕ
some_unless_0 n = cond (eqb n 0) None (Some n)
