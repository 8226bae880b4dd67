-- What the code's functions compute on their way. No contract of a public function cites these. Assumes nothing.
use Rattle.std.specs.Prelude.{List, [], ◌∷◌, ℕ, ◌+◌, ◌-◌, ◌*◌, ◌/◌, ℤ, pos, ◌+ℤ◌, ◌-ℤ◌, ◌*ℤ◌, get_or}
use Rattle.lists.specs.Tab.{grid}
use Rattle.lists.specs.Total.{total}
use Rattle.whole.specs.Clip.{clip}
use Rattle.whole.specs.Notation.{◌>>◌}
use Rattle.intra4.specs.Samples.{bit_of, side_if}
use Rattle.intra4.specs.Rules.{row_of, mean, vertical, horizontal}
use Rattle.sides.specs.Plane.{plane}

-- the two halves of a slope: what is past the middle of a side, and what is before it down to the corner
unfoldable pub rising : ℕ → List ℕ → ℕ
rising n l = total (n / 2) (λ i. (i + 1) * get_or l (n / 2 + i) 0)

unfoldable pub falling : ℕ → ℕ → List ℕ → ℕ
falling n corner l = total (n / 2) (λ i. (i + 1) * get_or (corner ∷ l) (n / 2 - 1 - i) 0)

-- how far a plane rises from the middle to column or row k, and a sample of its row and its column
unfoldable pub rise_of : ℕ → ℤ → ℕ → ℤ
rise_of n b k = b *ℤ (pos k -ℤ pos (n / 2 - 1))

unfoldable pub shown_of : ℤ → ℤ → ℕ
shown_of row rise = clip 255 ((row +ℤ rise) >> 5)

-- a mode's samples over the sides and the corner, whether or not they are present
unfoldable pub filled : (above left corner : List ℕ) → ℕ → ℕ → List ℕ
filled above left corner f m =
    get_or (grid 16 (vertical (row_of [] above))
    ∷ grid 16 (horizontal (row_of [] left))
    ∷ grid 16 (λ x y. mean 16 (side_if (bit_of f 0) above) (side_if (bit_of f 1) left))
    ∷ grid 16 (plane 16 (row_of corner above) (row_of corner left))
    ∷ []) m []
