-- What the code's functions compute on their way. No contract of a public function cites these. Assumes nothing.
use Rattle.std.specs.Prelude.{List, [], ◌∷◌, ℕ, ◌+◌, ◌*◌, ◌/◌, get_or}
use Rattle.lists.specs.Tab.{grid}
use Rattle.intra4.specs.Samples.{Side, missing, Round, masked}
use Rattle.intra4.specs.Rules.{row_of, vertical, horizontal}
use Rattle.sides.specs.Plane.{plane}
use Rattle.chroma.specs.Rules.{quarter_dc}

-- two sides without a corner, which DC does not see
abbrev pub sides_only : (above left : Side) → Round
sides_only above left = record { above = above; left = left; corner = missing }

-- the means of the four quarters, and the one in column u and row v
abbrev pub quarter_means : (above left : Side) → List ℕ
quarter_means above left =
    let r = sides_only above left in
    quarter_dc r 0 0 ∷ quarter_dc r 1 0 ∷ quarter_dc r 0 1 ∷ quarter_dc r 1 1 ∷ []

abbrev pub quarter_at : List ℕ → ℕ → ℕ → ℕ
quarter_at l u v = get_or l (2 * v + u) 0

-- a mode's samples over the sides and the corner, whether or not they are present
unfoldable pub filled : (above left corner : List ℕ) → ℕ → ℕ → List ℕ
filled above left corner f m =
    get_or (grid 8 (λ x y. quarter_dc (masked above left corner f) (x / 4) (y / 4))
    ∷ grid 8 (horizontal (row_of [] left))
    ∷ grid 8 (vertical (row_of [] above))
    ∷ grid 8 (plane 8 (row_of corner above) (row_of corner left))
    ∷ []) m []
