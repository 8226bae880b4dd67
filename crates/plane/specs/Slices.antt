-- The samples of a slice, "a run of n whole macroblock rows" (02, Req 02). Assumes nothing.
use Rattle.std.specs.Prelude.{◌≡◌, List, ℕ, ◌/◌, ◌<◌, get_or}
use Rattle.picture.specs.declared.Layout.{Layout}
use Rattle.picture.specs.Plane.{stride, plane_length}

-- the slice, from 0, of the sample at a place of the plane: by its row, the row's macroblock row, and n of these
abbrev pub slice_at : Layout → (i : ℕ) → ℕ
slice_at l i = i / stride 16 l / 16 / l.rows

-- two planes have the same samples in the rows of a slice
abbrev pub SameInSlice : Layout → (slice : ℕ) → (p q : List ℕ) → Type 0
SameInSlice l slice p q = (i : ℕ) → i < plane_length 16 l → slice_at l i ≡ slice → get_or p i 0 ≡ get_or q i 0
