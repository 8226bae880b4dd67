-- A macroblock's s by s samples in raster order, block by block: 16 by 16 of luma (02, Req 01), 8 by 8 of a chroma plane (02, Req 05).
-- Assumes nothing.
use Rattle.std.specs.Prelude.{Bool, ◌||◌, List, ℕ, ◌+◌, ◌*◌, ◌/◌, ◌%◌, T, eqb, get_or}
use Rattle.lists.specs.Tab.{grid}
use Rattle.picture.specs.Order.{block_in, column_in, row_in}
use Rattle.picture.specs.Plane.{block_at, stored}

-- the sides of a macroblock: luma's and chroma's
abbrev pub sided : ℕ → Bool
sided s = eqb s 16 || eqb s 8

abbrev pub Sided : ℕ → Type 0
Sided s = T (sided s)

-- how many 4x4 blocks it has: 16 and 4
abbrev pub blocks_of : ℕ → ℕ
blocks_of s = s * s / 16

-- the samples of block b, read and stored. Chroma's blocks stand "0 1 / 2 3", as the first four of the table do
abbrev pub part_in : (s b : ℕ) → List ℕ → List ℕ
part_in s b area = block_at 4 s (4 * column_in b) (4 * row_in b) area

abbrev pub with_part : (s b : ℕ) → List ℕ → List ℕ → List ℕ
with_part s b block area = stored 4 s (4 * column_in b) (4 * row_in b) block area

-- the samples whose 4x4 block b is `make b`: each is that of the block that holds it
unfoldable pub by_blocks : (s : ℕ) → (ℕ → List ℕ) → List ℕ
by_blocks s make = grid s (λ x y. get_or (make (block_in (x / 4) (y / 4))) (4 * (y % 4) + x % 4) 0)

-- the place of block b among the blocks in raster order, and the block of a place
unfoldable pub raster_place : (s b : ℕ) → ℕ
raster_place s b = s / 4 * row_in b + column_in b

unfoldable pub raster_block : (s place : ℕ) → ℕ
raster_block s place = block_in (place % (s / 4)) (place / (s / 4))
