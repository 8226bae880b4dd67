-- "A plane is its raster rows without gaps, 256*width*height bytes" (01, "Plane and record file"): blocks of n by n samples read from
-- it and stored into it, and the neighbours of a block. Assumes nothing.
use Rattle.std.specs.Prelude.{cond, List, ℕ, ◌+◌, ◌*◌, ◌-◌, ◌/◌, ◌%◌, get_or}
use Rattle.lists.specs.Fold.{fold}
use Rattle.lists.specs.Stores.{stores}
use Rattle.lists.specs.Tab.{tab, grid}
use Rattle.picture.specs.declared.Layout.{Layout}
use Rattle.picture.specs.Order.{count_of, covers, block_count, block_column, block_row}
use Rattle.picture.specs.Presence.{neighbour_column, neighbour_row, present_at}

-- the picture of a size, as one slice
abbrev pub layout_of : (width height : ℕ) → Layout
layout_of width height = record { width = width; height = height; rows = height }

-- the samples of a row, and of the plane, where a macroblock has s by s of them: 16 by 16 in luma, so "256*width*height bytes"
abbrev pub stride : (s : ℕ) → Layout → ℕ
stride s l = s * l.width

abbrev pub plane_length : (s : ℕ) → Layout → ℕ
plane_length s l = s * s * count_of l

-- the sample in column x of row y, in rows of s samples
abbrev pub sample_at : (s : ℕ) → List ℕ → (x y : ℕ) → ℕ
sample_at s plane x y = get_or plane (y * s + x) 0

-- the n by n samples from column x of row y on, in raster order
unfoldable pub block_at : (n s x y : ℕ) → List ℕ → List ℕ
block_at n s x y plane = grid n (λ i j. sample_at s plane (x + i) (y + j))

-- where sample k of such a block stands in the plane
abbrev pub sample_place : (n s x y k : ℕ) → ℕ
sample_place n s x y k = (y + k / n) * s + (x + k % n)

-- the plane with the samples of a block in their places
unfoldable pub stored : (n s x y : ℕ) → List ℕ → List ℕ → List ℕ
stored n s x y block plane = stores (n * n) (sample_place n s x y) (λ k. get_or block k 0) plane

-- the n by n samples from the first of block b of macroblock m on: read, and stored
abbrev pub block_of : (n : ℕ) → Layout → (m b : ℕ) → List ℕ → List ℕ
block_of n l m b plane = block_at n (stride 16 l) (block_column l m b) (block_row l m b) plane

abbrev pub with_block : (n : ℕ) → Layout → (m b : ℕ) → List ℕ → List ℕ → List ℕ
with_block n l m b block plane = stored n (stride 16 l) (block_column l m b) (block_row l m b) block plane

-- neighbour k of the n by n samples from the first of block b of macroblock m on. A missing one has no value: 0 stands in its place,
-- and what is made of the neighbours must ask the flags first
unfoldable pub neighbour : (n : ℕ) → Layout → (m b : ℕ) → List ℕ → ℕ → ℕ
neighbour n l m b plane k =
    cond (present_at n l m b k)
    (sample_at (stride 16 l) plane (neighbour_column n (block_column l m b) k - 1) (neighbour_row n (block_row l m b) k - 1))
    0

-- all of them, "in the order M, A to H, I to L"
unfoldable pub gathered : (n : ℕ) → Layout → (m b : ℕ) → List ℕ → List ℕ
gathered n l m b plane = tab (3 * n + 1) (neighbour n l m b plane)

-- a block's turn: `make m b` makes its n by n samples of its neighbours, which "are rebuilt samples"
unfoldable pub turn : (n : ℕ) → (make : ℕ → ℕ → List ℕ → List ℕ) → Layout → (m b : ℕ) → List ℕ → List ℕ
turn n make l m b plane = with_block n l m b (make m b (gathered n l m b plane)) plane

-- the first k turns of a macroblock's blocks of n by n, in their order; and all of them, 16 of 4 by 4, 4 of 8 by 8 or 1 of 16 by 16
unfoldable pub first_turns : (n : ℕ) → (make : ℕ → ℕ → List ℕ → List ℕ) → Layout → (m k : ℕ) → List ℕ → List ℕ
first_turns n make l m k plane = fold k (λ j. turn n make l m (covers n * j)) plane

abbrev pub turns : (n : ℕ) → (make : ℕ → ℕ → List ℕ → List ℕ) → Layout → (m : ℕ) → List ℕ → List ℕ
turns n make l m plane = first_turns n make l m (block_count n) plane
