-- The order in which macroblocks and blocks are coded, and where they stand (01, "Plane and record file"). Assumes nothing.
use Rattle.std.specs.Prelude.{Bool, ◌&&◌, ◌||◌, List, [], ◌∷◌, ℕ, ◌+◌, ◌*◌, ◌/◌, ◌%◌, ◌<◌, ◌≤◌, T, eqb, ltb, get_or}
use Rattle.lists.specs.First.{first}
use Rattle.picture.specs.declared.Layout.{Layout}

-- "blocks 0-15 by rows: 0 1 4 5 / 2 3 6 7 / 8 9 12 13 / 10 11 14 15"
unfoldable pub block_table : List ℕ
block_table =
    0 ∷ 1 ∷ 4 ∷ 5
    ∷ 2 ∷ 3 ∷ 6 ∷ 7
    ∷ 8 ∷ 9 ∷ 12 ∷ 13
    ∷ 10 ∷ 11 ∷ 14 ∷ 15 ∷ []

-- the block in column u and row v of the table
unfoldable pub block_in : (u v : ℕ) → ℕ
block_in u v = get_or block_table (4 * v + u) 0

-- and the other way: where block b stands in the table, its column and its row
unfoldable pub table_place : ℕ → ℕ
table_place b = first 16 (λ place. eqb (get_or block_table place 0) b)

unfoldable pub column_in : ℕ → ℕ
column_in b = table_place b % 4

unfoldable pub row_in : ℕ → ℕ
row_in b = table_place b / 4

-- ---- blocks of n by n samples: 4 by 4, 8 by 8, and the whole macroblock

abbrev pub sized : ℕ → Bool
sized n = eqb n 4 || (eqb n 8 || eqb n 16)

abbrev pub Size : ℕ → Type 0
Size n = T (sized n)

-- how many 4x4 blocks such a block covers, and how many such blocks a macroblock has
unfoldable pub covers : ℕ → ℕ
covers n = n * n / 16

unfoldable pub block_count : ℕ → ℕ
block_count n = 256 / (n * n)

-- a block of n by n begins with 4x4 block b: of 4 by 4 each of the sixteen; of 8 by 8 blocks 0, 4, 8 and 12; of 16 by 16 block 0
unfoldable pub starts : (n b : ℕ) → Bool
starts n b = sized n && (ltb b 16 && eqb (b % covers n) 0)

abbrev pub Starts : (n b : ℕ) → Type 0
Starts n b = T (starts n b)

-- ---- macroblocks and blocks in the picture

-- how many macroblocks a picture has
abbrev pub count_of : Layout → ℕ
count_of l = l.width * l.height

-- column and row of the first sample of macroblock m, in a plane where a macroblock has s by s samples, 16 in luma and 8 in chroma:
-- macroblocks are "numbered in raster order from 0"
abbrev pub whole_column : (s : ℕ) → Layout → (m : ℕ) → ℕ
whole_column s l m = s * (m % l.width)

abbrev pub whole_row : (s : ℕ) → Layout → (m : ℕ) → ℕ
whole_row s l m = s * (m / l.width)

-- and of its block b, in luma
unfoldable pub block_column : Layout → (m b : ℕ) → ℕ
block_column l m b = whole_column 16 l m + 4 * column_in b

unfoldable pub block_row : Layout → (m b : ℕ) → ℕ
block_row l m b = whole_row 16 l m + 4 * row_in b

-- "Macroblocks go in raster order": the number of block b of macroblock m in the coding order
abbrev pub order_of : (m b : ℕ) → ℕ
order_of m b = 16 * m + b

-- the macroblock that holds the sample in column x of row y, in such a plane
abbrev pub macroblock_in : (s : ℕ) → Layout → (x y : ℕ) → ℕ
macroblock_in s l x y = y / s * l.width + x / s

-- in luma, and the number of its block
abbrev pub macroblock_at : Layout → (x y : ℕ) → ℕ
macroblock_at l x y = macroblock_in 16 l x y

unfoldable pub order_at : Layout → (x y : ℕ) → ℕ
order_at l x y = order_of (macroblock_at l x y) (block_in (x / 4 % 4) (y / 4 % 4))

-- "Width and height are 1 to 128 macroblocks"; a slice has rows: "n of 0 .. is SIZE" (02, request 02)
pub record Sound (l : Layout) : Type 0 where
  pub some : 0 < l.width
  pub wide : l.width ≤ 128
  pub high : l.height ≤ 128
  pub rows : 0 < l.rows

-- block b of macroblock m is one of the picture's
pub record Among (l : Layout) (m b : ℕ) : Type 0 where
  pub sound : Sound l
  pub macroblock : m < count_of l
  pub block : b < 16

-- the block of n by n that begins with its block b is
pub record AmongOf (n : ℕ) (l : Layout) (m b : ℕ) : Type 0 where
  pub sound : Sound l
  pub macroblock : m < count_of l
  pub start : Starts n b
