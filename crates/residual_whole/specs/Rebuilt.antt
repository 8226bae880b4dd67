-- A macroblock predicted whole, from levels to samples, and which levels a decoder accepts (02, Req 01 and Req 05; 01, "Transform,
-- quantizer, rescaling"). Assumes nothing.
use Rattle.std.specs.Prelude.{Bool, not, List, ℕ, ◌+◌, ◌*◌, eqb, ℤ, pos, get_or, take, drop}
use Rattle.lists.specs.First.{first}
use Rattle.residual.specs.Entry.{first_wide}
use Rattle.residual.specs.Order.{in_zigzag}
use Rattle.residual.specs.Rebuild.{rebuilt_samples, rescaled_with_dc}
-- values by the DC path of the count, and so of the side
unfoldable pub use Rattle.dc.specs.Dc.{dc_values}
use Rattle.residual_whole.specs.Area.{blocks_of, part_in, by_blocks, raster_place}

-- of "16 DC levels, 16 times 15 AC levels" and "4 DC, then 4 times 15 AC": the AC levels of block b
unfoldable pub ac_in : (s : ℕ) → List ℤ → (b : ℕ) → List ℤ
ac_in s levels b = take 15 (drop (blocks_of s + 15 * b) levels)

-- "DC values go in and come back in raster order": those of the DC levels in front
unfoldable pub values_in : (s qp : ℕ) → List ℤ → List ℤ
values_in s qp levels = dc_values (blocks_of s) qp (take (blocks_of s) levels)

-- that of block b, which stands "by the row and column" of its block
unfoldable pub dc_value_of : (s qp : ℕ) → List ℤ → (b : ℕ) → ℤ
dc_value_of s qp levels b = get_or (values_in s qp levels) (raster_place s b) (pos 0)

-- "A block whose DC comes this way is rebuilt from that rescaled DC and 15 AC levels."
unfoldable pub block_samples : (s qp : ℕ) → List ℕ → List ℤ → (b : ℕ) → List ℕ
block_samples s qp prediction levels b = rebuilt_samples (part_in s b prediction) (rescaled_with_dc qp (dc_value_of s qp levels b) (ac_in s levels b))

-- the s by s samples
unfoldable pub whole_samples : (s qp : ℕ) → List ℕ → List ℤ → List ℕ
whole_samples s qp prediction levels = by_blocks s (block_samples s qp prediction levels)

-- ---- RANGE: "a DC out of range, tested before the AC"

-- no DC value lies outside -32768..32767
unfoldable pub dc_fits : (s qp : ℕ) → List ℤ → Bool
dc_fits s qp levels = eqb (first_wide (values_in s qp levels)) (blocks_of s)

-- the rescaled AC levels of block b, with 0 in the DC's place
unfoldable pub ac_numbers : (s qp : ℕ) → List ℤ → (b : ℕ) → List ℤ
ac_numbers s qp levels b = rescaled_with_dc qp (pos 0) (ac_in s levels b)

-- none of them does
unfoldable pub ac_fits : (s qp : ℕ) → List ℤ → (b : ℕ) → Bool
ac_fits s qp levels b = eqb (first_wide (in_zigzag (ac_numbers s qp levels b))) 16

-- the first block with an AC level out of range, and the number of blocks where there is none
unfoldable pub first_ac : (s qp : ℕ) → List ℤ → ℕ
first_ac s qp levels = first (blocks_of s) (λ b. not (ac_fits s qp levels b))
