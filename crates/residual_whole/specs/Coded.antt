-- A macroblock predicted whole, from samples to levels: "with the luma DC path" (02, Req 01), or chroma's, "the DC path, and AC blocks"
-- (02, Req 05; 01, "Transform, quantizer, rescaling"). Assumes nothing.
use Rattle.std.specs.Prelude.{List, ◌++◌, ℕ, ℤ}
use Rattle.lists.specs.Parts.{parts}
use Rattle.block.specs.Block.{residual_of}
use Rattle.dc.specs.Dc.{dc_of}
-- levels by the DC path of the count, and so of the side
unfoldable pub use Rattle.dc.specs.Dc.{dc_levels}
use Rattle.dc.specs.Path.{ac_of}
use Rattle.residual_whole.specs.Area.{blocks_of, part_in, raster_block}

-- what the prediction lacks in block b
unfoldable pub residual_in : (s : ℕ) → (samples prediction : List ℕ) → (b : ℕ) → List ℤ
residual_in s samples prediction b = residual_of (part_in s b samples) (part_in s b prediction)

-- "the 16 DC values stand in a 4x4 block by the row and column of their blocks in the macroblock", chroma's 4 in "2x2 .., raster order"
unfoldable pub whole_dc : (s : ℕ) → (samples prediction : List ℕ) → List ℤ
whole_dc s samples prediction = dc_of (blocks_of s) (λ place. residual_in s samples prediction (raster_block s place))

-- "16 DC levels, 16 times 15 AC levels"; "64 levels .. (4 DC, then 4 times 15 AC)"
unfoldable pub whole_levels : (s qp : ℕ) → (samples prediction : List ℕ) → List ℤ
whole_levels s qp samples prediction = dc_levels (blocks_of s) qp (whole_dc s samples prediction) ++ parts (blocks_of s) (λ b. ac_of qp (residual_in s samples prediction b))
