-- The definitions at numbers that another program has computed, from document 01's text alone.
--     dc_by_place          samples that are their block's number: DC coefficients stand by row and column, not by number
--     ac_by_number         a sample in the block at place 4 of the table: the AC levels are those of block 2, and block 4 has none
--     value_by_place       and back: block 2 stands at the left, block 4 at the right
--     dc_in_zigzag         the third DC level stands at place 4: the values of the upper rows are positive, the others negative
--     flat, flat_back      110 beside 100 at QP 28 ("Sixteen luma DC of 160 at QP 28: first level 10, rest 0; back 640 each"): 110 comes back
--     chroma_by_place      of chroma: samples that are their block's number, and a second DC level alone: coefficients and values stand in raster order
--     chroma_flat          110 beside 100 at QP 28 ("Four chroma DC of 160 at 28: 5,0,0,0; back 640 each"): 110 comes back
--     chroma_out           at QP 51 a DC level of 19 and an AC level of 1200 in block 3 lie too far, a DC level of 18 does not
--     dc_out, ac_out       at QP 51 a DC level of 16383 and an AC level of 1200 in block 3 lie too far; the AC test counts 0 for the DC
-- Assumes nothing.
use mathlib.Core.Path.{◌≡◌, refl}
use mathlib.Core.Bool.{true, false}
use mathlib.Core.List.{List, [], ◌∷◌}
use Prim.Native.Nat.{ℕ, ◌/◌}
use lib.IntN.{ℤ, pos, negsuc}
use lib.ListN.{replicate, set}
use Rattle.lists.specs.First.{first}
use Rattle.lists.specs.Parts.{parts}
use Rattle.lists.specs.Tab.{tab, grid}
use Rattle.whole.specs.Clip.{clip}
use Rattle.whole.specs.Range.{inside, first_outside}
use Rattle.transform.specs.Forward.{forward}
use Rattle.transform.specs.Hadamard.{hadamard}
use Rattle.transform.specs.Inverse.{inverse}
use Rattle.residual.specs.Levels.{quantized}
use Rattle.residual.specs.Order.{in_zigzag, in_places}
use Rattle.residual.specs.Quantize.{level_by}
use Rattle.residual.specs.Rebuild.{added, rebuilt_samples}
use Rattle.residual.specs.Rescale.{scaled_by, rescaled}
use Rattle.dc.specs.Dc.{quantized_dc, luma_levels, luma_scaled, luma_values, chroma_levels, chroma_scaled, chroma_values}
use Rattle.dc.specs.Path.{ac_of}
use Rattle.block.specs.Block.{residual_of}
use Rattle.picture.specs.Order.{block_table, block_in, table_place, column_in, row_in}
use Rattle.picture.specs.Plane.{block_at}
use Rattle.residual_whole.specs.Area.{raster_place, raster_block}
use Rattle.residual_whole.specs.Coded.{residual_in, whole_dc, dc_levels, whole_levels}
use Rattle.residual_whole.specs.Rebuilt.{ac_in, dc_values, values_in, dc_value_of, block_samples, dc_fits, ac_numbers, ac_fits, first_ac}

-- each sample is the number of its block; all are 0; all but one are 0
abbrev numbered : List ℕ
numbered = grid 16 (λ x y. block_in (x / 4) (y / 4))

abbrev zeros : List ℕ
zeros = replicate 256 0

abbrev spot : List ℕ
spot = set (replicate 256 0) 64 100

pub dc_by_place : whole_dc 16 numbered zeros
    ≡ pos 0 ∷ pos 16 ∷ pos 64 ∷ pos 80
    ∷ pos 32 ∷ pos 48 ∷ pos 96 ∷ pos 112
    ∷ pos 128 ∷ pos 144 ∷ pos 192 ∷ pos 208
    ∷ pos 160 ∷ pos 176 ∷ pos 224 ∷ pos 240 ∷ []
unfolding whole_dc raster_block residual_in residual_of block_at column_in row_in table_place block_in block_table first grid tab forward
dc_by_place = refl

pub ac_by_number : (ac_of 28 (residual_in 16 spot zeros 2) ≡ pos 2 ∷ pos 2 ∷ pos 1 ∷ pos 2 ∷ pos 1 ∷ pos 1 ∷ pos 2 ∷ pos 2 ∷ pos 1 ∷ pos 1 ∷ pos 1 ∷ pos 1 ∷ pos 1 ∷ pos 1 ∷ pos 0 ∷ [])
    × (ac_of 28 (residual_in 16 spot zeros 4) ≡ replicate 15 (pos 0))
unfolding residual_in residual_of block_at column_in row_in table_place block_table first grid tab forward quantized in_zigzag level_by
ac_by_number = (refl, refl)

-- a second DC level alone: the values of the columns at the left are positive, the others negative
abbrev leaning : List ℤ
leaning = pos 0 ∷ pos 10 ∷ replicate 254 (pos 0)

pub value_by_place : (dc_value_of 16 28 leaning 2 ≡ pos 640) × (dc_value_of 16 28 leaning 4 ≡ negsuc 639)
unfolding dc_value_of raster_place column_in row_in values_in dc_values table_place block_table first grid tab in_places in_zigzag scaled_by luma_values luma_scaled hadamard
value_by_place = (refl, refl)

pub dc_in_zigzag : (dc_value_of 16 28 (set (replicate 256 (pos 0)) 2 (pos 10)) 4 ≡ pos 640) × (dc_value_of 16 28 (set (replicate 256 (pos 0)) 2 (pos 10)) 8 ≡ negsuc 639)
unfolding dc_value_of raster_place column_in row_in values_in dc_values table_place block_table first grid tab in_places in_zigzag scaled_by luma_values luma_scaled hadamard
dc_in_zigzag = (refl, refl)

-- document 01's measured piece, as a macroblock
abbrev high : List ℕ
high = replicate 256 110

abbrev low : List ℕ
low = replicate 256 100

abbrev measured : List ℤ
measured = pos 10 ∷ replicate 255 (pos 0)

pub flat : whole_levels 16 28 high low ≡ measured
unfolding whole_levels dc_levels parts whole_dc raster_block residual_in residual_of block_at column_in row_in table_place block_in block_table first grid tab forward quantized in_zigzag level_by luma_levels quantized_dc hadamard
flat = refl

pub flat_back : (values_in 16 28 measured ≡ replicate 16 (pos 640)) × (block_samples 16 28 low measured 5 ≡ replicate 16 110)
unfolding block_samples dc_value_of raster_place values_in dc_values in_zigzag ac_in block_at column_in row_in table_place block_table first grid tab in_places scaled_by rescaled inverse added rebuilt_samples clip luma_values luma_scaled hadamard
flat_back = (refl, refl)

-- 16 + 15 * 3 + 4: the fifth AC level of block 3
abbrev far : List ℤ
far = set (replicate 256 (pos 0)) 65 (pos 1200)

pub dc_out : (dc_fits 16 51 (set far 0 (pos 16383)) ≡ false) × (dc_fits 16 51 far ≡ true)
unfolding dc_fits values_in dc_values luma_values luma_scaled hadamard in_places in_zigzag grid tab scaled_by first first_outside inside
dc_out = (refl, refl)

pub ac_out : (first_ac 16 51 (set far 0 (pos 16383)) ≡ 3) × (first_ac 16 51 measured ≡ 16)
unfolding first_ac ac_fits ac_numbers ac_in rescaled scaled_by in_places in_zigzag tab first first_outside inside
ac_out = (refl, refl)

-- ---- chroma

abbrev chroma_numbered : List ℕ
chroma_numbered = grid 8 (λ x y. block_in (x / 4) (y / 4))

abbrev chroma_leaning : List ℤ
chroma_leaning = pos 0 ∷ pos 10 ∷ replicate 62 (pos 0)

pub chroma_by_place : (whole_dc 8 chroma_numbered (replicate 64 0) ≡ pos 0 ∷ pos 16 ∷ pos 32 ∷ pos 48 ∷ [])
    × (dc_value_of 8 28 chroma_leaning 1 ≡ negsuc 1279) × (dc_value_of 8 28 chroma_leaning 2 ≡ pos 1280)
unfolding whole_dc raster_block residual_in residual_of block_at column_in row_in table_place block_in block_table first grid tab forward dc_value_of raster_place values_in dc_values chroma_values chroma_scaled hadamard
chroma_by_place = (refl, refl, refl)

abbrev chroma_measured : List ℤ
chroma_measured = pos 5 ∷ replicate 63 (pos 0)

pub chroma_flat : (whole_levels 8 28 (replicate 64 110) (replicate 64 100) ≡ chroma_measured)
    × (values_in 8 28 chroma_measured ≡ replicate 4 (pos 640)) × (block_samples 8 28 (replicate 64 100) chroma_measured 3 ≡ replicate 16 110)
unfolding whole_levels dc_levels parts whole_dc raster_block residual_in residual_of block_at column_in row_in table_place block_in block_table first grid tab forward quantized in_zigzag level_by chroma_levels quantized_dc hadamard block_samples dc_value_of raster_place values_in dc_values ac_in in_places scaled_by rescaled inverse added rebuilt_samples clip chroma_values chroma_scaled
chroma_flat = (refl, refl, refl)

-- 4 + 15 * 3 + 4: the fifth AC level of block 3
abbrev chroma_far : List ℤ
chroma_far = set (replicate 64 (pos 0)) 53 (pos 1200)

pub chroma_out : (dc_fits 8 51 (set chroma_far 0 (pos 19)) ≡ false) × (dc_fits 8 51 (set chroma_far 0 (pos 18)) ≡ true)
    × (first_ac 8 51 (set chroma_far 0 (pos 19)) ≡ 3) × (first_ac 8 51 chroma_measured ≡ 4)
unfolding dc_fits values_in dc_values chroma_values chroma_scaled hadamard in_places in_zigzag grid tab scaled_by first first_outside inside first_ac ac_fits ac_numbers ac_in rescaled
chroma_out = (refl, refl, refl, refl)
