-- Inputs at which faults would answer otherwise, by evaluation. Records are of the 16x16 kind, all levels 0 but the first DC level and the
-- fifth AC level of block 3; at QP 51 a DC level of 16383 and an AC level of 1200 lie too far.
--     dc_before_ac          both lie too far, in record 3 of a picture of 2 by 2: RANGE, place 48; the AC level alone: place 51
--     mode_before_range     mode 4 is none: MODE, place 48, before either
--     plane_needs_all       mode 3 in the first row and at the left edge: MODE, places 16 and 32; in record 3 it is fine
--     grey_candidate        1x1 of 138 at QP 28: DC mode, SAD 2560, first DC level 10
-- Assumes nothing.
use mathlib.Core.Path.{◌≡◌, refl}
use mathlib.Core.List.{List, [], ◌∷◌, ◌++◌}
use Prim.Native.Nat.{ℕ}
use lib.IntN.{pos}
use lib.ListN.{replicate, get_or}
use Rattle.lists.specs.Chain.{chain}
use Rattle.lists.specs.First.{first}
use Rattle.lists.specs.Fold.{fold}
use Rattle.lists.specs.Parts.{parts}
use Rattle.lists.specs.Tab.{tab, grid}
use Rattle.lists.specs.Total.{total}
use Rattle.refusal.specs.Number.{number, place}
use Rattle.whole.specs.Range.{inside, first_outside}
use Rattle.transform.specs.Forward.{forward}
use Rattle.transform.specs.Hadamard.{hadamard}
use Rattle.choice.specs.Choice.{sad, best_of}
use Rattle.intra4.specs.Samples.{bit_of}
use Rattle.residual.specs.Levels.{quantized}
use Rattle.residual.specs.Order.{in_zigzag, in_places}
use Rattle.residual.specs.Quantize.{level_by}
use Rattle.residual.specs.Rescale.{scaled_by, rescaled}
use Rattle.dc.specs.Dc.{quantized_dc, luma_levels, luma_scaled, luma_values}
use Rattle.block.specs.Block.{residual_of}
use Rattle.sides.specs.Choice.{chosen}
use Rattle.sides.specs.Rules.{predicted, permitted}
use Rattle.residual_whole.specs.Area.{raster_block}
use Rattle.residual_whole.specs.Coded.{residual_in, whole_dc, dc_levels, whole_levels}
use Rattle.residual_whole.specs.Rebuilt.{ac_in, dc_values, values_in, dc_fits, ac_numbers, ac_fits, first_ac}
use Rattle.record.specs.Records.{all_levels_in}
use Rattle.picture.specs.Order.{block_table, block_in, table_place, column_in, row_in}
use Rattle.picture.specs.Plane.{layout_of, block_at}
use Rattle.picture.specs.Presence.{same_slice, macroblock_present}
use Rattle.picture.specs.Whole.{present_round, flags_round}
use Rattle.macroblock16.specs.Code.{mode_from16, sad_from16, prediction_from16, levels_from16}
use Rattle.macroblock16.specs.Content.{content_tests16}

-- a record: its QP, its mode, and the high byte and the low byte of the two levels
abbrev two_levels : (qp mode dcHigh dcLow acHigh acLow : ℕ) → List ℕ
two_levels qp mode dcHigh dcLow acHigh acLow =
    (77 ∷ 54 ∷ 0 ∷ 0 ∷ qp ∷ mode ∷ dcHigh ∷ dcLow ∷ []) ++ replicate 128 0 ++ (acHigh ∷ acLow ∷ []) ++ replicate 382 0

-- what is sent back of record m in a picture of 2 by 2
abbrev answered : (m : ℕ) → List ℕ → List ℕ
answered m part = number (chain (content_tests16 (layout_of 2 2) m part)) ∷ place (chain (content_tests16 (layout_of 2 2) m part)) ∷ []

pub dc_before_ac : (answered 3 (two_levels 51 2 63 255 4 176) ≡ 6 ∷ 48 ∷ []) × (answered 3 (two_levels 51 2 0 0 4 176) ≡ 6 ∷ 51 ∷ [])
unfolding permitted flags_round present_round macroblock_present same_slice all_levels_in grid tab first dc_fits values_in dc_values luma_values luma_scaled hadamard in_places in_zigzag scaled_by first_outside inside first_ac ac_fits ac_numbers ac_in rescaled
dc_before_ac = (refl, refl)

pub mode_before_range : answered 3 (two_levels 51 4 63 255 4 176) ≡ 3 ∷ 48 ∷ []
unfolding permitted flags_round present_round macroblock_present same_slice
mode_before_range = refl

pub plane_needs_all : (answered 1 (two_levels 28 3 0 0 0 0) ≡ 3 ∷ 16 ∷ []) × (answered 2 (two_levels 28 3 0 0 0 0) ≡ 3 ∷ 32 ∷ []) × (answered 3 (two_levels 28 3 0 0 0 0) ≡ 0 ∷ 0 ∷ [])
unfolding permitted bit_of flags_round present_round macroblock_present same_slice all_levels_in grid tab first dc_fits values_in dc_values luma_values luma_scaled hadamard in_places in_zigzag scaled_by first_outside inside first_ac ac_fits ac_numbers ac_in rescaled
plane_needs_all = (refl, refl, refl)

-- no neighbour is present
pub grey_candidate : (mode_from16 (layout_of 1 1) (replicate 256 138) 0 (replicate 33 0) ≡ 2)
    × (sad_from16 (layout_of 1 1) (replicate 256 138) 0 (replicate 33 0) ≡ 2560)
    × (get_or (levels_from16 (layout_of 1 1) 28 (replicate 256 138) 0 (replicate 33 0)) 0 (pos 0) ≡ pos 10)
unfolding mode_from16 sad_from16 levels_from16 prediction_from16 flags_round present_round macroblock_present same_slice bit_of chosen best_of fold sad total predicted grid tab block_at whole_levels dc_levels whole_dc raster_block residual_in residual_of column_in row_in table_place block_in block_table first parts forward quantized in_zigzag level_by luma_levels quantized_dc hadamard
grey_candidate = (refl, refl, refl)
