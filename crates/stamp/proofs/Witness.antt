-- Two macroblocks of equal samples above each other, a slice each, at QP 28, by evaluation: each is coded from a plane of zeros, as it sees nothing.
--     above_grey, below_light     of 128 the first level is 0, of 138 it is 2
--     above_grey_chroma, below_light_chroma     and in chroma 0 and 5
-- Assumes nothing.
use mathlib.Core.Path.{◌≡◌, refl}
use lib.IntN.{pos}
use Rattle.lists.specs.First.{first}
use Rattle.lists.specs.Fold.{fold}
use Rattle.lists.specs.Parts.{parts}
use Rattle.lists.specs.Stores.{stores}
use Rattle.lists.specs.Tab.{tab, grid}
use Rattle.lists.specs.Total.{total}
use Rattle.whole.specs.Clip.{clip}
use Rattle.transform.specs.Forward.{forward}
use Rattle.transform.specs.Hadamard.{hadamard}
use Rattle.transform.specs.Inverse.{inverse}
use Rattle.intra4.specs.Samples.{bit_of}
use Rattle.intra4.specs.Rules.{vertical, horizontal, down_left, down_right, vertical_right, vertical_left, horizontal_up, predicted}
use Rattle.intra4.specs.Choice.{sad, best_of, chosen}
use Rattle.residual.specs.Levels.{quantized}
use Rattle.residual.specs.Order.{in_zigzag, in_places}
use Rattle.residual.specs.Quantize.{level_by}
use Rattle.residual.specs.Rescale.{scaled_by, rescaled}
use Rattle.residual.specs.Rebuild.{added, rebuilt_samples}
use Rattle.dc.specs.Dc.{quantized_dc, chroma_levels}
use Rattle.block.specs.Block.{residual_of}
use Rattle.chroma.specs.Choice.{chosen_for_both}
use Rattle.chroma.specs.Rules as chroma_rules
use Rattle.residual_whole.specs.Area.{raster_block}
use Rattle.residual_whole.specs.Coded.{residual_in, whole_dc, dc_levels, whole_levels}
use Rattle.octets.specs.Modes.{packed}
use Rattle.octets.specs.Numbers.{level_bytes}
use Rattle.octets.specs.Sum.{summed}
use Rattle.record.specs.Kinds.{in_chroma}
use Rattle.record.specs.Records.{record_with, record_of, record_chroma, level_in, level_with}
use Rattle.picture.specs.Both.{Both, pair}
use Rattle.picture.specs.Order.{covers, block_count, block_table, block_in, table_place, column_in, row_in, block_column, block_row, order_at}
use Rattle.picture.specs.Plane.{block_at, stored, neighbour, gathered, turn, first_turns}
use Rattle.picture.specs.Presence.{same_slice, macroblock_present, present, present_at, flags_of}
use Rattle.picture.specs.Whole.{present_round, flags_round, round_sample, gathered_round}
use Rattle.sides.specs.Choice as whole_choice
use Rattle.sides.specs.Rules as whole_rules
use Rattle.macroblock4.specs.Code.{sad_from, levels_from, samples_from, seen, sads_from, coded_step4, record_from4}
use Rattle.macroblock16.specs.Code.{sad_from16}
use Rattle.macroblock.specs.Code.{record_from}
use Rattle.macroblock_chroma.specs.Code.{mode_for_both, levels_chroma, record_from_chroma}
use Rattle.macroblock_chroma.specs.Rebuild.{prediction_chroma}
use Rattle.plane.specs.Code.{in_slices}
use Rattle.plane.specs.Decode.{cleared}
use Rattle.frame.specs.Code.{both_cleared}
use Rattle.stamp.specs.Useless.{above, above_chroma}

pub above_grey : level_in 0 0 (record_from (in_slices 1 2 1) 28 (above 128 138) 0 (cleared 512)) ≡ pos 0
unfolding record_from record_from4 record_of record_with summed packed level_bytes parts sads_from sad_from sad_from16 coded_step4 gathered_round round_sample present_round flags_round macroblock_present whole_choice.chosen whole_rules.predicted levels_from seen gathered neighbour turn first_turns covers block_count present same_slice present_at flags_of order_at block_column block_row column_in row_in table_place block_in block_table first fold tab grid total bit_of predicted vertical horizontal down_left down_right vertical_right vertical_left horizontal_up sad best_of chosen residual_of forward quantized level_by in_zigzag block_at samples_from stored stores rebuilt_samples added clip inverse rescaled scaled_by in_places
above_grey = refl

pub below_light : level_in 0 0 (record_from (in_slices 1 2 1) 28 (above 128 138) 1 (cleared 512)) ≡ pos 2
unfolding record_from record_from4 record_of record_with summed packed level_bytes parts sads_from sad_from sad_from16 coded_step4 gathered_round round_sample present_round flags_round macroblock_present whole_choice.chosen whole_rules.predicted levels_from seen gathered neighbour turn first_turns covers block_count present same_slice present_at flags_of order_at block_column block_row column_in row_in table_place block_in block_table first fold tab grid total bit_of predicted vertical horizontal down_left down_right vertical_right vertical_left horizontal_up sad best_of chosen residual_of forward quantized level_by in_zigzag block_at samples_from stored stores rebuilt_samples added clip inverse rescaled scaled_by in_places
below_light = refl

abbrev stacked : Both
stacked = pair (above_chroma 128 138) (above_chroma 128 138)

pub above_grey_chroma : level_with in_chroma 0 (record_from_chroma (in_slices 1 2 1) 28 (pos 0) (pos 0) stacked 0 (both_cleared (in_slices 1 2 1))) ≡ pos 0
unfolding record_from_chroma record_chroma record_with summed level_bytes mode_for_both levels_chroma prediction_chroma gathered_round round_sample flags_round present_round macroblock_present same_slice bit_of chosen_for_both best_of fold sad total chroma_rules.predicted grid tab block_at whole_levels whole_dc dc_levels residual_in residual_of raster_block block_column block_row column_in row_in table_place block_in block_table first parts forward quantized in_zigzag level_by chroma_levels quantized_dc hadamard clip
above_grey_chroma = refl

pub below_light_chroma : level_with in_chroma 0 (record_from_chroma (in_slices 1 2 1) 28 (pos 0) (pos 0) stacked 1 (both_cleared (in_slices 1 2 1))) ≡ pos 5
unfolding record_from_chroma record_chroma record_with summed level_bytes mode_for_both levels_chroma prediction_chroma gathered_round round_sample flags_round present_round macroblock_present same_slice bit_of chosen_for_both best_of fold sad total chroma_rules.predicted grid tab block_at whole_levels whole_dc dc_levels residual_in residual_of raster_block block_column block_row column_in row_in table_place block_in block_table first parts forward quantized in_zigzag level_by chroma_levels quantized_dc hadamard clip
below_light_chroma = refl
