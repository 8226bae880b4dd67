-- A macroblock alone, at QP 28, from a plane of zeros, by evaluation.
--     grey_step         of 138: the first rebuilt sample is 136
--     corner_record     of `light_corner`: a 4x4 block beside the first costs as much again, and 16x16 costs the first block alone. So it is coded
--                       by 16x16: the mark's second byte, and the record's length
-- Assumes nothing.
use mathlib.Core.Path.{◌≡◌, refl, ap, ◌∙◌}
use mathlib.Core.Bool.{true}
use mathlib.Core.List.{List}
use Prim.Native.Nat.{ℕ}
use borrow.Author.Tests.{ltb-true}
use lib.Dec.{ltb}
use lib.ListN.{length, get_or, replicate}
use Rattle.lists.specs.First.{first}
use Rattle.lists.specs.Fold.{fold}
use Rattle.lists.specs.Stores.{stores}
use Rattle.lists.specs.Tab.{tab, grid}
use Rattle.lists.specs.Total.{total}
use Rattle.whole.specs.Clip.{clip}
use Rattle.transform.specs.Forward.{forward}
use Rattle.transform.specs.Inverse.{inverse}
use Rattle.intra4.specs.Samples.{bit_of}
use Rattle.intra4.specs.Rules.{vertical, horizontal, down_left, down_right, vertical_right, vertical_left, horizontal_up, predicted}
use Rattle.intra4.specs.Choice.{sad, best_of, chosen}
use Rattle.residual.specs.Levels.{quantized}
use Rattle.residual.specs.Order.{in_zigzag, in_places}
use Rattle.residual.specs.Quantize.{level_by}
use Rattle.residual.specs.Rescale.{scaled_by, rescaled}
use Rattle.residual.specs.Rebuild.{added, rebuilt_samples}
use Rattle.block.specs.Block.{residual_of}
use Rattle.octets.specs.Sum.{summed}
use Rattle.record.specs.Kinds.{in_whole, length_of}
use Rattle.record.specs.Records.{record_with, record_whole}
use Rattle.picture.specs.Order.{covers, block_count, block_table, block_in, table_place, column_in, row_in, block_column, block_row, order_at}
use Rattle.picture.specs.Plane.{layout_of, block_at, stored, neighbour, gathered, turn, first_turns}
use Rattle.picture.specs.Presence.{same_slice, macroblock_present, present, present_at, flags_of}
use Rattle.picture.specs.Whole.{present_round, flags_round, round_sample, gathered_round}
use Rattle.sides.specs.Choice as whole_choice
use Rattle.sides.specs.Rules as whole_rules
use Rattle.macroblock4.specs.Code.{sad_from, levels_from, samples_from, seen, sads_from, coded_step4}
use Rattle.macroblock4.specs.Inputs.{light_corner}
use Rattle.macroblock16.specs.Code.{sad_from16, record_from16}
use Rattle.macroblock16.proofs.CodedRecord.{length_record_from16}
use Rattle.macroblock.specs.Code.{record_from, coded_step}
use Rattle.macroblock.proofs.Candidates.{record_whole_law}

-- nothing is rebuilt yet
abbrev pub zeros : List ℕ
zeros = tab 256 (λ k. 0)

pub grey_step : get_or (coded_step (layout_of 1 1) 28 (replicate 256 138) 0 zeros) 0 0 ≡ 136
unfolding sads_from sad_from sad_from16 coded_step4 gathered_round round_sample present_round flags_round macroblock_present whole_choice.chosen whole_rules.predicted levels_from seen gathered neighbour turn first_turns covers block_count coded_step present same_slice present_at flags_of order_at block_column block_row column_in row_in table_place block_in block_table first fold tab grid total bit_of predicted vertical horizontal down_left down_right vertical_right vertical_left horizontal_up sad best_of chosen residual_of forward quantized level_by in_zigzag block_at samples_from stored stores rebuilt_samples added clip inverse rescaled scaled_by in_places
grey_step = refl

cheaper : ltb (sad_from16 (layout_of 1 1) light_corner 0 (gathered_round 16 (layout_of 1 1) 0 zeros)) (sads_from (layout_of 1 1) 28 light_corner 0 zeros) ≡ true
unfolding sads_from sad_from sad_from16 coded_step4 gathered_round round_sample present_round flags_round macroblock_present whole_choice.chosen whole_rules.predicted levels_from seen gathered neighbour turn first_turns covers block_count present same_slice present_at flags_of order_at block_column block_row column_in row_in table_place block_in block_table first fold tab grid total bit_of predicted vertical horizontal down_left down_right vertical_right vertical_left horizontal_up sad best_of chosen residual_of forward quantized level_by in_zigzag block_at samples_from stored stores rebuilt_samples added clip inverse rescaled scaled_by in_places
cheaper = refl

corner_sixteen : record_from (layout_of 1 1) 28 light_corner 0 zeros ≡ record_from16 (layout_of 1 1) 28 light_corner 0 zeros
corner_sixteen =
    let l = layout_of 1 1 in
    record_whole_law l 28 light_corner 0 zeros refl refl (ltb-true (sad_from16 l light_corner 0 (gathered_round 16 l 0 zeros)) (sads_from l 28 light_corner 0 zeros) cheaper)

marked_sixteen : get_or (record_from16 (layout_of 1 1) 28 light_corner 0 zeros) 1 0 ≡ 54
unfolding record_from16 record_whole record_with summed
marked_sixteen = refl

pub corner_record : (get_or (record_from (layout_of 1 1) 28 light_corner 0 zeros) 1 0 ≡ 54) × (length (record_from (layout_of 1 1) 28 light_corner 0 zeros) ≡ length_of in_whole)
corner_record = (
  ap (λ (bytes : List ℕ). get_or bytes 1 0) corner_sixteen ∙ marked_sixteen,
  ap length corner_sixteen ∙ length_record_from16 (layout_of 1 1) 28 light_corner 0 zeros,
)
