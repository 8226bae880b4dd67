-- Inputs at which faults would answer otherwise, by evaluation.
--     own_qp                   a record's QP counts: with another QP in its place its numbers and samples are others
--     modes_before_ranges      block 15's mode is no mode and block 0's first number lies too far: MODE, place 15
--     place_by_sixteen         the same in record 3 of a picture of 2 by 2: place 63
--     rebuilt_neighbours       2x1 at QP 28, samples of 138 at the left and 139 at the right: beside rebuilt samples of 136 macroblock 1's
--                              first level is 1; beside the original ones it would be 0
--     own_samples              a record goes by its own macroblock: of another macroblock 1 the first level is another
-- Assumes nothing.
use mathlib.Core.Path.{◌≡◌, refl}
use mathlib.Core.List.{List, [], ◌∷◌, ◌++◌}
use Prim.Native.Nat.{ℕ}
use lib.ListN.{replicate, set, get_or}
use Rattle.lists.specs.Chain.{chain}
use Rattle.lists.specs.First.{first}
use Rattle.lists.specs.Fold.{fold}
use Rattle.lists.specs.Parts.{parts}
use Rattle.lists.specs.Stores.{stores}
use Rattle.lists.specs.Tab.{tab, grid}
use Rattle.lists.specs.Total.{total}
use Rattle.refusal.specs.Number.{number, place}
use Rattle.whole.specs.Clip.{clip}
use Rattle.whole.specs.Range.{inside, first_outside}
use Rattle.transform.specs.Forward.{forward}
use Rattle.transform.specs.Inverse.{inverse}
use Rattle.intra4.specs.Samples.{bit_of}
use Rattle.intra4.specs.Choice.{sad, best_of, chosen}
use Rattle.intra4.specs.Rules.{permitted, vertical, horizontal, down_left, down_right, vertical_right, vertical_left, horizontal_up, predicted}
use Rattle.residual.specs.Levels.{quantized}
use Rattle.residual.specs.Order.{in_zigzag, in_places}
use Rattle.residual.specs.Quantize.{level_by}
use Rattle.residual.specs.Rebuild.{added, rebuilt_samples}
use Rattle.residual.specs.Rescale.{scaled_by, rescaled}
use Rattle.block.specs.Block.{residual_of}
use Rattle.octets.specs.Modes.{packed}
use Rattle.octets.specs.Numbers.{level_bytes}
use Rattle.octets.specs.Sum.{summed}
use Rattle.record.specs.Records.{record_with, record_of, levels_in}
use Rattle.picture.specs.Order as order
use Rattle.picture.specs.Order.{covers, block_table, table_place, column_in, row_in, block_column, block_row, order_at}
use Rattle.picture.specs.Presence.{same_slice, present, present_at, flags_of}
use Rattle.picture.specs.Plane.{layout_of, block_at, stored, neighbour, gathered, turn, first_turns}
use Rattle.macroblock4.specs.Code.{levels_from, samples_from, seen, record_from4}
use Rattle.macroblock4.specs.Content.{mode_holds, rescaled_in, range_holds, first_mode, first_range, content_tests4}
use Rattle.macroblock4.specs.Inputs.{beside}

-- a record of DC blocks, all levels 0 but the first: its QP, the last byte of its modes, and the high byte and the low byte of that level
abbrev one_level : (qp last high low : ℕ) → List ℕ
one_level qp last high low = (77 ∷ 66 ∷ 0 ∷ 0 ∷ qp ∷ []) ++ replicate 7 34 ++ (last ∷ high ∷ low ∷ []) ++ replicate 512 0

-- level 16 at QP 12 adds 10, at QP 0 it adds 3
pub own_qp : (rebuilt_samples (replicate 16 128) (rescaled_in (one_level 12 34 0 16) 0) ≡ replicate 16 138)
    × (rebuilt_samples (replicate 16 128) (rescaled_in (set (one_level 12 34 0 16) 4 0) 0) ≡ replicate 16 131)
unfolding rescaled_in rescaled in_places scaled_by levels_in grid tab first rebuilt_samples added clip inverse
own_qp = (refl, refl)

abbrev answered : (width height m : ℕ) → List ℕ → List ℕ
answered width height m part = number (chain (content_tests4 (layout_of width height) m part)) ∷ place (chain (content_tests4 (layout_of width height) m part)) ∷ []

pub modes_before_ranges : answered 1 1 0 (one_level 51 146 127 255) ≡ 3 ∷ 15 ∷ []
unfolding first_mode first_range mode_holds range_holds rescaled_in rescaled in_places in_zigzag scaled_by levels_in tab first first_outside inside permitted bit_of flags_of present_at present same_slice order_at block_column block_row column_in row_in table_place order.block_in block_table
modes_before_ranges = refl

pub place_by_sixteen : answered 2 2 3 (one_level 51 146 127 255) ≡ 3 ∷ 63 ∷ []
unfolding first_mode first_range mode_holds range_holds rescaled_in rescaled in_places in_zigzag scaled_by levels_in tab first first_outside inside permitted bit_of flags_of present_at present same_slice order_at block_column block_row column_in row_in table_place order.block_in block_table
place_by_sixteen = refl

pub rebuilt_neighbours : get_or (record_from4 (layout_of 2 1) 28 (beside 138 139) 1 (beside 136 0)) 14 0 ≡ 1
unfolding record_from4 record_of record_with summed packed level_bytes levels_from seen gathered neighbour turn first_turns covers present same_slice present_at flags_of order_at block_column block_row column_in row_in table_place order.block_in block_table first fold parts tab grid total bit_of predicted vertical horizontal down_left down_right vertical_right vertical_left horizontal_up sad best_of chosen residual_of forward quantized level_by in_zigzag block_at samples_from stored stores rebuilt_samples added clip inverse rescaled scaled_by in_places
rebuilt_neighbours = refl

-- macroblock 1 beside samples of 128: of its own samples 128 the first level is 0, of 138 it is 2
pub own_samples : (get_or (record_from4 (layout_of 2 1) 28 (beside 128 128) 1 (beside 128 0)) 14 0 ≡ 0)
    × (get_or (record_from4 (layout_of 2 1) 28 (beside 128 138) 1 (beside 128 0)) 14 0 ≡ 2)
unfolding record_from4 record_of record_with summed packed level_bytes levels_from seen gathered neighbour turn first_turns covers present same_slice present_at flags_of order_at block_column block_row column_in row_in table_place order.block_in block_table first fold parts tab grid total bit_of predicted vertical horizontal down_left down_right vertical_right vertical_left horizontal_up sad best_of chosen residual_of forward quantized level_by in_zigzag block_at samples_from stored stores rebuilt_samples added clip inverse rescaled scaled_by in_places
own_samples = (refl, refl)
