-- Inputs at which faults would answer otherwise, by evaluation. Records are of the chroma kind, all levels 0 but the first of Cb and the first of
-- Cr; at QP 51 a DC level of 16383 lies too far.
--     quantizer_first        Cr's offset of -13 and mode 4 in a record at place 1000: QUANTIZER, place 1000; mode 4 alone: MODE, place 1000
--     range_last             a DC level of Cr that lies too far: RANGE, place 1000; behind mode 3 in the first row, which is MODE; 0 in its place is fine
--     own_offsets            1x1, Cb and Cr of 138 at QP 28, offsets 0 and -6: DC mode, the first level of Cb is 5 and that of Cr 10
--     rebuilt_by_offsets     that record's first sample of Cb and of Cr, and those of one with the offsets exchanged
-- Assumes nothing.
use mathlib.Core.Path.{◌≡◌, refl}
use mathlib.Core.List.{List, [], ◌∷◌, ◌++◌}
use Prim.Native.Nat.{ℕ}
use lib.IntN.{pos, negsuc}
use lib.ListN.{replicate, get_or, take, drop}
use Rattle.lists.specs.Chain.{chain}
use Rattle.lists.specs.First.{first}
use Rattle.lists.specs.Fold.{fold}
use Rattle.lists.specs.Parts.{parts}
use Rattle.lists.specs.Stores.{stores}
use Rattle.lists.specs.Tab.{tab, grid}
use Rattle.lists.specs.Total.{total}
use Rattle.refusal.specs.Number.{number, place}
use Rattle.whole.specs.Clip.{clip}
use Rattle.whole.specs.Range.{inside, first_outside}
use Rattle.transform.specs.Forward.{forward}
use Rattle.transform.specs.Hadamard.{hadamard}
use Rattle.transform.specs.Inverse.{inverse}
use Rattle.choice.specs.Choice.{sad, best_of}
use Rattle.intra4.specs.Samples.{bit_of}
use Rattle.residual.specs.Levels.{quantized}
use Rattle.residual.specs.Order.{in_zigzag, in_places}
use Rattle.residual.specs.Quantize.{level_by}
use Rattle.residual.specs.Rebuild.{added, rebuilt_samples}
use Rattle.residual.specs.Rescale.{scaled_by, rescaled}
use Rattle.dc.specs.Dc.{quantized_dc, chroma_levels, chroma_scaled, chroma_values}
use Rattle.block.specs.Block.{residual_of}
use Rattle.chroma.specs.Choice.{chosen_for_both}
use Rattle.chroma.specs.Rules.{predicted, permitted}
use Rattle.residual_whole.specs.Area.{by_blocks, raster_place, raster_block}
use Rattle.residual_whole.specs.Coded.{residual_in, whole_dc, dc_levels, whole_levels}
use Rattle.residual_whole.specs.Rebuilt.{ac_in, dc_values, values_in, dc_value_of, block_samples, whole_samples, dc_fits, ac_numbers, ac_fits, first_ac}
use Rattle.octets.specs.Numbers.{level_bytes}
use Rattle.octets.specs.Sum.{summed}
use Rattle.record.specs.Records.{record_chroma, record_with, all_levels_in}
use Rattle.picture.specs.Both.{Both, pair}
use Rattle.picture.specs.Order.{block_table, block_in, table_place, column_in, row_in, block_column, block_row}
use Rattle.picture.specs.Plane.{layout_of, block_at, stored}
use Rattle.picture.specs.Presence.{same_slice, macroblock_present}
use Rattle.picture.specs.Whole.{present_round, flags_round, round_sample, gathered_round, whole_turn}
use Rattle.macroblock_chroma.specs.Code.{mode_for_both, levels_chroma, record_from_chroma}
use Rattle.macroblock_chroma.specs.Content.{cb_levels_in, cr_levels_in, content_tests_chroma}
use Rattle.macroblock_chroma.specs.Rebuild.{prediction_chroma, samples_chroma, cb_step, cr_step}

-- a record: its offsets' bytes, its mode, and the high byte and the low byte of the two levels
abbrev two_first : (cb cr mode cbHigh cbLow crHigh crLow : ℕ) → List ℕ
two_first cb cr mode cbHigh cbLow crHigh crLow =
    (77 ∷ 67 ∷ 0 ∷ 1 ∷ cb ∷ cr ∷ mode ∷ cbHigh ∷ cbLow ∷ []) ++ replicate 126 0 ++ (crHigh ∷ crLow ∷ []) ++ replicate 128 0

-- what is sent back of it, for macroblock 1 of a picture of 2 by 2 at QP 51
abbrev answered : List ℕ → List ℕ
answered part = number (chain (content_tests_chroma (layout_of 2 2) 1 51 1000 part)) ∷ place (chain (content_tests_chroma (layout_of 2 2) 1 51 1000 part)) ∷ []

pub quantizer_first : (answered (two_first 0 243 4 63 255 0 0) ≡ 2 ∷ 1000 ∷ []) × (answered (two_first 0 244 4 63 255 0 0) ≡ 3 ∷ 1000 ∷ [])
unfolding content_tests_chroma inside permitted flags_round present_round macroblock_present same_slice
quantizer_first = (refl, refl)

pub range_last : (answered (two_first 12 244 1 0 0 63 255) ≡ 6 ∷ 1000 ∷ []) × (answered (two_first 12 244 3 0 0 63 255) ≡ 3 ∷ 1000 ∷ []) × (answered (two_first 12 244 1 0 0 0 0) ≡ 0 ∷ 0 ∷ [])
unfolding content_tests_chroma inside permitted bit_of flags_round present_round macroblock_present same_slice cb_levels_in cr_levels_in all_levels_in grid tab first dc_fits values_in dc_values chroma_values chroma_scaled clip hadamard in_places in_zigzag scaled_by first_outside first_ac ac_fits ac_numbers ac_in rescaled
range_last = (refl, refl, refl)

-- both planes of 138; what stood in the rebuilt planes has no value, as no neighbour is present
abbrev grey : Both
grey = pair (replicate 64 138) (replicate 64 138)

abbrev said : List ℕ → List ℕ
said part = take 5 (drop 4 part) ++ take 2 (drop 135 part)

pub own_offsets : said (record_from_chroma (layout_of 1 1) 28 (pos 0) (negsuc 5) grey 0 grey) ≡ 0 ∷ 250 ∷ 0 ∷ 0 ∷ 5 ∷ 0 ∷ 10 ∷ []
unfolding record_from_chroma record_chroma record_with summed level_bytes mode_for_both levels_chroma prediction_chroma gathered_round round_sample flags_round present_round macroblock_present same_slice bit_of chosen_for_both best_of fold sad total predicted grid tab block_at whole_levels whole_dc dc_levels residual_in residual_of raster_block block_column block_row column_in row_in table_place block_in block_table first parts forward quantized in_zigzag level_by chroma_levels quantized_dc hadamard clip
own_offsets = refl

-- the first sample of Cb and of Cr, of a record for macroblock 0 of 1x1 at QP 28
abbrev first_two : List ℕ → List ℕ
first_two part = get_or (cb_step (layout_of 1 1) 0 28 part (replicate 64 0)) 0 0 ∷ get_or (cr_step (layout_of 1 1) 0 28 part (replicate 64 0)) 0 0 ∷ []

pub rebuilt_by_offsets : (first_two (two_first 0 250 0 0 5 0 5) ≡ 138 ∷ 133 ∷ []) × (first_two (two_first 250 0 0 0 5 0 5) ≡ 133 ∷ 138 ∷ [])
unfolding cb_step cr_step whole_turn samples_chroma whole_samples by_blocks block_samples dc_value_of raster_place rebuilt_samples added inverse stored stores cb_levels_in cr_levels_in all_levels_in prediction_chroma gathered_round round_sample flags_round present_round macroblock_present same_slice bit_of predicted grid tab block_at column_in row_in table_place block_in block_table first dc_values values_in chroma_values chroma_scaled clip hadamard in_places in_zigzag scaled_by ac_in rescaled
rebuilt_by_offsets = (refl, refl)
