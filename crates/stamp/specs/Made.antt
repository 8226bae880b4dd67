-- What a call gives where it succeeds: the word's value, and the content of every output, by the definitions of the paper's sentences. Each stands
-- in `specs/` of the crate that the `use` line of its name says, under the words it stands for; docs/ARCHITECTURE.md ("Where to find the meaning of
-- what") has them by the paper. Beside `tests_of` of `Demand1`, which says when a call succeeds. Assumes nothing.
use Rattle.std.specs.Prelude.{ℕ, length}
use Rattle.lists.specs.Parts.{over}
use Rattle.quantizer.specs.Chroma.{chroma_of}
use Rattle.intra4.specs.Choice.{chosen}
use Rattle.intra4.specs.Entry.{best_samples}
use Rattle.intra4.specs.Rules.{samples_of, predicted}
use Rattle.intra4.specs.Samples.{mask}
use Rattle.transform.specs.Forward.{forward}
use Rattle.residual.specs.Levels.{levels_of}
use Rattle.residual.specs.Rebuild.{rebuilt_samples, rescaled_of, rescaled_with_dc}
use Rattle.dc.specs.Dc.{luma_levels, luma_values, chroma_levels, chroma_values}
use Rattle.block.specs.Block.{coded_levels, coded_samples}
use Rattle.distance.specs.Entry.{samples_off}
use Rattle.head.specs.Entry.{long_at, width_at, height_at, rows_at}
use Rattle.record.specs.Records.{colour_at}
use Rattle.picture.specs.Both.{pair}
use Rattle.picture.specs.Plane.{layout_of}
use Rattle.plane.specs.Code.{in_slices, coded_file, coded_plane}
use Rattle.plane.specs.Decode.{layout_in, decoded_plane}
use Rattle.frame.specs.Code.{coded_frame, coded_both}
use Rattle.frame.specs.Decode.{cb_of, cr_of, colour_number}
use Rattle.sheet.specs.Means.{given_of, area_of}
use Rattle.fleecebutton.specs.Word.{choice_value, head_value, sheet_value}
use Rattle.stamp.specs.Calls.{Exported, fb_predict, fb_choose, fb_forward, fb_levels, fb_rebuild, fb_rebuild_with_dc, fb_luma_dc_levels, fb_luma_dc_values, fb_chroma_dc_levels, fb_chroma_dc_values, fb_chroma_quantizer, fb_code_block, fb_promised_distance, fb_quality_sheet, fb_code_plane, fb_read_head, fb_decode_plane, fb_code_picture, fb_decode_picture, fb_inspect, Contents}

-- of what is given, g, and of the outputs as they are lent, o, the value and the outputs. 0 is the value where the paper names none
abbrev pub made_of : (f : Exported) → (Contents f).0 → (Contents f).1 → ℕ × (Contents f).1
-- the mode's sixteen samples, of what the flags leave of the neighbours
made_of fb_predict g o = (0, samples_of (predicted (mask g.neighbours g.flags) g.mode))
-- the chosen mode with its SAD, and its samples
made_of fb_choose g o =
    let best = chosen (mask g.neighbours g.flags) g.samples in
    (choice_value best, best_samples (mask g.neighbours g.flags) best)
-- "Y = C X C-transposed"
made_of fb_forward g o = (0, forward g.residual)
-- these coefficients quantized, in zigzag order
made_of fb_levels g o = (0, levels_of g.qp g.residual)
-- "Rescaled d = level*V*2^p", the inverse, and "sample = prediction + residual, clipped to 0..255"
made_of fb_rebuild g o = (0, rebuilt_samples g.prediction (rescaled_of g.qp g.levels))
made_of fb_rebuild_with_dc g o = (0, rebuilt_samples g.prediction (rescaled_with_dc g.qp g.dc g.ac))
-- "Luma DC", there and back; "Chroma DC", there and back
made_of fb_luma_dc_levels g o = (0, luma_levels g.qp g.dc)
made_of fb_luma_dc_values g o = (0, luma_values g.qp g.levels)
made_of fb_chroma_dc_levels g o = (0, chroma_levels g.qp g.dc)
made_of fb_chroma_dc_values g o = (0, chroma_values g.qp g.levels)
-- "Chroma quantizer"
made_of fb_chroma_quantizer g o = (chroma_of g.qp g.offset, tt)
-- the chosen mode with its SAD; the levels of what its prediction lacks, and the samples rebuilt from that prediction and these levels
made_of fb_code_block g o =
    let round = mask g.neighbours g.flags in
    (choice_value (chosen round g.samples), record { levels = coded_levels g.qp round g.samples; rebuilt = coded_samples g.qp round g.samples })
-- (02, Req 07) the promise in whole samples
made_of fb_promised_distance g o = (samples_off g.qp, tt)
-- (02, Req 09) whether there is a sheet, and its three doubles; without one the area keeps what it held
made_of fb_quality_sheet g o =
    let sheet = given_of (layout_of g.width g.height) g.original g.rebuilt g.map in
    (sheet_value sheet, area_of sheet o)
-- the file's length; the file over what stood in the area, and the rebuilt plane
made_of fb_code_plane g o =
    let file = coded_file (in_slices g.width g.height g.rows) g.qp g.plane in
    (length file, record { file = over file o.file; rebuilt = coded_plane (in_slices g.width g.height g.rows) g.qp g.plane })
-- width, height and rows of a slice
made_of fb_read_head g o = (head_value (width_at g.file) (height_at g.file) (rows_at g.file), tt)
-- the plane of the file's luma records, whoever wrote them
made_of fb_decode_plane g o = (0, decoded_plane g.file)
-- (02, Req 05) the same of a colour picture: luma as `fb_code_plane` rebuilds it
made_of fb_code_picture g o =
    let l = in_slices g.width g.height g.rows in
    let file = coded_frame l g.qp g.cb_offset g.cr_offset g.luma (pair g.cb g.cr) in
    let chroma = coded_both l g.qp g.cb_offset g.cr_offset (pair g.cb g.cr) in
    (length file, record { file = over file o.file; luma = coded_plane l g.qp g.luma; cb = chroma.cb; cr = chroma.cr })
-- 1 for colour and 0 for mono; luma, and of a colour file both planes of chroma, which a mono file leaves as they were
made_of fb_decode_picture g o =
    let place = long_at g.file in
    (colour_number (colour_at place g.file), record { luma = decoded_plane g.file; cb = cb_of (layout_in g.file) place g.file o.cb; cr = cr_of (layout_in g.file) place g.file o.cr })
-- (02, Req 11) a delivery is accepted
made_of fb_inspect g o = (0, tt)
