-- Demand 1: success exactly if all tests pass, else number and place of the first that fails, and every output as it was; a missing sample has no
-- value, and neither has what stood in an output. The tests of a function stand in `specs/` of the crate that the `use` line of their name says.
-- Behind each claim, here and in the other demands, stands a theorem of its name in the file of `proofs/`. Assumes nothing.
use Rattle.std.specs.Prelude.{◌≡◌, true, List}
use Rattle.lists.specs.Chain.{Test}
use Rattle.refusal.specs.declared.Refusal.{Refusal}
use Rattle.quantizer.specs.Range.{number_tests}
use Rattle.quantizer.specs.Chroma.{chroma_tests}
use Rattle.intra4.specs.Entry.{predict_tests, choose_tests}
use Rattle.intra4.specs.Samples.{AgreeWherePresent}
use Rattle.transform.specs.Entry.{forward_tests}
use Rattle.residual.specs.Entry.{levels_tests, rebuild_tests, with_dc_tests}
use Rattle.dc.specs.Entry.{luma_levels_tests, luma_values_tests, chroma_levels_tests, chroma_values_tests}
use Rattle.block.specs.Entry.{code_tests}
use Rattle.head.specs.Entry.{head_tests, long_at}
use Rattle.record.specs.Records.{colour_at}
use Rattle.plane.specs.Code.{code_plane_tests}
use Rattle.plane.specs.Decode.{decode_tests}
use Rattle.frame.specs.Code.{code_picture_tests}
use Rattle.frame.specs.Decode.{decode_picture_tests}
use Rattle.inspection.specs.Inspect.{inspect_tests}
use Rattle.sheet.specs.Entry.{write_tests}
use Rattle.stamp.specs.Answers.{Succeeds, written_file, Answers, KeepsIfRefused}
use Rattle.stamp.specs.Calls.{Exported, fb_predict, fb_choose, fb_forward, fb_levels, fb_rebuild, fb_rebuild_with_dc, fb_luma_dc_levels, fb_luma_dc_values, fb_chroma_dc_levels, fb_chroma_dc_values, fb_chroma_quantizer, fb_code_block, fb_promised_distance, fb_quality_sheet, fb_code_plane, fb_read_head, fb_decode_plane, fb_code_picture, fb_decode_picture, fb_inspect, CallOf, Contents, word, given, before, after}

-- the tests of what is given, g, and of the outputs that are lent, o, in the table's order
abbrev pub tests_of : (f : Exported) → (Contents f).0 → (Contents f).1 → List (Test Refusal)
tests_of fb_predict g o = predict_tests g.neighbours g.flags g.mode o
tests_of fb_choose g o = choose_tests g.neighbours g.flags g.samples o
tests_of fb_forward g o = forward_tests g.residual o
tests_of fb_levels g o = levels_tests g.qp g.residual o
tests_of fb_rebuild g o = rebuild_tests g.qp g.prediction g.levels o
tests_of fb_rebuild_with_dc g o = with_dc_tests g.qp g.prediction g.dc g.ac o
tests_of fb_luma_dc_levels g o = luma_levels_tests g.qp g.dc o
tests_of fb_luma_dc_values g o = luma_values_tests g.qp g.levels o
tests_of fb_chroma_dc_levels g o = chroma_levels_tests g.qp g.dc o
tests_of fb_chroma_dc_values g o = chroma_values_tests g.qp g.levels o
tests_of fb_chroma_quantizer g o = chroma_tests g.qp g.offset
tests_of fb_code_block g o = code_tests g.qp g.flags g.neighbours g.samples o.levels o.rebuilt
tests_of fb_promised_distance g o = number_tests g.qp
tests_of fb_quality_sheet g o = write_tests g.width g.height g.original g.rebuilt g.map o
tests_of fb_code_plane g o = code_plane_tests g.width g.height g.rows g.qp g.plane o.file o.rebuilt
tests_of fb_read_head g o = head_tests g.file
tests_of fb_decode_plane g o = decode_tests g.file o
tests_of fb_code_picture g o =
    code_picture_tests g.width g.height g.rows g.qp g.cb_offset g.cr_offset g.luma g.cb g.cr o.file o.luma o.cb o.cr
tests_of fb_decode_picture g o = decode_picture_tests g.file o.luma o.cb o.cr
tests_of fb_inspect g o = inspect_tests g.file g.theirs

-- a call answers as the table says, and where it refuses all its outputs are as they were
abbrev pub Answered : {f : Exported} → CallOf f → Type 0
Answered {f} c = Answers (tests_of f (given c) (before c)) (word c) × KeepsIfRefused (word c) (before c) (after c)

-- two calls send back the same word and leave the same
abbrev pub SameAnswer : {f : Exported} → (c c' : CallOf f) → Type 0
SameAnswer c c' = (word c ≡ word c') × (after c ≡ after c')

pub data Claim1 : Type 0 where
  fb_answers fb_predict_missing_has_no_value fb_choose_missing_has_no_value fb_code_block_missing_has_no_value : Claim1
  fb_code_plane_entry_has_no_value fb_code_picture_entry_has_no_value fb_decode_plane_entry_has_no_value fb_decode_picture_entry_has_no_value : Claim1

abbrev pub Demand1 : Claim1 → Type 0
-- "What is sent back, and in which order it is tested", of every exported function
Demand1 fb_answers = (f : Exported) (c : CallOf f) → Answered c
-- "Samples round a block": neighbours that agree wherever the flags say that a sample is present, and all else alike
Demand1 fb_predict_missing_has_no_value = (c c' : CallOf fb_predict) → AgreeWherePresent (given c).flags (given c).neighbours (given c').neighbours
    → (given c').flags ≡ (given c).flags → (given c').mode ≡ (given c).mode → before c' ≡ before c → SameAnswer c c'
Demand1 fb_choose_missing_has_no_value = (c c' : CallOf fb_choose) → AgreeWherePresent (given c).flags (given c).neighbours (given c').neighbours
    → (given c').flags ≡ (given c).flags → (given c').samples ≡ (given c).samples → before c' ≡ before c → SameAnswer c c'
Demand1 fb_code_block_missing_has_no_value = (c c' : CallOf fb_code_block) → AgreeWherePresent (given c).flags (given c).neighbours (given c').neighbours
    → (given c').qp ≡ (given c).qp → (given c').flags ≡ (given c).flags → (given c').samples ≡ (given c).samples → before c' ≡ before c → SameAnswer c c'
-- "Coding a plane writes the file and the rebuilt plane": two successes with one input, whatever stood in the outputs. The bytes behind the file
-- keep what stood there, so they are no part of this; and so do both planes of chroma where a mono file is decoded
Demand1 fb_code_plane_entry_has_no_value = (c c' : CallOf fb_code_plane) → given c' ≡ given c → Succeeds (word c) → Succeeds (word c')
    → (word c ≡ word c') × (written_file (word c) (after c).file ≡ written_file (word c') (after c').file) × ((after c).rebuilt ≡ (after c').rebuilt)
Demand1 fb_code_picture_entry_has_no_value = (c c' : CallOf fb_code_picture) → given c' ≡ given c → Succeeds (word c) → Succeeds (word c')
    → (word c ≡ word c') × (written_file (word c) (after c).file ≡ written_file (word c') (after c').file)
    × ((after c).luma ≡ (after c').luma) × ((after c).cb ≡ (after c').cb) × ((after c).cr ≡ (after c').cr)
Demand1 fb_decode_plane_entry_has_no_value = (c c' : CallOf fb_decode_plane) → given c' ≡ given c → Succeeds (word c) → Succeeds (word c') → SameAnswer c c'
Demand1 fb_decode_picture_entry_has_no_value = (c c' : CallOf fb_decode_picture) → given c' ≡ given c → Succeeds (word c) → Succeeds (word c')
    → (word c ≡ word c') × ((after c).luma ≡ (after c').luma)
    × (colour_at (long_at (given c).file) (given c).file ≡ true → ((after c).cb ≡ (after c').cb) × ((after c).cr ≡ (after c').cr))
