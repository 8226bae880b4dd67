-- What each call gives (`fb_gives` of `specs/Demand2`).
--     fb_NAME_gives, fb_gives     function by function, and the claim
-- Assumes nothing.
use mathlib.Core.Path.{refl}
use Rattle.stamp.specs.Answers.{Succeeds}
use Rattle.stamp.specs.Calls.{fb_predict, fb_choose, fb_forward, fb_levels, fb_rebuild, fb_rebuild_with_dc, fb_luma_dc_levels, fb_luma_dc_values, fb_chroma_dc_levels, fb_chroma_dc_values, fb_chroma_quantizer, fb_code_block, fb_promised_distance, fb_quality_sheet, fb_code_plane, fb_read_head, fb_decode_plane, fb_code_picture, fb_decode_picture, fb_inspect, CallOf, word, given, before}
use Rattle.stamp.specs.Demand1.{tests_of}
use Rattle.stamp.specs.Demand2 as paper
use Rattle.stamp.specs.Demand2.{Gives, Demand2}
use Rattle.stamp.proofs.Laws.{valued, made, sent_gives}

pub fb_predict_gives : (c : CallOf fb_predict) → Succeeds (word c) → Gives c
fb_predict_gives c = sent_gives c.call.learnt

pub fb_choose_gives : (c : CallOf fb_choose) → Succeeds (word c) → Gives c
fb_choose_gives c = sent_gives c.call.learnt

pub fb_forward_gives : (c : CallOf fb_forward) → Succeeds (word c) → Gives c
fb_forward_gives c = sent_gives c.call.learnt

pub fb_levels_gives : (c : CallOf fb_levels) → Succeeds (word c) → Gives c
fb_levels_gives c = sent_gives c.call.learnt

pub fb_rebuild_gives : (c : CallOf fb_rebuild) → Succeeds (word c) → Gives c
fb_rebuild_gives c = sent_gives c.call.learnt

pub fb_rebuild_with_dc_gives : (c : CallOf fb_rebuild_with_dc) → Succeeds (word c) → Gives c
fb_rebuild_with_dc_gives c = sent_gives c.call.learnt

pub fb_luma_dc_levels_gives : (c : CallOf fb_luma_dc_levels) → Succeeds (word c) → Gives c
fb_luma_dc_levels_gives c = sent_gives c.call.learnt

pub fb_luma_dc_values_gives : (c : CallOf fb_luma_dc_values) → Succeeds (word c) → Gives c
fb_luma_dc_values_gives c = sent_gives c.call.learnt

pub fb_chroma_dc_levels_gives : (c : CallOf fb_chroma_dc_levels) → Succeeds (word c) → Gives c
fb_chroma_dc_levels_gives c = sent_gives c.call.learnt

pub fb_chroma_dc_values_gives : (c : CallOf fb_chroma_dc_values) → Succeeds (word c) → Gives c
fb_chroma_dc_values_gives c = sent_gives c.call.learnt

pub fb_chroma_quantizer_gives : (c : CallOf fb_chroma_quantizer) → Succeeds (word c) → Gives c
fb_chroma_quantizer_gives c d = (valued (tests_of fb_chroma_quantizer (given c) tt) _ c.call.learnt d, refl)

pub fb_code_block_gives : (c : CallOf fb_code_block) → Succeeds (word c) → Gives c
fb_code_block_gives c d =
    let ts = tests_of fb_code_block (given c) (before c) in
    let s = c.call.learnt in
    (valued ts _ s.word d, λ i. record { levels = made ts _ _ (before c).levels s.word s.levels d i; rebuilt = made ts _ _ (before c).rebuilt s.word s.rebuilt d i })

pub fb_promised_distance_gives : (c : CallOf fb_promised_distance) → Succeeds (word c) → Gives c
fb_promised_distance_gives c d = (valued (tests_of fb_promised_distance (given c) tt) _ c.call.learnt d, refl)

pub fb_quality_sheet_gives : (c : CallOf fb_quality_sheet) → Succeeds (word c) → Gives c
fb_quality_sheet_gives c = sent_gives c.call.learnt.sends

pub fb_code_plane_gives : (c : CallOf fb_code_plane) → Succeeds (word c) → Gives c
fb_code_plane_gives c d =
    let ts = tests_of fb_code_plane (given c) (before c) in
    let s = c.call.learnt in
    (valued ts _ s.word d, λ i. record { file = made ts _ _ (before c).file s.word s.filed d i; rebuilt = made ts _ _ (before c).rebuilt s.word s.stored d i })

pub fb_read_head_gives : (c : CallOf fb_read_head) → Succeeds (word c) → Gives c
fb_read_head_gives c d = (valued (tests_of fb_read_head (given c) tt) _ c.call.learnt d, refl)

pub fb_decode_plane_gives : (c : CallOf fb_decode_plane) → Succeeds (word c) → Gives c
fb_decode_plane_gives c = sent_gives c.call.learnt

pub fb_code_picture_gives : (c : CallOf fb_code_picture) → Succeeds (word c) → Gives c
fb_code_picture_gives c d =
    let ts = tests_of fb_code_picture (given c) (before c) in
    let s = c.call.learnt in (
      valued ts _ s.word d,
      λ i. record {
        file = made ts _ _ (before c).file s.word s.filed d i;
        luma = made ts _ _ (before c).luma s.word s.lumas d i;
        cb = made ts _ _ (before c).cb s.word s.cbs d i;
        cr = made ts _ _ (before c).cr s.word s.crs d i;
      },
    )

pub fb_decode_picture_gives : (c : CallOf fb_decode_picture) → Succeeds (word c) → Gives c
fb_decode_picture_gives c d =
    let ts = tests_of fb_decode_picture (given c) (before c) in
    let s = c.call.learnt in (
      valued ts _ s.word d,
      λ i. record { luma = made ts _ _ (before c).luma s.word s.lumas d i; cb = made ts _ _ (before c).cb s.word s.cbs d i; cr = made ts _ _ (before c).cr s.word s.crs d i },
    )

pub fb_inspect_gives : (c : CallOf fb_inspect) → Succeeds (word c) → Gives c
fb_inspect_gives c d = (valued (tests_of fb_inspect (given c) tt) 0 c.call.learnt d, refl)

pub fb_gives : Demand2 paper.fb_gives
fb_gives fb_predict = fb_predict_gives
fb_gives fb_choose = fb_choose_gives
fb_gives fb_forward = fb_forward_gives
fb_gives fb_levels = fb_levels_gives
fb_gives fb_rebuild = fb_rebuild_gives
fb_gives fb_rebuild_with_dc = fb_rebuild_with_dc_gives
fb_gives fb_luma_dc_levels = fb_luma_dc_levels_gives
fb_gives fb_luma_dc_values = fb_luma_dc_values_gives
fb_gives fb_chroma_dc_levels = fb_chroma_dc_levels_gives
fb_gives fb_chroma_dc_values = fb_chroma_dc_values_gives
fb_gives fb_chroma_quantizer = fb_chroma_quantizer_gives
fb_gives fb_code_block = fb_code_block_gives
fb_gives fb_promised_distance = fb_promised_distance_gives
fb_gives fb_quality_sheet = fb_quality_sheet_gives
fb_gives fb_code_plane = fb_code_plane_gives
fb_gives fb_read_head = fb_read_head_gives
fb_gives fb_decode_plane = fb_decode_plane_gives
fb_gives fb_code_picture = fb_code_picture_gives
fb_gives fb_decode_picture = fb_decode_picture_gives
fb_gives fb_inspect = fb_inspect_gives
