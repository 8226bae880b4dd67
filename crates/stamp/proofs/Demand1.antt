-- Demand 1 (`specs/Demand1`).
--     fb_answers, fb_NAME_answers      the claim of this name, and function by function
--     fb_NAME_missing_has_no_value, fb_NAME_entry_has_no_value     the claims of these names
--     demand_1                         all claims
-- Assumes nothing.
use mathlib.Core.Path.{◌≡◌, refl, sym, ◌∙◌}
use mathlib.Core.Bool.{true}
use mathlib.Core.List.{List, []}
use Prim.Native.Nat.{ℕ, ◌*◌}
use Rattle.lists.proofs.Chain.{holds_new}
use Rattle.intra4.proofs.Missing.{same_mask}
use Rattle.head.specs.Entry.{long_at}
use Rattle.record.specs.Records.{colour_at}
use Rattle.plane.specs.Decode.{layout_in, decoded_plane}
use Rattle.plane.proofs.CodedStart.{code_plane_entry_has_no_value}
use Rattle.frame.specs.Decode.{decode_picture_tests, cb_of, cr_of, colour_number}
use Rattle.frame.proofs.FrameStart.{code_picture_entry_has_no_value}
use Rattle.fleecebutton.specs.Sends.{PredictSends, ChooseSends, CodeBlockSends, DecodePictureSends}
use Rattle.fleecebutton.proofs.Told.{passed_word}
use Rattle.stamp.specs.Answers.{Succeeds}
use Rattle.stamp.specs.Calls.{fb_predict, fb_choose, fb_forward, fb_levels, fb_rebuild, fb_rebuild_with_dc, fb_luma_dc_levels, fb_luma_dc_values, fb_chroma_dc_levels, fb_chroma_dc_values, fb_chroma_quantizer, fb_code_block, fb_promised_distance, fb_quality_sheet, fb_code_plane, fb_read_head, fb_decode_plane, fb_code_picture, fb_decode_picture, fb_inspect, CallOf, word, given, before, after}
use Rattle.stamp.specs.Demand1 as paper
use Rattle.stamp.specs.Demand1.{tests_of, Answered, Claim1, Demand1}
use Rattle.stamp.proofs.Laws.{answers, kept, sent, valued, sent_made, same_word}
use Rattle.stamp.proofs.Sent.{PlaneCoded, PictureCoded, sent_plane, sent_picture}

-- ---- exactly if; outputs keep their bytes

pub fb_predict_answers : (c : CallOf fb_predict) → Answered c
fb_predict_answers c = sent c.call.learnt

pub fb_choose_answers : (c : CallOf fb_choose) → Answered c
fb_choose_answers c = sent c.call.learnt

pub fb_forward_answers : (c : CallOf fb_forward) → Answered c
fb_forward_answers c = sent c.call.learnt

pub fb_levels_answers : (c : CallOf fb_levels) → Answered c
fb_levels_answers c = sent c.call.learnt

pub fb_rebuild_answers : (c : CallOf fb_rebuild) → Answered c
fb_rebuild_answers c = sent c.call.learnt

pub fb_rebuild_with_dc_answers : (c : CallOf fb_rebuild_with_dc) → Answered c
fb_rebuild_with_dc_answers c = sent c.call.learnt

pub fb_luma_dc_levels_answers : (c : CallOf fb_luma_dc_levels) → Answered c
fb_luma_dc_levels_answers c = sent c.call.learnt

pub fb_luma_dc_values_answers : (c : CallOf fb_luma_dc_values) → Answered c
fb_luma_dc_values_answers c = sent c.call.learnt

pub fb_chroma_dc_levels_answers : (c : CallOf fb_chroma_dc_levels) → Answered c
fb_chroma_dc_levels_answers c = sent c.call.learnt

pub fb_chroma_dc_values_answers : (c : CallOf fb_chroma_dc_values) → Answered c
fb_chroma_dc_values_answers c = sent c.call.learnt

pub fb_chroma_quantizer_answers : (c : CallOf fb_chroma_quantizer) → Answered c
fb_chroma_quantizer_answers c = (answers (tests_of fb_chroma_quantizer (given c) tt) _ c.call.learnt, λ bad. refl)

pub fb_code_block_answers : (c : CallOf fb_code_block) → Answered c
fb_code_block_answers c =
    let ts = tests_of fb_code_block (given c) (before c) in
    let s = c.call.learnt in
    (answers ts _ s.word, λ bad i. record { levels = kept ts _ _ s.word s.levels bad i; rebuilt = kept ts _ _ s.word s.rebuilt bad i })

pub fb_promised_distance_answers : (c : CallOf fb_promised_distance) → Answered c
fb_promised_distance_answers c = (answers (tests_of fb_promised_distance (given c) tt) _ c.call.learnt, λ bad. refl)

pub fb_quality_sheet_answers : (c : CallOf fb_quality_sheet) → Answered c
fb_quality_sheet_answers c = sent c.call.learnt.sends

pub fb_code_plane_answers : (c : CallOf fb_code_plane) → Answered c
fb_code_plane_answers c =
    let ts = tests_of fb_code_plane (given c) (before c) in
    let s = c.call.learnt in
    (answers ts _ s.word, λ bad i. record { file = kept ts _ _ s.word s.filed bad i; rebuilt = kept ts _ _ s.word s.stored bad i })

pub fb_read_head_answers : (c : CallOf fb_read_head) → Answered c
fb_read_head_answers c = (answers (tests_of fb_read_head (given c) tt) _ c.call.learnt, λ bad. refl)

pub fb_decode_plane_answers : (c : CallOf fb_decode_plane) → Answered c
fb_decode_plane_answers c = sent c.call.learnt

pub fb_code_picture_answers : (c : CallOf fb_code_picture) → Answered c
fb_code_picture_answers c =
    let ts = tests_of fb_code_picture (given c) (before c) in
    let s = c.call.learnt in (
      answers ts _ s.word,
      λ bad i. record {
        file = kept ts _ _ s.word s.filed bad i;
        luma = kept ts _ _ s.word s.lumas bad i;
        cb = kept ts _ _ s.word s.cbs bad i;
        cr = kept ts _ _ s.word s.crs bad i;
      },
    )

pub fb_decode_picture_answers : (c : CallOf fb_decode_picture) → Answered c
fb_decode_picture_answers c =
    let ts = tests_of fb_decode_picture (given c) (before c) in
    let s = c.call.learnt in (
      answers ts _ s.word,
      λ bad i. record {
        luma = kept ts _ _ s.word s.lumas bad i;
        cb = kept ts _ _ s.word s.cbs bad i;
        cr = kept ts _ _ s.word s.crs bad i;
      },
    )

-- it has no output: nothing is written
pub fb_inspect_answers : (c : CallOf fb_inspect) → Answered c
fb_inspect_answers c = (answers (tests_of fb_inspect (given c) tt) _ c.call.learnt, λ bad. refl)

pub fb_answers : Demand1 paper.fb_answers
fb_answers fb_predict = fb_predict_answers
fb_answers fb_choose = fb_choose_answers
fb_answers fb_forward = fb_forward_answers
fb_answers fb_levels = fb_levels_answers
fb_answers fb_rebuild = fb_rebuild_answers
fb_answers fb_rebuild_with_dc = fb_rebuild_with_dc_answers
fb_answers fb_luma_dc_levels = fb_luma_dc_levels_answers
fb_answers fb_luma_dc_values = fb_luma_dc_values_answers
fb_answers fb_chroma_dc_levels = fb_chroma_dc_levels_answers
fb_answers fb_chroma_dc_values = fb_chroma_dc_values_answers
fb_answers fb_chroma_quantizer = fb_chroma_quantizer_answers
fb_answers fb_code_block = fb_code_block_answers
fb_answers fb_promised_distance = fb_promised_distance_answers
fb_answers fb_quality_sheet = fb_quality_sheet_answers
fb_answers fb_code_plane = fb_code_plane_answers
fb_answers fb_read_head = fb_read_head_answers
fb_answers fb_decode_plane = fb_decode_plane_answers
fb_answers fb_code_picture = fb_code_picture_answers
fb_answers fb_decode_picture = fb_decode_picture_answers
fb_answers fb_inspect = fb_inspect_answers

-- ---- a missing sample has no value

pub fb_predict_missing_has_no_value : Demand1 paper.fb_predict_missing_has_no_value
fb_predict_missing_has_no_value c c' g f m b =
    let q : PredictSends (given c').neighbours (given c).flags (given c).mode (before c) (word c') (after c') =
    coe 0 1 (i. PredictSends (given c').neighbours (f i) (m i) (b i) (word c') (after c')) c'.call.learnt in
    let s = c.call.learnt in
    let l = g.long in
    let k = same_mask (given c).flags (given c).neighbours (given c').neighbours g in
    (s.word ∙ rw l (sym q.word), s.wrote ∙ rw (l, k) (sym q.wrote))

pub fb_choose_missing_has_no_value : Demand1 paper.fb_choose_missing_has_no_value
fb_choose_missing_has_no_value c c' g f x b =
    let q : ChooseSends (given c').neighbours (given c).flags (given c).samples (before c) (word c') (after c') =
    coe 0 1 (i. ChooseSends (given c').neighbours (f i) (x i) (b i) (word c') (after c')) c'.call.learnt in
    let s = c.call.learnt in
    let l = g.long in
    let k = same_mask (given c).flags (given c).neighbours (given c').neighbours g in
    (s.word ∙ rw (l, k) (sym q.word), s.wrote ∙ rw (l, k) (sym q.wrote))

pub fb_code_block_missing_has_no_value : Demand1 paper.fb_code_block_missing_has_no_value
fb_code_block_missing_has_no_value c c' g qp f x b =
    let q : CodeBlockSends (given c).qp (given c).flags (given c').neighbours (given c).samples (before c).levels (before c).rebuilt
    (word c') (after c').levels (after c').rebuilt =
    coe 0 1 (i. CodeBlockSends (qp i) (f i) (given c').neighbours (x i) (b i).levels (b i).rebuilt (word c') (after c').levels (after c').rebuilt) c'.call.learnt in
    let s = c.call.learnt in
    let l = g.long in
    let k = same_mask (given c).flags (given c).neighbours (given c').neighbours g in
    let levels : (after c).levels ≡ (after c').levels = s.levels ∙ rw (l, k) (sym q.levels) in
    let rebuilt : (after c).rebuilt ≡ (after c').rebuilt = s.rebuilt ∙ rw (l, k) (sym q.rebuilt) in
    (s.word ∙ rw (l, k) (sym q.word), λ i. record { levels = levels i; rebuilt = rebuilt i })

-- ---- what stood in the outputs has no value

pub fb_code_plane_entry_has_no_value : Demand1 paper.fb_code_plane_entry_has_no_value
fb_code_plane_entry_has_no_value c c' s d d' =
    let q : PlaneCoded (given c) (before c') (word c') (after c') = coe 0 1 (i. PlaneCoded (s i) (before c') (word c') (after c')) (sent_plane c' d') in
    let same = code_plane_entry_has_no_value _ _ _ _ _ _ _ _ _ _ _ _ _ _ _ (sent_plane c d) q in
    (same_word d d' same.0, same.1, same.2)

pub fb_code_picture_entry_has_no_value : Demand1 paper.fb_code_picture_entry_has_no_value
fb_code_picture_entry_has_no_value c c' s d d' =
    let q : PictureCoded (given c) (before c') (word c') (after c') = coe 0 1 (i. PictureCoded (s i) (before c') (word c') (after c')) (sent_picture c' d') in
    let same = code_picture_entry_has_no_value _ _ _ _ _ _ _ _ _ _ _ _ _ _ _ _ _ _ _ _ _ _ _ _ _ _ _ (sent_picture c d) q in
    (same_word d d' same.0, same.1, same.2, same.3, same.4)

pub fb_decode_plane_entry_has_no_value : Demand1 paper.fb_decode_plane_entry_has_no_value
fb_decode_plane_entry_has_no_value c c' f d d' =
    let w = valued (tests_of fb_decode_plane (given c) (before c)) 0 c.call.learnt.word d in
    let w' = valued (tests_of fb_decode_plane (given c') (before c')) 0 c'.call.learnt.word d' in
    (w ∙ sym w', sent_made c.call.learnt d ∙ (λ i. decoded_plane (sym f i).file) ∙ sym (sent_made c'.call.learnt d'))

-- what a success writes, of a file: luma, and of a colour file both planes of chroma
picture_written : {file luma cb cr : List ℕ} {w : ℕ} {luma' cb' cr' : List ℕ} → DecodePictureSends file luma cb cr w luma' cb' cr' → Succeeds w
    → (w ≡ 256 * colour_number (colour_at (long_at file) file))
    × (luma' ≡ decoded_plane file)
    × (colour_at (long_at file) file ≡ true
    → (cb' ≡ cb_of (layout_in file) (long_at file) file []) × (cr' ≡ cr_of (layout_in file) (long_at file) file []))
picture_written {file} {luma} {cb} {cr} s d =
    let tests = decode_picture_tests file luma cb cr in
    let value = colour_number (colour_at (long_at file) file) in
    let v = passed_word tests value s.word d in (
      valued tests value s.word d,
      holds_new luma v s.lumas,
      λ colour. (holds_new cb v s.cbs ∙ rw colour, holds_new cr v s.crs ∙ rw colour),
    )

pub fb_decode_picture_entry_has_no_value : Demand1 paper.fb_decode_picture_entry_has_no_value
fb_decode_picture_entry_has_no_value c c' f d d' =
    let q : DecodePictureSends (given c).file (before c').luma (before c').cb (before c').cr (word c') (after c').luma (after c').cb (after c').cr =
    coe 0 1 (i. DecodePictureSends (f i).file (before c').luma (before c').cb (before c').cr (word c') (after c').luma (after c').cb (after c').cr) c'.call.learnt in
    let x = picture_written c.call.learnt d in
    let y = picture_written q d' in (
      x.0 ∙ sym y.0,
      x.1 ∙ sym y.1,
      λ colour. ((x.2 colour).0 ∙ sym (y.2 colour).0, (x.2 colour).1 ∙ sym (y.2 colour).1),
    )

pub demand_1 : (k : Claim1) → Demand1 k
demand_1 paper.fb_answers = fb_answers
demand_1 paper.fb_predict_missing_has_no_value = fb_predict_missing_has_no_value
demand_1 paper.fb_choose_missing_has_no_value = fb_choose_missing_has_no_value
demand_1 paper.fb_code_block_missing_has_no_value = fb_code_block_missing_has_no_value
demand_1 paper.fb_code_plane_entry_has_no_value = fb_code_plane_entry_has_no_value
demand_1 paper.fb_code_picture_entry_has_no_value = fb_code_picture_entry_has_no_value
demand_1 paper.fb_decode_plane_entry_has_no_value = fb_decode_plane_entry_has_no_value
demand_1 paper.fb_decode_picture_entry_has_no_value = fb_decode_picture_entry_has_no_value
