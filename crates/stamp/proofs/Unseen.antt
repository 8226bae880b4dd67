-- What is not present, and another slice, has no value (`specs/Unseen`).
--     fb_NAME_unseen, fb_NAME_slice_alone, fb_NAME_block_alone     the claims of these names
--     blocks_coded, blocks_decoded            a record of the 4x4 kind, of a coder and of a decoder
--     unseen_has_no_value                     all claims
-- Assumes nothing.
use mathlib.Core.Path.{◌≡◌, sym, ap, ◌∙◌}
use mathlib.Core.Bool.{Bool, false, cond}
use mathlib.Core.List.{List, [], ◌∷◌}
use Prim.Native.Nat.{ℕ, ◌%◌, ◌<◌, ◌≤◌}
use borrow.Author.Tests.{eqb-true, eq-eqb}
use lib.ListN.{length}
use Rattle.lists.specs.Bytes.{Bytes}
use Rattle.lists.specs.Chain.{pass, chain}
use Rattle.lists.proofs.Chain.{chain_exactly_if, holds_new}
use Rattle.lists.proofs.Chains.{chain_behind, chain_pass}
use Rattle.refusal.specs.Tests.{length_test}
use Rattle.quantizer.specs.Range.{highest}
use Rattle.quantizer.proofs.Range.{number_passes}
use Rattle.choice.specs.Choice.{mode_of}
use Rattle.intra4.specs.Choice.{chosen}
use Rattle.intra4.specs.Rules as rules
use Rattle.intra4.specs.Samples.{Round, mask}
use Rattle.intra4.proofs.Bytes.{predicted_sixteen}
use Rattle.intra4.proofs.Missing.{same_mask}
use Rattle.residual.specs.Entry.{rebuild_tests}
use Rattle.block.specs.Block.{coded_levels, coded_samples}
use Rattle.block.specs.Entry.{code_tests}
use Rattle.head.specs.Entry.{head_tests, long_at, width_at, height_at}
use Rattle.head.proofs.Heads.{size_tells}
use Rattle.record.specs.Records.{is_whole, qp_in, mode_in, levels_in}
use Rattle.picture.specs.declared.Layout.{Layout}
use Rattle.picture.specs.Both.{pair}
use Rattle.picture.specs.Order.{count_of}
use Rattle.picture.specs.Plane.{plane_length, block_of, gathered}
use Rattle.picture.specs.Presence.{flags_of}
use Rattle.picture.proofs.Both.{LongBoth}
use Rattle.picture.proofs.Bytes.{length_gathered}
use Rattle.picture.proofs.Macroblocks.{slice_is}
use Rattle.macroblock4.specs.Content.{mode_holds, rescaled_in, range_holds}
use Rattle.macroblock4.specs.Rebuild.{block_from}
use Rattle.macroblock.specs.Code.{record_from}
use Rattle.macroblock.proofs.Contents.{content_legal}
use Rattle.plane.specs.Code.{behind_head, plane_before, coded_file, coded_plane}
use Rattle.plane.specs.Decode.{record_in, luma_in, chroma_in, layout_in, cleared, decoded, forms_tests, contents_tests, macroblock_tests, records_tests, body_tests}
use Rattle.plane.proofs.CodedOutcome.{outcome}
use Rattle.plane.proofs.Entry.{macroblocks_some}
use Rattle.plane.proofs.Trip.{own_record_in}
use Rattle.plane.proofs.Walking.{luma_passed}
use Rattle.frame.specs.Code.{both_cleared, coded_both, coded_frame}
use Rattle.frame.specs.Decode.{planes_tests, picture_tests, cb_from, cr_from}
use Rattle.frame.proofs.FrameOutcome.{frame_outcome}
use Rattle.frame.proofs.Trip.{frame_luma_in, frame_chroma_in}
use Rattle.fleecebutton.specs.Sends.{RebuildSends, CodeBlockSends}
use Rattle.fleecebutton.specs.Word.{choice_value}
use Rattle.fleecebutton.proofs.Told.{passed_word, done_word}
use Rattle.stamp.specs.Answers.{Succeeds}
use Rattle.stamp.specs.Calls.{fb_decode_plane, fb_decode_picture, word, given, before, after}
use Rattle.stamp.specs.Demand1.{tests_of}
use Rattle.stamp.specs.Unseen as paper
use Rattle.stamp.specs.Unseen.{Closed, of_slice, SameIn, layout_given, file_of, picture_given, frame_of, BlocksCoded, BlocksDecoded, UnseenClaim, Unseen}
use Rattle.stamp.proofs.Alike.{luma_records, luma_samples, chroma_records, cb_samples, cr_samples, rebuilt_alike, cb_alike, cr_alike}
use Rattle.stamp.proofs.Coders.{cleared_long, CodedAt, coded_at, DecodedAt, decoded_at}
use Rattle.stamp.proofs.Demand2.{block_tells, predicts}
use Rattle.stamp.proofs.Found.{flags_legal, block_long, agrees, levels_lie}
use Rattle.stamp.proofs.Gives.{fb_decode_plane_gives, fb_decode_picture_gives}
use Rattle.stamp.proofs.Laws.{sent_made}
use Rattle.stamp.proofs.Sent.{sent_plane, sent_picture}
use Rattle.stamp.proofs.Useless.{fb_own_record, fb_own_luma_record}

-- planes that are what two others are have their samples
same_in : (s : ℕ) (l : Layout) (these : ℕ → Bool) {x y p q : List ℕ} → x ≡ p → y ≡ q → SameIn s l these p q → SameIn s l these x y
same_in s l these e f h = rw (e, f) h

-- ---- coders

pub fb_code_plane_unseen : Unseen paper.fb_code_plane_unseen
fb_code_plane_unseen c c' d d' these closed layouts qps same =
    let l = layout_given c in
    let qp = (given c).qp in
    let p = (given c).plane in
    let q = (given c').plane in
    let start = cleared (plane_length 16 l) in
    let x = outcome _ _ _ _ _ _ _ _ _ _ (sent_plane c d) in
    let y = outcome _ _ _ _ _ _ _ _ _ _ (sent_plane c' d') in
    let some = (size_tells (given c).width (given c).height x.size).some in
    let that : length q ≡ plane_length 16 l = y.long ∙ ap (plane_length 16) layouts in
    let filed : file_of c' ≡ coded_file l qp q = y.filed ∙ (λ i. coded_file (layouts i) (qps i) q) in
    let stored : (after c').rebuilt ≡ coded_plane l qp q = y.stored ∙ (λ i. coded_plane (layouts i) (qps i) q) in (
      λ m h e.
          ap (λ (f : List ℕ). record_in f (behind_head l) m) x.filed ∙ own_record_in l qp p start m h
          ∙ luma_records l some these closed qp p q start x.long that (cleared_long _) same m h e
          ∙ sym ((λ i. record_in (filed i) (behind_head (layouts i)) m) ∙ own_record_in l qp q start m h),
      same_in 16 l these x.stored stored (luma_samples l some these closed qp p q start x.long that (cleared_long _) same),
    )

pub fb_code_picture_unseen : Unseen paper.fb_code_picture_unseen
fb_code_picture_unseen c c' d d' these closed layouts qps cbOffsets crOffsets sameLuma sameCb sameCr =
    let l = picture_given c in
    let qp = (given c).qp in
    let a = (given c).cb_offset in
    let b = (given c).cr_offset in
    let p = (given c).luma in
    let q = (given c').luma in
    let P = pair (given c).cb (given c).cr in
    let Q = pair (given c').cb (given c').cr in
    let start = cleared (plane_length 16 l) in
    let starts = both_cleared l in
    let x = frame_outcome _ _ _ _ _ _ _ _ _ _ _ _ _ _ _ _ _ _ (sent_picture c d) in
    let y = frame_outcome _ _ _ _ _ _ _ _ _ _ _ _ _ _ _ _ _ _ (sent_picture c' d') in
    let size = size_tells (given c).width (given c).height x.size in
    let count = macroblocks_some (given c).width (given c).height x.size in
    let that : length q ≡ plane_length 16 l = y.given.luma_fits ∙ ap (plane_length 16) layouts in
    let filed : frame_of c' ≡ coded_frame l qp a b q Q = y.filed ∙ (λ i. coded_frame (layouts i) (qps i) (cbOffsets i) (crOffsets i) q Q) in
    let both : coded_both (picture_given c') (given c').qp (given c').cb_offset (given c').cr_offset Q ≡ coded_both l qp a b Q =
    λ i. coded_both (layouts i) (qps i) (cbOffsets i) (crOffsets i) Q in
    let long : LongBoth 8 l starts = record { cbs = cleared_long _; crs = cleared_long _ } in (
      λ m h e. (
        ap (λ (f : List ℕ). luma_in f (behind_head l) m) x.filed ∙ frame_luma_in l qp a b p P start starts count m h
            ∙ luma_records l size.some these closed qp p q start x.given.luma_fits that (cleared_long _) sameLuma m h e
            ∙ sym ((λ i. luma_in (filed i) (behind_head (layouts i)) m) ∙ frame_luma_in l qp a b q Q start starts count m h),
        ap (λ (f : List ℕ). chroma_in f (behind_head l) m) x.filed ∙ frame_chroma_in l qp a b p P start starts count m h
            ∙ chroma_records l size.some these closed qp a b P Q starts long sameCb sameCr m h e
            ∙ sym ((λ i. chroma_in (filed i) (behind_head (layouts i)) m) ∙ frame_chroma_in l qp a b q Q start starts count m h),
      ),
      same_in 16 l these x.lumas (y.lumas ∙ (λ i. coded_plane (layouts i) (qps i) q)) (luma_samples l size.some these closed qp p q start x.given.luma_fits that (cleared_long _) sameLuma),
      same_in 8 l these x.cbs (y.cbs ∙ (λ i. (both i).cb)) (cb_samples l size.some these closed qp a b P Q starts long sameCb sameCr),
      same_in 8 l these x.crs (y.crs ∙ (λ i. (both i).cr)) (cr_samples l size.some these closed qp a b P Q starts long sameCb sameCr),
    )

-- ---- decoders

pub fb_decode_plane_unseen : Unseen paper.fb_decode_plane_unseen
fb_decode_plane_unseen d d' s s' these closed layouts same =
    let file = (given d).file in
    let file' = (given d').file in
    let ts = tests_of fb_decode_plane (given d) (before d) in
    let all = (chain_exactly_if ts).passes.0 (passed_word ts 0 d.call.learnt.word s) in
    let some = (size_tells (width_at file) (height_at file) all.1.1.1.1.0).some in
    same_in 16 (layout_in file) these (fb_decode_plane_gives d s).1 ((fb_decode_plane_gives d' s').1 ∙ (λ i. decoded (layouts i) (luma_in file' (long_at file'))))
    (rebuilt_alike (layout_in file) some these closed (luma_in file (long_at file)) (luma_in file' (long_at file')) same _ (cleared_long _))

pub fb_decode_picture_unseen : Unseen paper.fb_decode_picture_unseen
fb_decode_picture_unseen d d' s s' these closed layouts same =
    let file = (given d).file in
    let file' = (given d').file in
    let l = layout_in file in
    let luma = luma_in file (long_at file) in
    let luma' = luma_in file' (long_at file') in
    let chroma = chroma_in file (long_at file) in
    let chroma' = chroma_in file' (long_at file') in
    let ts = tests_of fb_decode_picture (given d) (before d) in
    let all = (chain_exactly_if ts).passes.0 (passed_word ts _ d.call.learnt.word s) in
    let some = (size_tells (width_at file) (height_at file) all.1.1.1.1.0).some in
    let g = (fb_decode_picture_gives d s).1 in
    let g' = (fb_decode_picture_gives d' s').1 in (
      same_in 16 l these (λ i. (g i).luma) ((λ i. (g' i).luma) ∙ (λ i. decoded (layouts i) luma')) (rebuilt_alike l some these closed luma luma' same _ (cleared_long _)),
      λ colour colour' also. (
        same_in 8 l these
            ((λ i. (g i).cb) ∙ ap (λ (t : Bool). cond t (cb_from l luma chroma (cleared (plane_length 8 l))) (before d).cb) colour)
            ((λ i. (g' i).cb) ∙ ap (λ (t : Bool). cond t (cb_from (layout_in file') luma' chroma' (cleared (plane_length 8 (layout_in file')))) (before d').cb) colour'
            ∙ (λ i. cb_from (layouts i) luma' chroma' (cleared (plane_length 8 (layouts i)))))
            (cb_alike l some these closed luma luma' same chroma chroma' also _ (cleared_long _)),
        same_in 8 l these
            ((λ i. (g i).cr) ∙ ap (λ (t : Bool). cond t (cr_from l luma chroma (cleared (plane_length 8 l))) (before d).cr) colour)
            ((λ i. (g' i).cr) ∙ ap (λ (t : Bool). cond t (cr_from (layout_in file') luma' chroma' (cleared (plane_length 8 (layout_in file')))) (before d').cr) colour'
            ∙ (λ i. cr_from (layouts i) luma' chroma' (cleared (plane_length 8 (layouts i)))))
            (cr_alike l some these closed luma luma' same chroma chroma' also _ (cleared_long _)),
      ),
    )

-- ---- a slice stands alone

slice_closed : (l : Layout) (slice : ℕ) → Closed l (of_slice l slice)
slice_closed l slice m k e present beside = eq-eqb _ _ (slice_is l m k present ∙ eqb-true _ _ e)

pub fb_code_plane_slice_alone : Unseen paper.fb_code_plane_slice_alone
fb_code_plane_slice_alone c c' d d' slice = fb_code_plane_unseen c c' d d' (of_slice (layout_given c) slice) (slice_closed (layout_given c) slice)

pub fb_code_picture_slice_alone : Unseen paper.fb_code_picture_slice_alone
fb_code_picture_slice_alone c c' d d' slice = fb_code_picture_unseen c c' d d' (of_slice (picture_given c) slice) (slice_closed (picture_given c) slice)

pub fb_decode_plane_slice_alone : Unseen paper.fb_decode_plane_slice_alone
fb_decode_plane_slice_alone d d' s s' slice = fb_decode_plane_unseen d d' s s' (of_slice (layout_in (given d).file) slice) (slice_closed (layout_in (given d).file) slice)

pub fb_decode_picture_slice_alone : Unseen paper.fb_decode_picture_slice_alone
fb_decode_picture_slice_alone d d' s s' slice = fb_decode_picture_unseen d d' s s' (of_slice (layout_in (given d).file) slice) (slice_closed (layout_in (given d).file) slice)

-- ---- a block inside its macroblock

blocks_coded : (l : Layout) (qp : ℕ) → qp ≤ highest → (original rebuilt : List ℕ) (m : ℕ) (part : List ℕ)
    → (is_whole part ≡ false → (b : ℕ) → b < 16 → CodedAt l qp original rebuilt m part b) → BlocksCoded l qp original rebuilt m part
blocks_coded l qp legal original rebuilt m part at kind b hb n near k e room room' =
    let x = at kind b hb in
    let f = flags_of 4 l m b in
    let samples = block_of 4 l m b original in
    let round = same_mask f n (gathered 4 l m b rebuilt) (agrees near) in
    let s : CodeBlockSends qp f n samples (before k).levels (before k).rebuilt (word k) (after k).levels (after k).rebuilt =
    coe 0 1 (i. CodeBlockSends (e i).qp (e i).flags (e i).neighbours (e i).samples (before k).levels (before k).rebuilt (word k) (after k).levels (after k).rebuilt) k.call.learnt in
    let ts = code_tests qp f n samples (before k).levels (before k).rebuilt in
    let v : chain ts ≡ pass =
    (chain_exactly_if ts).passes.1 (
      eq-eqb _ _ near.long,
      (eq-eqb _ _ (block_long l m b original), (eq-eqb _ _ room, (eq-eqb _ _ room', (flags_legal l m b, (number_passes 0 qp legal, tt))))),
    ) in
    let done : Succeeds (word k) = done_word ts (choice_value (chosen (mask n f) samples)) s.word v in (
      done,
      sym (ap mode_of (block_tells k done).best) ∙ (λ i. mode_of (chosen (mask (e i).neighbours (e i).flags) (e i).samples))
          ∙ ap (λ (r : Round). mode_of (chosen r samples)) round ∙ sym x.mode,
      holds_new (before k).levels v s.levels ∙ ap (λ (r : Round). coded_levels qp r samples) round ∙ sym x.levels,
      holds_new (before k).rebuilt v s.rebuilt ∙ ap (λ (r : Round). coded_samples qp r samples) round ∙ sym x.samples,
    )

coded_blocks : (l : Layout) → 0 < l.width → (qp : ℕ) → qp ≤ highest → (original : List ℕ) → Bytes original → (m : ℕ) → m < count_of l
    → {part rebuilt : List ℕ} → part ≡ record_from l qp original m (plane_before l qp original (cleared (plane_length 16 l)) m) → rebuilt ≡ coded_plane l qp original
    → BlocksCoded l qp original rebuilt m part
coded_blocks l some qp legal original bytes m among is stored = rw (is, stored) (blocks_coded l qp legal original _ m _ (coded_at l some qp legal original bytes m among))

pub fb_code_plane_block_alone : Unseen paper.fb_code_plane_block_alone
fb_code_plane_block_alone c done m h =
    let x = outcome _ _ _ _ _ _ _ _ _ _ (sent_plane c done) in
    let some = (size_tells (given c).width (given c).height x.size).some in
    coded_blocks (layout_given c) some (given c).qp x.legal (given c).plane c.call.learnt.bytes m h (fb_own_record c done m h) x.stored

pub fb_code_picture_block_alone : Unseen paper.fb_code_picture_block_alone
fb_code_picture_block_alone c done m h =
    let x = frame_outcome _ _ _ _ _ _ _ _ _ _ _ _ _ _ _ _ _ _ (sent_picture c done) in
    let some = (size_tells (given c).width (given c).height x.size).some in
    coded_blocks (picture_given c) some (given c).qp x.legal (given c).luma c.call.learnt.bytes.0 m h (fb_own_luma_record c done m h) x.lumas

blocks_decoded : (l : Layout) (plane : List ℕ) (m : ℕ) (part : List ℕ) → qp_in part ≤ highest
    → (is_whole part ≡ false → (b : ℕ) → b < 16 → DecodedAt l plane m part b) → BlocksDecoded l plane m part
unfolding mode_holds range_holds rescaled_in block_from
blocks_decoded l plane m part legal at kind b hb n near p r e room e' room' =
    let x = at kind b hb in
    let f = flags_of 4 l m b in
    let g = gathered 4 l m b plane in
    let mode = mode_in b part in
    let prediction = rules.samples_of (rules.predicted (mask g f) mode) in
    let y = predicts p n f mode e room (eq-eqb _ _ near.long) (flags_legal l m b) x.mode in
    let shown : after p ≡ prediction = y.1 ∙ ap (λ (t : Round). rules.samples_of (rules.predicted t mode)) (same_mask f n g (agrees near)) in
    let s : RebuildSends (qp_in part) prediction (levels_in b part) (before r) (word r) (after r) =
    coe 0 1 (i. RebuildSends (e' i).qp (((λ j. (e' j).prediction) ∙ shown) i) (e' i).levels (before r) (word r) (after r)) r.call.learnt in
    let us = rebuild_tests (qp_in part) prediction (levels_in b part) (before r) in
    let levels = levels_lie b part in
    let v : chain us ≡ pass =
    (chain_exactly_if us).passes.1
    (eq-eqb _ _ levels.0, (eq-eqb _ _ (predicted_sixteen g f (length_gathered 4 l m b plane) mode x.mode), (eq-eqb _ _ room', (number_passes 0 (qp_in part) legal, (eq-eqb _ _ levels.1, (x.range, tt)))))) in
    let done : Succeeds (word r) = done_word us 0 s.word v in
    (ap (λ (w : ℕ). w % 256) y.0, done, sent_made s done ∙ sym x.samples)

-- of a file whose records pass
decoded_blocks : (l : Layout) → 0 < l.width → (file : List ℕ) (place : ℕ) → chain (records_tests l place file) ≡ pass → (m : ℕ) → m < count_of l
    → {plane : List ℕ} → plane ≡ decoded l (luma_in file place) → BlocksDecoded l plane m (luma_in file place m)
decoded_blocks l some file place passed m h stored =
    let content = luma_passed l file place m
    (chain_pass (macroblock_tests l place file) (count_of l) m h (chain_behind (forms_tests l place file) (contents_tests l place file) passed)) in
    rw stored (blocks_decoded l _ m _ (content_legal l m (luma_in file place m) content) (λ kind. decoded_at l some (luma_in file place) m h kind content))

pub fb_decode_plane_block_alone : Unseen paper.fb_decode_plane_block_alone
fb_decode_plane_block_alone d done m h =
    let file = (given d).file in
    let l = layout_in file in
    let ts = tests_of fb_decode_plane (given d) (before d) in
    let v = passed_word ts 0 d.call.learnt.word done in
    let some = (size_tells (width_at file) (height_at file) ((chain_exactly_if ts).passes.0 v).1.1.1.1.0).some in
    let body = chain_behind (head_tests file) (body_tests l (long_at file) file (before d)) v in
    decoded_blocks l some file (long_at file) (chain_behind (length_test (plane_length 16 l) (length (before d)) ∷ []) (records_tests l (long_at file) file) body) m h (fb_decode_plane_gives d done).1

pub fb_decode_picture_block_alone : Unseen paper.fb_decode_picture_block_alone
fb_decode_picture_block_alone d done m h =
    let file = (given d).file in
    let l = layout_in file in
    let o = before d in
    let ts = tests_of fb_decode_picture (given d) o in
    let v = passed_word ts _ d.call.learnt.word done in
    let some = (size_tells (width_at file) (height_at file) ((chain_exactly_if ts).passes.0 v).1.1.1.1.0).some in
    let body = chain_behind (head_tests file) (picture_tests l (long_at file) file o.luma o.cb o.cr) v in
    let records = chain_behind (planes_tests l (length o.luma) (length o.cb) (length o.cr)) (records_tests l (long_at file) file) body in
    decoded_blocks l some file (long_at file) records m h (λ i. ((fb_decode_picture_gives d done).1 i).luma)

pub unseen_has_no_value : (k : UnseenClaim) → Unseen k
unseen_has_no_value paper.fb_code_plane_unseen = fb_code_plane_unseen
unseen_has_no_value paper.fb_code_picture_unseen = fb_code_picture_unseen
unseen_has_no_value paper.fb_decode_plane_unseen = fb_decode_plane_unseen
unseen_has_no_value paper.fb_decode_picture_unseen = fb_decode_picture_unseen
unseen_has_no_value paper.fb_code_plane_slice_alone = fb_code_plane_slice_alone
unseen_has_no_value paper.fb_code_picture_slice_alone = fb_code_picture_slice_alone
unseen_has_no_value paper.fb_decode_plane_slice_alone = fb_decode_plane_slice_alone
unseen_has_no_value paper.fb_decode_picture_slice_alone = fb_decode_picture_slice_alone
unseen_has_no_value paper.fb_code_plane_block_alone = fb_code_plane_block_alone
unseen_has_no_value paper.fb_code_picture_block_alone = fb_code_picture_block_alone
unseen_has_no_value paper.fb_decode_plane_block_alone = fb_decode_plane_block_alone
unseen_has_no_value paper.fb_decode_picture_block_alone = fb_decode_picture_block_alone
