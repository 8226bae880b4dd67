-- Demand 3 (`specs/Demand3`).
--     fb_forward_succeeds_exactly_if, fb_forward_carried_back, fb_forward_products, fb_forward_one_block, fb_forward_left, fb_forward_reached,
--     fb_levels_of_forward, fb_code_block_of_forward, fb_code_plane_of_forward, fb_code_picture_of_forward, fb_chroma_of_forward
--                  the claims of these names
--     takes_forward, fours_of_forward, whole_of_forward     what `fb_forward` takes; a record of the 4x4 kind; s by s levels, for either side
--     demand_3     all claims
-- Assumes nothing.
use mathlib.Core.Path.{◌≡◌, refl, sym, ap, ◌∙◌}
use mathlib.Core.Bool.{false}
use mathlib.Core.List.{List}
use Prim.Native.Nat.{ℕ, ◌<◌, ◌≤◌}
use borrow.Author.Tests.{eq-eqb}
use lib.IntN.{ℤ, pos}
use lib.ListN.{length, get_or, take, drop}
use Rattle.lists.specs.Bytes.{Bytes}
use Rattle.lists.specs.Chain.{pass, chain}
use Rattle.lists.specs.Tab.{tab}
use Rattle.lists.proofs.Chain.{chain_exactly_if}
use Rattle.lists.proofs.Tab.{length_tab, tab_same}
use Rattle.whole.specs.Bounds.{Each}
use Rattle.quantizer.specs.Chroma.{chroma_of}
use Rattle.quantizer.specs.Range.{highest}
use Rattle.intra4.specs.Choice.{chosen}
use Rattle.intra4.specs.Entry.{choose_tests}
use Rattle.intra4.specs.Samples.{Round, mask}
use Rattle.intra4.proofs.Missing.{same_mask}
use Rattle.transform.specs.Carried.{weighted, carried_back, products, Coefficients}
use Rattle.transform.specs.Entry.{Takes, forward_tests}
use Rattle.transform.specs.Forward.{forward}
use Rattle.transform.proofs.Carried.{carried_back_law, products_agree, one_block_only, coefficients_exactly_if}
use Rattle.transform.proofs.Sides.{length_forward}
use Rattle.transform.proofs.Demand.{takes_exactly_if}
use Rattle.residual.specs.Levels.{quantized, levels_of}
use Rattle.block.specs.Block.{residual_of, prediction_of}
use Rattle.block.proofs.Laws.{own_residual_small}
use Rattle.residual_whole.specs.Area.{Sided, blocks_of, raster_block}
use Rattle.residual_whole.specs.Coded.{residual_in, whole_dc, dc_levels, whole_levels}
use Rattle.residual_whole.specs.Rebuilt.{ac_in}
use Rattle.residual_whole.proofs.Blocks.{block_of_place}
use Rattle.residual_whole.proofs.Levels.{residual_within}
use Rattle.residual_whole.proofs.Own.{own_dc, own_ac}
use Rattle.head.proofs.Heads.{size_tells}
use Rattle.record.specs.Records.{is_whole, chroma_mode_in}
use Rattle.picture.specs.declared.Layout.{Layout}
use Rattle.picture.specs.Both.{Both, pair}
use Rattle.picture.specs.Order.{count_of}
use Rattle.picture.specs.Plane.{stride, plane_length, block_of, gathered}
use Rattle.picture.specs.Presence.{flags_of}
use Rattle.picture.specs.Whole.{whole_column, whole_row, whole_of}
use Rattle.picture.proofs.Bytes.{block_bytes}
use Rattle.macroblock.specs.Code.{record_from}
use Rattle.macroblock_chroma.specs.Code.{record_from_chroma}
use Rattle.macroblock_chroma.specs.Content.{cb_levels_in, cr_levels_in}
use Rattle.macroblock_chroma.proofs.CodedRecord.{BytesBoth}
use Rattle.plane.specs.Code.{plane_before, coded_plane}
use Rattle.plane.specs.Decode.{cleared}
use Rattle.plane.proofs.CodedOutcome.{outcome}
use Rattle.frame.specs.Code.{both_before, both_cleared, coded_both}
use Rattle.frame.proofs.FrameOutcome.{frame_outcome}
use Rattle.fleecebutton.specs.Sends.{ChooseSends}
use Rattle.fleecebutton.specs.Word.{choice_value}
use Rattle.fleecebutton.proofs.Told.{passed_word, done_word}
use Rattle.stamp.specs.Answers.{Succeeds}
use Rattle.stamp.specs.Calls.{fb_forward, fb_levels, fb_code_block, CallOf, word, given, before, after}
use Rattle.stamp.specs.Demand1.{tests_of}
use Rattle.stamp.specs.Demand3 as paper
use Rattle.stamp.specs.Demand3.{levels_from, FoursOfForward, WholeOfForward, LumaOfForward, ChromaOfForward, Claim3, Demand3}
use Rattle.stamp.specs.Unseen.{layout_given, picture_given}
use Rattle.stamp.proofs.Coders.{CodedAt, coded_at, near_whole, levels_whole, bytes_left, near_chroma, cb_levels, cr_levels}
use Rattle.stamp.proofs.Found.{flags_legal, block_long, agrees}
use Rattle.stamp.proofs.Laws.{made, sent_made}
use Rattle.stamp.proofs.Sent.{sent_plane, sent_picture}
use Rattle.stamp.proofs.Useless.{fb_own_record, fb_own_luma_record, fb_own_chroma_record}

pub fb_forward_succeeds_exactly_if : Demand3 paper.fb_forward_succeeds_exactly_if
fb_forward_succeeds_exactly_if c =
    let ts = tests_of fb_forward (given c) (before c) in
    let t = takes_exactly_if (given c).residual (before c) in
    (λ d. t.0 (passed_word ts 0 c.call.learnt.word d), λ h. done_word ts 0 c.call.learnt.word (t.1 h))

-- of sixteen residuals in -255..255, with room, it leaves the coefficients
takes_forward : (d : CallOf fb_forward) {x : List ℤ} → (given d).residual ≡ x → length (before d) ≡ 16 → length x ≡ 16 → Each 255 x → Succeeds (word d) × (after d ≡ forward x)
takes_forward d {x} is room long small =
    let t : Takes (given d).residual (before d) = rw is (record { long = long; room = room; small = small }) in
    let done = (fb_forward_succeeds_exactly_if d).1 t in
    (done, sent_made d.call.learnt done ∙ ap forward is)

pub fb_forward_carried_back : Demand3 paper.fb_forward_carried_back
fb_forward_carried_back c d = ap carried_back (sent_made c.call.learnt d) ∙ carried_back_law (given c).residual ((fb_forward_succeeds_exactly_if c).0 d).long

pub fb_forward_products : Demand3 paper.fb_forward_products
fb_forward_products c c' d d' =
    products_agree (given c).residual (given c').residual
    ∙ (λ i. products (weighted (sym (sent_made c.call.learnt d) i)) (sym (sent_made c'.call.learnt d') i))

pub fb_forward_one_block : Demand3 paper.fb_forward_one_block
fb_forward_one_block c c' d d' same =
    one_block_only (given c).residual (given c').residual ((fb_forward_succeeds_exactly_if c).0 d).long ((fb_forward_succeeds_exactly_if c').0 d').long
    (sym (sent_made c.call.learnt d) ∙ same ∙ sent_made c'.call.learnt d')

-- what was left is the coefficients of a block
coefficients : (c : CallOf fb_forward) → Succeeds (word c) → Coefficients (after c)
coefficients c d =
    let t = (fb_forward_succeeds_exactly_if c).0 d in
    record { block = (given c).residual; long = t.long; small = t.small; is = sym (sent_made c.call.learnt d) }

pub fb_forward_left : Demand3 paper.fb_forward_left
fb_forward_left c d =
    let long = ap length (sent_made c.call.learnt d) ∙ length_forward (given c).residual in
    (long, (coefficients_exactly_if (after c) long).0 (coefficients c d))

pub fb_forward_reached : Demand3 paper.fb_forward_reached
fb_forward_reached y h = let k = (coefficients_exactly_if y h.0).1 h.1 in (k.block, k.long, k.small, by k)
  where
    by : (k : Coefficients y) (c : CallOf fb_forward) → (given c).residual ≡ k.block → length (before c) ≡ 16 → Succeeds (word c) × (after c ≡ y)
    by k c is room = let t = takes_forward c is room k.long k.small in (t.0, t.1 ∙ k.is)

-- ---- demand 2's transform

-- the definition has the coefficients in it
levels_from_law : (qp : ℕ) (x : List ℤ) → levels_of qp x ≡ levels_from qp (forward x)
unfolding quantized
levels_from_law qp x = refl

residual_long : (samples prediction : List ℕ) → length (residual_of samples prediction) ≡ 16
unfolding residual_of
residual_long samples prediction = length_tab 16 _

pub fb_levels_of_forward : Demand3 paper.fb_levels_of_forward
fb_levels_of_forward c d done same room =
    let x = (given c).residual in
    let all = (chain_exactly_if (tests_of fb_levels (given c) (before c))).passes.0 (passed_word (tests_of fb_levels (given c) (before c)) 0 c.call.learnt.word done) in
    let v : chain (forward_tests (given d).residual (before d)) ≡ pass =
    rw same ((chain_exactly_if (forward_tests x (before d))).passes.1 (all.0, (eq-eqb _ _ room, (all.1.1.1.0, tt)))) in
    let done' = done_word (forward_tests (given d).residual (before d)) 0 d.call.learnt.word v in
    (done', sent_made c.call.learnt done ∙ levels_from_law (given c).qp x ∙ ap (levels_from (given c).qp) (sym (sent_made d.call.learnt done' ∙ ap forward same)))

pub fb_code_block_of_forward : Demand3 paper.fb_code_block_of_forward
fb_code_block_of_forward c h d done e hroom same room =
    let g = given c in
    let s = c.call.learnt in
    let ts = tests_of fb_code_block g (before c) in
    let all = (chain_exactly_if ts).passes.0 (passed_word ts _ s.word done) in
    let round = mask g.neighbours g.flags in
    let x = residual_of g.samples (prediction_of round g.samples) in
    let q : ChooseSends g.neighbours g.flags g.samples (before h) (word h) (after h) =
    coe 0 1 (i. ChooseSends (e i).neighbours (e i).flags (e i).samples (before h) (word h) (after h)) h.call.learnt in
    let us = choose_tests g.neighbours g.flags g.samples (before h) in
    let chose : Succeeds (word h) =
    done_word us (choice_value (chosen round g.samples)) q.word ((chain_exactly_if us).passes.1 (all.0, (all.1.0, (eq-eqb _ _ hroom, (all.1.1.1.1.0, tt))))) in
    let t = takes_forward d (same ∙ ap (residual_of g.samples) (sent_made q chose)) room (residual_long g.samples _)
    (own_residual_small g.neighbours g.flags g.samples s.bytes.0 s.bytes.1) in
    (chose, t.0, made ts _ _ (before c).levels s.word s.levels done ∙ levels_from_law g.qp x ∙ ap (levels_from g.qp) (sym t.1))

-- ---- the coders' records

-- of the 4x4 kind
pub fours_of_forward : (l : Layout) (qp : ℕ) (original rebuilt : List ℕ) (m : ℕ) (part : List ℕ)
    → (is_whole part ≡ false → (b : ℕ) → b < 16 → CodedAt l qp original rebuilt m part b) → FoursOfForward l qp original rebuilt m part
fours_of_forward l qp original rebuilt m part at kind b hb n near h d e hroom same room =
    let k = at kind b hb in
    let f = flags_of 4 l m b in
    let g = gathered 4 l m b rebuilt in
    let samples = block_of 4 l m b original in
    let q : ChooseSends n f samples (before h) (word h) (after h) =
    coe 0 1 (i. ChooseSends (e i).neighbours (e i).flags (e i).samples (before h) (word h) (after h)) h.call.learnt in
    let us = choose_tests n f samples (before h) in
    let v : chain us ≡ pass =
    (chain_exactly_if us).passes.1
    (eq-eqb _ _ near.long, (eq-eqb _ _ (block_long l m b original), (eq-eqb _ _ hroom, (flags_legal l m b, tt)))) in
    let chose : Succeeds (word h) = done_word us (choice_value (chosen (mask n f) samples)) q.word v in
    let left : after h ≡ prediction_of (mask g f) samples = sent_made q chose ∙ ap (λ (r : Round). prediction_of r samples) (same_mask f n g (agrees near)) in
    let x = residual_of samples (prediction_of (mask g f) samples) in
    let t = takes_forward d (same ∙ ap (residual_of samples) left) room (residual_long samples _) (own_residual_small g f samples k.near k.own) in
    (chose, t.0, k.levels ∙ levels_from_law qp x ∙ ap (levels_from qp) (sym t.1))

-- of a macroblock predicted whole, for either side
module _ (s : ℕ) (side : Sided s) (qp : ℕ) (samples prediction : List ℕ) (bytes : Bytes samples) (near : Bytes prediction) {levels : List ℤ} (own : levels ≡ whole_levels s qp samples prediction) where
  module _ (d : ℕ → CallOf fb_forward) (asked : (b : ℕ) → b < blocks_of s → ((given (d b)).residual ≡ residual_in s samples prediction b) × (length (before (d b)) ≡ 16)) where
    left_of : (b : ℕ) → b < blocks_of s → Succeeds (word (d b)) × (after (d b) ≡ forward (residual_in s samples prediction b))
    unfolding residual_in
    left_of b h = takes_forward (d b) (asked b h).0 (asked b h).1 (residual_long _ _) (residual_within s samples prediction side bytes near b)

    ac_of_law : (b : ℕ) → b < blocks_of s → ac_in s levels b ≡ drop 1 (levels_from qp (after (d b)))
    ac_of_law b h =
        ap (λ (t : List ℤ). ac_in s t b) own ∙ own_ac s side qp samples prediction b h
        ∙ ap (drop 1) (levels_from_law qp (residual_in s samples prediction b) ∙ ap (levels_from qp) (sym (left_of b h).1))

    dc_of_law : take (blocks_of s) levels ≡ dc_levels (blocks_of s) qp (tab (blocks_of s) (λ place. get_or (after (d (raster_block s place))) 0 (pos 0)))
    unfolding whole_dc
    dc_of_law =
        ap (take (blocks_of s)) own ∙ own_dc s side qp samples prediction
        ∙ ap (dc_levels (blocks_of s) qp)
        (tab_same (blocks_of s) _ _ (λ place h. ap (λ (y : List ℤ). get_or y 0 (pos 0)) (sym (left_of (raster_block s place) (block_of_place s side place h)).1)))

  pub whole_of_forward : WholeOfForward s qp samples prediction levels
  whole_of_forward d asked = (λ b h. ((left_of d asked b h).0, ac_of_law d asked b h), dc_of_law d asked)

-- the samples of a macroblock are bytes
whole_bytes : (s : ℕ) (l : Layout) (m : ℕ) (plane : List ℕ) → Bytes plane → Bytes (whole_of s l m plane)
whole_bytes s l m plane bytes = block_bytes s (stride s l) (whole_column s l m) (whole_row s l m) plane bytes

-- a luma record of the coder's
module _ (l : Layout) (some : 0 < l.width) (qp : ℕ) (legal : qp ≤ highest) (original : List ℕ) (bytes : Bytes original) (m : ℕ) (among : m < count_of l) where
  luma_of_forward : {part rebuilt : List ℕ} → part ≡ record_from l qp original m (plane_before l qp original (cleared (plane_length 16 l)) m) → rebuilt ≡ coded_plane l qp original
      → LumaOfForward l qp original rebuilt m part
  luma_of_forward is stored =
      rw (is, stored) (
        fours_of_forward l qp original _ m _ (coded_at l some qp legal original bytes m among),
        λ kind. whole_of_forward 16 tt qp (whole_of 16 l m original) _ (whole_bytes 16 l m original bytes)
            (near_whole l some qp legal original bytes m among kind) (levels_whole l some qp legal original bytes m among kind),
      )

pub fb_code_plane_of_forward : Demand3 paper.fb_code_plane_of_forward
fb_code_plane_of_forward c done m h =
    let x = outcome _ _ _ _ _ _ _ _ _ _ (sent_plane c done) in
    let some = (size_tells (given c).width (given c).height x.size).some in
    luma_of_forward (layout_given c) some (given c).qp x.legal (given c).plane c.call.learnt.bytes m h (fb_own_record c done m h) x.stored

pub fb_code_picture_of_forward : Demand3 paper.fb_code_picture_of_forward
fb_code_picture_of_forward c done m h =
    let x = frame_outcome _ _ _ _ _ _ _ _ _ _ _ _ _ _ _ _ _ _ (sent_picture c done) in
    let some = (size_tells (given c).width (given c).height x.size).some in
    luma_of_forward (picture_given c) some (given c).qp x.legal (given c).luma c.call.learnt.bytes.0 m h (fb_own_luma_record c done m h) x.lumas

-- a chroma record of the coder's
module _ (l : Layout) (some : 0 < l.width) (qp : ℕ) (cb_offset cr_offset : ℤ) (original : Both) (bytes : BytesBoth original) (m : ℕ) (among : m < count_of l) where
  chroma_of_forward : {part cb cr : List ℕ} → part ≡ record_from_chroma l qp cb_offset cr_offset original m (both_before l qp cb_offset cr_offset original (both_cleared l) m)
      → cb ≡ (coded_both l qp cb_offset cr_offset original).cb → cr ≡ (coded_both l qp cb_offset cr_offset original).cr
      → ChromaOfForward l (chroma_of qp cb_offset) original.cb cb (chroma_mode_in part) m (cb_levels_in part)
      × ChromaOfForward l (chroma_of qp cr_offset) original.cr cr (chroma_mode_in part) m (cr_levels_in part)
  chroma_of_forward is cbs crs =
      let left = bytes_left l some qp cb_offset cr_offset original bytes (count_of l) in
      rw (is, cbs, crs) (
        whole_of_forward 8 tt (chroma_of qp cb_offset) (whole_of 8 l m original.cb) _ (whole_bytes 8 l m original.cb bytes.cbs) (near_chroma l _ m _ left.cbs)
            (cb_levels l some qp cb_offset cr_offset original bytes m among),
        whole_of_forward 8 tt (chroma_of qp cr_offset) (whole_of 8 l m original.cr) _ (whole_bytes 8 l m original.cr bytes.crs) (near_chroma l _ m _ left.crs)
            (cr_levels l some qp cb_offset cr_offset original bytes m among),
      )

pub fb_chroma_of_forward : Demand3 paper.fb_chroma_of_forward
fb_chroma_of_forward c done m h =
    let g = given c in
    let b = c.call.learnt.bytes in
    let x = frame_outcome _ _ _ _ _ _ _ _ _ _ _ _ _ _ _ _ _ _ (sent_picture c done) in
    let some = (size_tells g.width g.height x.size).some in
    chroma_of_forward (picture_given c) some g.qp g.cb_offset g.cr_offset (pair g.cb g.cr) (record { cbs = b.1; crs = b.2 }) m h
    (fb_own_chroma_record c done m h) x.cbs x.crs

pub demand_3 : (k : Claim3) → Demand3 k
demand_3 paper.fb_forward_succeeds_exactly_if = fb_forward_succeeds_exactly_if
demand_3 paper.fb_forward_carried_back = fb_forward_carried_back
demand_3 paper.fb_forward_products = fb_forward_products
demand_3 paper.fb_forward_one_block = fb_forward_one_block
demand_3 paper.fb_forward_left = fb_forward_left
demand_3 paper.fb_forward_reached = fb_forward_reached
demand_3 paper.fb_levels_of_forward = fb_levels_of_forward
demand_3 paper.fb_code_block_of_forward = fb_code_block_of_forward
demand_3 paper.fb_code_plane_of_forward = fb_code_plane_of_forward
demand_3 paper.fb_code_picture_of_forward = fb_code_picture_of_forward
demand_3 paper.fb_chroma_of_forward = fb_chroma_of_forward
