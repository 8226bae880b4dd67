-- Demand 2 (`specs/Demand2`). `fb_gives` stands in `Gives`.
--     fb_plane_agrees, fb_picture_agrees, fb_choose_agrees, fb_block_agrees, fb_choose_least, fb_code_block_least, fb_plane_inspected,
--     fb_picture_inspected     the claims of these names
--     block_tells, predicts    what the word of `fb_code_block` tells; what `fb_predict` leaves
--     demand_2                 all claims
-- Assumes nothing.
use mathlib.Core.Path.{◌≡◌, sym, ap, ◌∙◌}
use mathlib.Core.Bool.{true}
use mathlib.Core.List.{List}
use Prim.Native.Nat.{ℕ, ◌+◌, ◌*◌, ◌<◌}
use native.Mathlib.Omega.{arith}
use borrow.Author.Tests.{eqb-true, eq-eqb}
use lib.Dec.{eqb, leb}
use lib.ListN.{length}
use Rattle.lists.specs.Chain.{Test, Verdict, pass, chain, AllPass}
use Rattle.lists.proofs.Chain.{chain_exactly_if, written_passed, holds_new}
use Rattle.refusal.specs.declared.Refusal.{Refusal}
use Rattle.refusal.proofs.Same.{says, says_same}
use Rattle.intra4.specs.Choice.{Best, at, chosen}
use Rattle.intra4.specs.Entry.{predict_tests, best_samples}
use Rattle.intra4.specs.Rules.{samples_of, predicted, permitted}
use Rattle.intra4.specs.Samples.{mask}
use Rattle.intra4.proofs.Bytes.{chosen_mode}
use Rattle.intra4.proofs.Least.{chosen_least}
use Rattle.residual.specs.Entry.{Rebuilds}
use Rattle.block.specs.Entry.{Codes}
use Rattle.block.proofs.Missing.{rebuilds}
use Rattle.head.specs.Entry.{long_at}
use Rattle.record.specs.Records.{colour_at}
use Rattle.plane.specs.Decode.{Decodes}
use Rattle.plane.proofs.CodedOutcome.{outcome}
use Rattle.plane.proofs.Trip.{coder_decoder_agree}
use Rattle.frame.specs.Decode.{decode_picture_tests, colour_number}
use Rattle.frame.proofs.Agree.{colour_coder_decoder_agree, colour_luma_decoded}
use Rattle.frame.proofs.FrameOutcome.{frame_outcome}
use Rattle.inspection.proofs.Promised.{decoded_passes}
use Rattle.fleecebutton.specs.Sends.{PredictSends, RebuildSends, DecodePlaneSends, DecodePictureSends, InspectSends}
use Rattle.fleecebutton.specs.Word.{word_of, choice_value}
use Rattle.fleecebutton.proofs.Told.{passed_word}
use Rattle.stamp.specs.Answers.{Succeeds, mode_told, sad_told, written_file}
use Rattle.stamp.specs.Calls.{fb_predict, fb_choose, fb_code_block, fb_inspect, CallOf, word, given, before, after}
use Rattle.stamp.specs.Demand1.{tests_of}
use Rattle.stamp.specs.Demand2 as paper
use Rattle.stamp.specs.Demand2.{Claim2, Demand2}
use Rattle.stamp.proofs.Gives.{fb_gives}
use Rattle.stamp.proofs.Laws.{valued, sent_made}
use Rattle.stamp.proofs.Sent.{sent_plane, sent_picture}
use Rattle.std.specs.Prelude.{Ok}

-- ---- planes

pub fb_plane_agrees : Demand2 paper.fb_plane_agrees
fb_plane_agrees c d done file room =
    let agreed : Decodes (written_file (word c) (after c).file) (before d) (Ok tt) (after c).rebuilt =
    (coder_decoder_agree _ _ _ _ _ _ _ _ _ _ c.call.learnt.bytes (sent_plane c done) (before d) room).0 in
    let q : DecodePlaneSends (written_file (word c) (after c).file) (before d) (word d) (after d) =
    coe 0 1 (i. DecodePlaneSends (file i) (before d) (word d) (after d)) d.call.learnt in
    (q.word ∙ ap (λ (v : Verdict Refusal). word_of v 0) (sym (says_same agreed.says)), q.wrote ∙ sym agreed.wrote)

pub fb_picture_agrees : Demand2 paper.fb_picture_agrees
fb_picture_agrees c d done file room roomCb roomCr =
    let b = c.call.learnt.bytes in
    let own = written_file (word c) (after c).file in
    let agreed = (colour_coder_decoder_agree _ _ _ _ _ _ _ _ _ _ _ _ _ _ _ _ _ _ (sent_picture c done) b.0 b.1 b.2
    (before d).luma (before d).cb (before d).cr room roomCb roomCr).decodes in
    let v : chain (decode_picture_tests own (before d).luma (before d).cb (before d).cr) ≡ pass = sym (says_same agreed.says) in
    let q : DecodePictureSends own (before d).luma (before d).cb (before d).cr (word d) (after d).luma (after d).cb (after d).cr =
    coe 0 1 (i. DecodePictureSends (file i) (before d).luma (before d).cb (before d).cr (word d) (after d).luma (after d).cb (after d).cr) d.call.learnt in
    let value : 1 ≡ colour_number (colour_at (long_at own) own) = holds_new 0 v agreed.value in (
      q.word ∙ (λ i. word_of (v i) (sym value i)),
      q.lumas ∙ sym agreed.lumas,
      q.cbs ∙ sym agreed.cbs,
      q.crs ∙ sym agreed.crs,
    )

-- ---- the choice

-- what a success whose value is the choice has passed and tells: the chosen mode, which the flags permit, and its SAD
pub record Told (ts : List (Test Refusal)) (n : List ℕ) (f : ℕ) (samples : List ℕ) (w : ℕ) : Type 0 where
  pub passed : chain ts ≡ pass
  pub all : AllPass ts
  pub best : chosen (mask n f) samples ≡ at (mode_told w) (sad_told w)
  pub allowed : permitted f (mode_told w) ≡ true

parted : (m s w : ℕ) → m < 9 → w ≡ 256 * (m + 16 * s) → (m ≡ mode_told w) × (s ≡ sad_told w)
parted m s w h z = (omega (arith, z, h), omega (arith, z, h))

tells : (ts : List (Test Refusal)) (n : List ℕ) (f : ℕ) (samples : List ℕ) {w : ℕ} → w ≡ word_of (chain ts) (choice_value (chosen (mask n f) samples))
    → (AllPass ts → eqb (length n) 13 ≡ true) → Succeeds w → Told ts n f samples w
tells ts n f samples {w} is few done =
    let best = chosen (mask n f) samples in
    let v = passed_word ts (choice_value best) is done in
    let all = (chain_exactly_if ts).passes.0 v in
    let k = chosen_mode n f samples (eqb-true _ _ (few all)) in
    let z : w ≡ 256 * (k.mode + 16 * k.sad) = valued ts (choice_value best) is done ∙ ap (λ (b : Best). 256 * choice_value b) k.is in
    let t = parted k.mode k.sad w k.within z in
    record { passed = v; all = all; best = k.is ∙ (λ i. at (t.0 i) (t.1 i)); allowed = ap (permitted f) (sym t.0) ∙ k.allowed }

choose_tells : (c : CallOf fb_choose) → Succeeds (word c) → Told (tests_of fb_choose (given c) (before c)) (given c).neighbours (given c).flags (given c).samples (word c)
choose_tells c = tells (tests_of fb_choose (given c) (before c)) (given c).neighbours (given c).flags (given c).samples c.call.learnt.word (λ all. all.0)

pub block_tells : (c : CallOf fb_code_block) → Succeeds (word c) → Told (tests_of fb_code_block (given c) (before c)) (given c).neighbours (given c).flags (given c).samples (word c)
block_tells c = tells (tests_of fb_code_block (given c) (before c)) (given c).neighbours (given c).flags (given c).samples c.call.learnt.word (λ all. all.0)

pub fb_choose_least : Demand2 paper.fb_choose_least
fb_choose_least c done = chosen_least (mask (given c).neighbours (given c).flags) (given c).samples (mode_told (word c)) (sad_told (word c)) (choose_tells c done).best

pub fb_code_block_least : Demand2 paper.fb_code_block_least
fb_code_block_least c done = chosen_least (mask (given c).neighbours (given c).flags) (given c).samples (mode_told (word c)) (sad_told (word c)) (block_tells c done).best

-- what `fb_predict` leaves of thirteen neighbours with legal flags and a permitted mode: that mode's samples
pub predicts : (p : CallOf fb_predict) (n : List ℕ) (f m : ℕ) → given p ≡ record { neighbours = n; flags = f; mode = m } → length (before p) ≡ 16
    → eqb (length n) 13 ≡ true → leb f 15 ≡ true → permitted f m ≡ true
    → (word p ≡ 0) × (after p ≡ samples_of (predicted (mask n f) m))
predicts p n f m e room long legal allowed =
    let a : PredictSends n f m (before p) (word p) (after p) =
    coe 0 1 (i. PredictSends (e i).neighbours (e i).flags (e i).mode (before p) (word p) (after p)) p.call.learnt in
    let v : chain (predict_tests n f m (before p)) ≡ pass =
    (chain_exactly_if (predict_tests n f m (before p))).passes.1 (long, (eq-eqb _ _ room, (legal, (allowed, tt)))) in
    (a.word ∙ ap (λ (u : Verdict Refusal). word_of u 0) v, holds_new (before p) v a.wrote)

-- ---- the same samples again

pub fb_choose_agrees : Demand2 paper.fb_choose_agrees
fb_choose_agrees c done p e room =
    let n = (given c).neighbours in
    let f = (given c).flags in
    let t = choose_tells c done in
    let x = predicts p n f (mode_told (word c)) e room t.all.0 t.all.1.1.1.0 t.allowed in
    (x.0, x.1 ∙ ap (best_samples (mask n f)) (sym t.best) ∙ sym (sent_made c.call.learnt done))

pub fb_block_agrees : Demand2 paper.fb_block_agrees
fb_block_agrees c done p r e proom e' rroom =
    let n = (given c).neighbours in
    let f = (given c).flags in
    let m = mode_told (word c) in
    let t = block_tells c done in
    let s = c.call.learnt in
    let codes : Codes (given c).qp f n (given c).samples (before c).levels (before c).rebuilt (Ok (record { mode = m; sad = sad_told (word c) })) (after c).levels (after c).rebuilt =
    record { says = says (sym t.passed); best = written_passed _ t.passed (sym t.best); levels = s.levels; rebuilt = s.rebuilt } in
    let x = predicts p n f m e proom t.all.0 t.all.1.1.1.1.0 t.allowed in
    let b : RebuildSends (given c).qp (samples_of (predicted (mask n f) m)) (after c).levels (before r) (word r) (after r) =
    coe 0 1 (i. RebuildSends (e' i).qp (((λ j. (e' j).prediction) ∙ x.1) i) (e' i).levels (before r) (word r) (after r)) r.call.learnt in
    let again : Rebuilds (given c).qp (samples_of (predicted (mask n f) m)) (after c).levels (before r) (Ok tt) (after c).rebuilt =
    rebuilds _ _ _ _ _ _ _ _ _ _ codes s.bytes.0 s.bytes.1 (before r) rroom in (
      x.0,
      b.word ∙ ap (λ (u : Verdict Refusal). word_of u 0) (sym (says_same again.says)),
      b.wrote ∙ sym again.wrote,
    )

-- ---- what the coders wrote, inspected

-- with a plane that the decoder leaves of the file
with_decoded : (c : CallOf fb_inspect) {file theirs : List ℕ} (out : List ℕ) → given c ≡ record { file = file; theirs = theirs } → Decodes file out (Ok tt) theirs → word c ≡ 0
with_decoded c {file} {theirs} out e d =
    let q : InspectSends file theirs (word c) = coe 0 1 (i. InspectSends (e i).file (e i).theirs (word c)) c.call.learnt in
    q ∙ ap (λ (v : Verdict Refusal). word_of v 0) (decoded_passes file out theirs d)

pub fb_plane_inspected : Demand2 paper.fb_plane_inspected
fb_plane_inspected c i done e =
    let room = (outcome _ _ _ _ _ _ _ _ _ _ (sent_plane c done)).room in
    with_decoded i (before c).rebuilt e (coder_decoder_agree _ _ _ _ _ _ _ _ _ _ c.call.learnt.bytes (sent_plane c done) (before c).rebuilt room).0

pub fb_picture_inspected : Demand2 paper.fb_picture_inspected
fb_picture_inspected c i done e =
    let b = c.call.learnt.bytes in
    let room = (frame_outcome _ _ _ _ _ _ _ _ _ _ _ _ _ _ _ _ _ _ (sent_picture c done)).room.luma_fits in
    with_decoded i (before c).luma e (colour_luma_decoded _ _ _ _ _ _ _ _ _ _ _ _ _ _ _ _ _ _ (sent_picture c done) b.0 b.1 b.2 (before c).luma room)

pub demand_2 : (k : Claim2) → Demand2 k
demand_2 paper.fb_gives = fb_gives
demand_2 paper.fb_plane_agrees = fb_plane_agrees
demand_2 paper.fb_picture_agrees = fb_picture_agrees
demand_2 paper.fb_choose_agrees = fb_choose_agrees
demand_2 paper.fb_block_agrees = fb_block_agrees
demand_2 paper.fb_choose_least = fb_choose_least
demand_2 paper.fb_code_block_least = fb_code_block_least
demand_2 paper.fb_plane_inspected = fb_plane_inspected
demand_2 paper.fb_picture_inspected = fb_picture_inspected
