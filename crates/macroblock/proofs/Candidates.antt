-- The two candidates of a macroblock, and what is written of the one that is taken.
--     wins_whole, wins_fours                              an area of 256 levels is handed back whole
--     record_whole_law, step_whole, record_fours, step_fours  the record and the step, by the comparison that the code makes
--     whole_done, fours_done                              with the record written and the samples stored, all that the call has to leave
--     candidate_before                                    16x16 coded beside the samples of 4x4 is as it were beside the plane before them
--     not_below                                           where 16x16 was left out, it is no cheaper either
--     sixteen_over                                        the samples of 16x16 stored over those of 4x4: storing forgets what stood there
-- Assumes nothing.
use mathlib.Core.Path.{◌≡◌, sym, ap, ◌∙◌}
use mathlib.Core.List.{List}
use Prim.Native.Nat.{ℕ, zero, suc, ◌<◌, ◌≤◌, zero-le}
use native.Mathlib.Omega.{arith}
use borrow.Author.Tests.{lt-ltb, le-ltb}
use lib.IntN.{ℤ}
use lib.ListN.{length}
use lib.Seq.{take_all}
use Rattle.lists.specs.Parts.{over}
use Rattle.choice.specs.declared.inner.Standing.{Standing}
use Rattle.record.specs.Kinds.{in_fours, in_whole, length_of}
use Rattle.record.specs.Records.{record_of, record_whole}
use Rattle.picture.specs.declared.Layout.{Layout}
use Rattle.picture.specs.Order.{count_of}
use Rattle.picture.specs.Plane.{plane_length}
use Rattle.picture.specs.Whole.{with_whole, gathered_round}
use Rattle.picture.proofs.Round.{gathered_round_looks}
use Rattle.picture.proofs.Steps.{looks_after}
use Rattle.picture.proofs.Whole.{whole_forgets}
use Rattle.macroblock4.specs.Code.{modes_from, sads_from, blocks_from, record_from4, coded_step4}
use Rattle.macroblock4.proofs.Looks.{coded_step4_law}
use Rattle.macroblock4.proofs.RecordFrom.{length_record_from4}
use Rattle.macroblock16.specs.Code.{mode_from16, sad_from16, levels_from16, prediction_from16, record_from16, coded_step16, Candidate}
use Rattle.macroblock16.proofs.CodedRecord.{length_record_from16}
use Rattle.macroblock.specs.Code.{record_from, coded_step}
use Rattle.macroblock.specs.Winner.{winning}

-- ---- the winner

pub wins_whole : (four sixteen : List ℤ) {apart together : ℕ} → length sixteen ≡ 256 → together < apart → winning apart together four sixteen ≡ sixteen
unfolding winning
wins_whole four sixteen {apart} {together} long h = rw (lt-ltb together apart h) (take_all 256 sixteen (omega arith))

pub wins_fours : (four sixteen : List ℤ) {apart together : ℕ} → length four ≡ 256 → apart ≤ together → winning apart together four sixteen ≡ four
unfolding winning
wins_fours four sixteen {apart} {together} long h = rw (le-ltb together apart h) (take_all 256 four (omega arith))

-- what the call leaves: how many bytes it used, the file area and the plane
abbrev MacroblockCoded : (l : Layout) (qp : ℕ) (original : List ℕ) (m : ℕ) (before : List ℕ) (used : ℕ) (file file' after : List ℕ) → Type 0
MacroblockCoded l qp original m before used file file' after =
    (used ≡ length (record_from l qp original m before)) × ((file' ≡ over (record_from l qp original m before) file) × (after ≡ coded_step l qp original m before))

-- ---- by the comparison that the code makes, of the two SADs that it has

module _ (l : Layout) (qp : ℕ) (original : List ℕ) (m : ℕ) (before : List ℕ) {apart together : ℕ}
    (is-apart : apart ≡ sads_from l qp original m before) (is-together : together ≡ sad_from16 l original m (gathered_round 16 l m before)) where
  pub record_whole_law : together < apart → record_from l qp original m before ≡ record_from16 l qp original m before
  unfolding record_from
  record_whole_law h = rw (sym is-apart, sym is-together, lt-ltb together apart h)

  step_whole : together < apart → coded_step l qp original m before ≡ coded_step16 l qp original m before
  unfolding coded_step
  step_whole h = rw (sym is-apart, sym is-together, lt-ltb together apart h)

  pub record_fours : apart ≤ together → record_from l qp original m before ≡ record_from4 l qp original m before
  unfolding record_from
  record_fours h = rw (sym is-apart, sym is-together, le-ltb together apart h)

  step_fours : apart ≤ together → coded_step l qp original m before ≡ coded_step4 l qp original m before
  unfolding coded_step
  step_fours h = rw (sym is-apart, sym is-together, le-ltb together apart h)

  pub whole_done : {number mode used : ℕ} {levels : List ℤ} (file : List ℕ) {file' after : List ℕ} → together < apart → number ≡ qp
      → mode ≡ mode_from16 l original m (gathered_round 16 l m before) → levels ≡ levels_from16 l qp original m (gathered_round 16 l m before)
      → (used ≡ length_of in_whole) × (file' ≡ over (record_whole m number mode levels) file) → after ≡ coded_step16 l qp original m before → MacroblockCoded l qp original m before used file file' after
  unfolding record_from16
  whole_done file h is_number is-mode is-levels wrote step =
      let is = (λ i. record_whole m (is_number i) (is-mode i) (is-levels i)) ∙ sym (record_whole_law h) in
      (wrote.0 ∙ sym (ap length (record_whole_law h) ∙ length_record_from16 l qp original m before), (wrote.1 ∙ ap (λ (r : List ℕ). over r file) is, step ∙ sym (step_whole h)))

  pub fours_done : {number used : ℕ} {modes : List ℕ} {levels : List ℤ} (file : List ℕ) {file' after : List ℕ} → apart ≤ together → number ≡ qp
      → modes ≡ modes_from l qp original m before → levels ≡ blocks_from l qp original m before
      → (used ≡ length_of in_fours) × (file' ≡ over (record_of m number modes levels) file) → after ≡ coded_step4 l qp original m before → MacroblockCoded l qp original m before used file file' after
  unfolding record_from4
  fours_done file h is_number is-modes is-levels wrote step =
      let is = (λ i. record_of m (is_number i) (is-modes i) (is-levels i)) ∙ sym (record_fours h) in
      (wrote.0 ∙ sym (ap length (record_fours h) ∙ length_record_from4 l qp original m before), (wrote.1 ∙ ap (λ (r : List ℕ). over r file) is, step ∙ sym (step_fours h)))

-- ---- 16x16 behind 4x4

pub candidate_before : (l : Layout) → 0 < l.width → (m : ℕ) → m < count_of l → (qp : ℕ) (original before : List ℕ) → length before ≡ plane_length 16 l
    → {after : List ℕ} {found : Standing} {levels : List ℤ} {prediction : List ℕ} → after ≡ coded_step4 l qp original m before
    → Candidate l m qp original after found levels prediction → Candidate l m qp original before found levels prediction
candidate_before l some m among qp original before long step c =
    let seen = ap (gathered_round 16 l m) step ∙ looks_after 16 l m (gathered_round 16 l m) (gathered_round_looks l some m among 16 (omega arith)) (coded_step4_law l some m among qp original) before long in
    record {
      mode = c.mode ∙ ap (mode_from16 l original m) seen;
      sad = c.sad ∙ ap (sad_from16 l original m) seen;
      coded = c.coded ∙ ap (levels_from16 l qp original m) seen;
      shown = c.shown ∙ ap (prediction_from16 l original m) seen;
    }

pub not_below : (apart : ℕ) {together least : ℕ} → (0 < apart → together ≡ least) → apart ≤ together → apart ≤ least
not_below zero is h = zero-le
not_below (suc apart) is h = omega (arith, is (omega arith))

-- ---- 16x16 over 4x4

pub sixteen_over : (l : Layout) → 0 < l.width → (m : ℕ) → m < count_of l → (qp : ℕ) (original before : List ℕ) → length before ≡ plane_length 16 l
    → (block : List ℕ) {after : List ℕ} → after ≡ with_whole 16 l m block (coded_step4 l qp original m before) → after ≡ with_whole 16 l m block before
sixteen_over l some m among qp original before long block e = e ∙ whole_forgets 16 (omega arith) l some m among (coded_step4_law l some m among qp original) before long block
