-- A missing neighbour has no value, in the chroma planes too (01; 02, Req 05).
--     samples_stored           the macroblock's samples behind a turn of it are what it made
--     missing_has_no_value_chroma     of any two calls of `code_chroma` that differ in the rebuilt planes only, and there not at a neighbour that is
--                              present: the same record, and the same samples of the macroblock in both planes
-- Assumes nothing.
use mathlib.Core.Path.{◌≡◌, sym, ap, ◌∙◌}
use mathlib.Core.List.{List}
use Prim.Native.Nat.{ℕ, ◌<◌}
use native.Mathlib.Omega.{arith}
use contract.Lifetimes.{Lfts}
use denote.Triple.Clauses.{AtExit}
use borrow.Fn.Kinds.{Dens, res_t, ended_of}
use lib.IntN.{ℤ}
use lib.ListN.{length, take}
use lib.Seq.{take_at}
use Rattle.lists.specs.Parts.{over}
use Rattle.lists.specs.Tab.{grid}
use Rattle.lists.proofs.Tab.{length_tab}
use Rattle.quantizer.specs.Chroma.{chroma_of}
use Rattle.residual_whole.specs.Area.{by_blocks}
use Rattle.residual_whole.specs.Rebuilt.{whole_samples}
use Rattle.record.specs.Kinds.{in_chroma, length_of}
use Rattle.picture.specs.declared.Layout.{Layout}
use Rattle.picture.specs.Both.{Both, pair}
use Rattle.picture.specs.Order.{count_of}
use Rattle.picture.specs.Plane.{plane_length}
use Rattle.picture.specs.Whole.{gathered_round, AgreeRound, whole_of, whole_turn}
use Rattle.picture.proofs.Round.{gathered_round_same}
use Rattle.picture.proofs.Whole.{whole_back}
use Rattle.macroblock_chroma.specs.Code.{mode_for_both, coded_chroma, plane_step_chroma, record_from_chroma, coded_step_chroma}
use Rattle.macroblock_chroma.specs.Rebuild.{samples_chroma}
use Rattle.macroblock_chroma.proofs.CodedRecord.{length_record_from_chroma}
use Rattle.macroblock_chroma.proofs.Looks.{SameAround, same_mode, same_record_chroma}
use Rattle.macroblock_chroma.proofs.inner.code_chroma.Kinds as code_chroma
use Rattle.macroblock_chroma.proofs.inner.code_chroma.Reads as code_chroma_reads

module _ (l : Layout) (some : 0 < l.width) (m : ℕ) (among : m < count_of l) (qp : ℕ) (original : List ℕ) (mode : ℕ) (before : List ℕ) where
  length_coded : (neighbours : List ℕ) → length (coded_chroma l qp original mode m neighbours) ≡ 64
  unfolding coded_chroma samples_chroma whole_samples by_blocks grid
  length_coded neighbours = length_tab 64 _

  pub samples_stored : length before ≡ plane_length 8 l → whole_of 8 l m (plane_step_chroma l qp original mode m before) ≡ coded_chroma l qp original mode m (gathered_round 8 l m before)
  unfolding whole_turn
  samples_stored long =
      whole_back 8 (omega arith) l some m among (coded_chroma l qp original mode m (gathered_round 8 l m before)) before (length_coded (gathered_round 8 l m before)) long

-- in both planes, of the same neighbours
module _ (l : Layout) (some : 0 < l.width) (m : ℕ) (among : m < count_of l) (qp : ℕ) (cb_offset cr_offset : ℤ) (original : Both) {b c : Both} (same : SameAround l m b c) where
  same_cb : length b.cb ≡ plane_length 8 l → length c.cb ≡ plane_length 8 l
      → whole_of 8 l m (coded_step_chroma l qp cb_offset cr_offset original m b).cb ≡ whole_of 8 l m (coded_step_chroma l qp cb_offset cr_offset original m c).cb
  unfolding coded_step_chroma
  same_cb long other =
      samples_stored l some m among (chroma_of qp cb_offset) original.cb (mode_for_both l original m b) b.cb long
      ∙ (λ i. coded_chroma l (chroma_of qp cb_offset) original.cb (same_mode l original m same i) m (same.cbs i))
      ∙ sym (samples_stored l some m among (chroma_of qp cb_offset) original.cb (mode_for_both l original m c) c.cb other)

  same_cr : length b.cr ≡ plane_length 8 l → length c.cr ≡ plane_length 8 l
      → whole_of 8 l m (coded_step_chroma l qp cb_offset cr_offset original m b).cr ≡ whole_of 8 l m (coded_step_chroma l qp cb_offset cr_offset original m c).cr
  unfolding coded_step_chroma
  same_cr long other =
      samples_stored l some m among (chroma_of qp cr_offset) original.cr (mode_for_both l original m b) b.cr long
      ∙ (λ i. coded_chroma l (chroma_of qp cr_offset) original.cr (same_mode l original m same i) m (same.crs i))
      ∙ sym (samples_stored l some m among (chroma_of qp cr_offset) original.cr (mode_for_both l original m c) c.cr other)

-- two calls: a holds a call's arguments, r is its answer and e what is lent at its exit; with a stroke those of the second
module _ (κs κs' : Lfts 5) (a : Dens κs code_chroma.ps) (a' : Dens κs' code_chroma.ps)
    (r : (res_t code_chroma.r κs).Denot) (r' : (res_t code_chroma.r κs').Denot)
    (e : AtExit (ended_of 5 code_chroma.ps code_chroma.r) κs) (e' : AtExit (ended_of 5 code_chroma.ps code_chroma.r) κs')
    (asked : code_chroma_reads.Asked κs a) (asked' : code_chroma_reads.Asked κs' a')
    (learnt : code_chroma_reads.Learnt κs a r e) (learnt' : code_chroma_reads.Learnt κs' a' r' e') where
  abbrev layout : Layout
  layout = a.0

  abbrev number : ℕ
  number = a.1.0

  abbrev qp : ℕ
  qp = a.1.1.0

  abbrev cb_offset : ℤ
  cb_offset = a.1.1.1.0

  abbrev cr_offset : ℤ
  cr_offset = a.1.1.1.1.0

  abbrev cb : List ℕ
  cb = a.1.1.1.1.1.0.now

  abbrev cr : List ℕ
  cr = a.1.1.1.1.1.1.0.now

  -- the planes as they were rebuilt before the macroblock
  abbrev before : Both
  before = pair a.1.1.1.1.1.1.1.1.0.now a.1.1.1.1.1.1.1.1.1.0.now

  abbrev before' : Both
  before' = pair a'.1.1.1.1.1.1.1.1.0.now a'.1.1.1.1.1.1.1.1.1.0.now

  -- the record in front, of what was lent for it
  abbrev record_left : List ℕ → List ℕ
  record_left file = take (length_of in_chroma) file

  pub missing_has_no_value_chroma : a'.0 ≡ layout → a'.1.0 ≡ number → a'.1.1.0 ≡ qp → a'.1.1.1.0 ≡ cb_offset → a'.1.1.1.1.0 ≡ cr_offset
      → a'.1.1.1.1.1.0.now ≡ cb → a'.1.1.1.1.1.1.0.now ≡ cr
      → AgreeRound 8 layout number before.cb before'.cb → AgreeRound 8 layout number before.cr before'.cr
      → (record_left e.1.1.1.1.1.1.1.0.now ≡ record_left e'.1.1.1.1.1.1.1.0.now)
      × (whole_of 8 layout number e.1.1.1.1.1.1.1.1.0.now ≡ whole_of 8 layout number e'.1.1.1.1.1.1.1.1.0.now)
      × (whole_of 8 layout number e.1.1.1.1.1.1.1.1.1.0.now ≡ whole_of 8 layout number e'.1.1.1.1.1.1.1.1.1.0.now)
  missing_has_no_value_chroma is_l is_m is-q is_b is-r is-cb is-cr agree agree' =
      let same : SameAround layout number before before' =
      record { cbs = gathered_round_same 8 layout number before.cb before'.cb agree; crs = gathered_round_same 8 layout number before.cr before'.cr agree' } in
      let some = asked.0.0.sound.some in
      let among = asked.0.0.macroblock in
      let written' = learnt'.1.0
      ∙ (λ i. over (record_from_chroma (is_l i) (is-q i) (is_b i) (is-r i) (pair (is-cb i) (is-cr i)) (is_m i) before') a'.1.1.1.1.1.1.1.0.now) in
      let both = learnt.1.1 in
      let both' = learnt'.1.1 ∙ (λ i. coded_step_chroma (is_l i) (is-q i) (is_b i) (is-r i) (pair (is-cb i) (is-cr i)) (is_m i) before') in (
        ap record_left learnt.1.0
            ∙ take_at (record_from_chroma layout qp cb_offset cr_offset (pair cb cr) number before) _ (length_of in_chroma) (length_record_from_chroma layout qp cb_offset cr_offset (pair cb cr) number before)
            ∙ same_record_chroma layout (pair cb cr) number same qp cb_offset cr_offset
            ∙ sym (ap record_left written'
            ∙ take_at (record_from_chroma layout qp cb_offset cr_offset (pair cb cr) number before') _ (length_of in_chroma) (length_record_from_chroma layout qp cb_offset cr_offset (pair cb cr) number before')),
        ap (λ (b : Both). whole_of 8 layout number b.cb) both
            ∙ same_cb layout some number among qp cb_offset cr_offset (pair cb cr) same asked.1.1.0 (asked'.1.1.0 ∙ ap (plane_length 8) is_l)
            ∙ sym (ap (λ (b : Both). whole_of 8 layout number b.cb) both'),
        ap (λ (b : Both). whole_of 8 layout number b.cr) both
            ∙ same_cr layout some number among qp cb_offset cr_offset (pair cb cr) same asked.1.1.1 (asked'.1.1.1 ∙ ap (plane_length 8) is_l)
            ∙ sym (ap (λ (b : Both). whole_of 8 layout number b.cr) both'),
      )
