-- Which kind a macroblock is coded in: "The macroblock takes it exactly if its SAD is below the sum of the sixteen 4x4 SADs" (02, Req 01).
--     sixteen_exactly_if     of any call of `code_macroblock`, over its own reading: it answers the length of a record of 16x16 exactly if
--                            that SAD is below the sum of the sixteen others
--     winner_part            of any call of `winner`, over its own reading: what is handed back is the part of the area with the smaller
--                            SAD, in its place; of the 4x4 area on a tie
-- Assumes nothing.
use mathlib.Core.Path.{◌≡◌, refl, sym, ap, ◌∙◌}
use mathlib.Core.Bool.{Bool, true, false}
use mathlib.Core.List.{List}
use mathlib.Core.Logic.{◌↔◌}
use Prim.Native.Nat.{ℕ, ◌<◌, ◌≤◌}
use native.Mathlib.Omega.{arith}
use contract.Lifetimes.{Lfts}
use denote.Triple.Clauses.{AtExit}
use borrow.Author.Tests.{lt-ltb, le-ltb, ltb-true, ltb-false}
use borrow.Fn.Kinds.{Dens, res_t, ended_of}
use lib.ListN.{length, take}
use Rattle.record.specs.Kinds.{in_whole, length_of}
use Rattle.picture.specs.declared.Layout.{Layout}
use Rattle.picture.specs.Whole.{gathered_round}
use Rattle.macroblock4.specs.Code.{sads_from}
use Rattle.macroblock4.proofs.RecordFrom.{length_record_from4}
use Rattle.macroblock16.specs.Code.{sad_from16}
use Rattle.macroblock16.proofs.CodedRecord.{length_record_from16}
use Rattle.macroblock.specs.Code.{record_from}
use Rattle.macroblock.specs.Winner.{winning}
use Rattle.macroblock.proofs.RecordFrom.{together}
use Rattle.macroblock.proofs.Candidates.{record_whole_law, record_fours}
use Rattle.macroblock.proofs.inner.code_macroblock.Kinds as code
use Rattle.macroblock.proofs.inner.code_macroblock.Reads as code_Reads
use Rattle.macroblock.proofs.inner.winner.Kinds as winner
use Rattle.macroblock.proofs.inner.winner.Reads as winner_reads

module _ (l : Layout) (qp : ℕ) (original : List ℕ) (m : ℕ) (before : List ℕ) where
  whole_exactly_if : (length (record_from l qp original m before) ≡ length_of in_whole) ↔ (sad_from16 l original m (gathered_round 16 l m before) < sads_from l qp original m before)
  whole_exactly_if = (
    λ e. by e (together l qp original m before) refl,
    λ h. ap length (record_whole_law l qp original m before refl refl h) ∙ length_record_from16 l qp original m before,
  )
    where
      by : length (record_from l qp original m before) ≡ length_of in_whole → (b : Bool) → together l qp original m before ≡ b
          → sad_from16 l original m (gathered_round 16 l m before) < sads_from l qp original m before
      by e true q = ltb-true (sad_from16 l original m (gathered_round 16 l m before)) (sads_from l qp original m before) q
      by e false q =
          let h = ltb-false (sad_from16 l original m (gathered_round 16 l m before)) (sads_from l qp original m before) q in
          let four = ap length (record_fours l qp original m before refl refl h) ∙ length_record_from4 l qp original m before in
          absurd (omega (arith, e, four))

module _ (κs : Lfts 3) (a : Dens κs code.ps) (r : (res_t code.r κs).Denot) (e : AtExit (ended_of 3 code.ps code.r) κs) (p : code_Reads.Learnt κs a r e) where
  abbrev layout : Layout
  layout = a.0

  abbrev number : ℕ
  number = a.1.0

  abbrev qp : ℕ
  qp = a.1.1.0.qp

  abbrev plane : List ℕ
  plane = a.1.1.1.0.now

  abbrev rebuilt : List ℕ
  rebuilt = a.1.1.1.1.1.0.now

  pub sixteen_exactly_if : (r ≡ length_of in_whole) ↔ (sad_from16 layout plane number (gathered_round 16 layout number rebuilt) < sads_from layout qp plane number rebuilt)
  sixteen_exactly_if =
      let w = whole_exactly_if layout qp plane number rebuilt in
      (λ is. w.0 (sym p.0 ∙ is), λ h. p.0 ∙ w.1 h)

module _ (κs : Lfts 1) (a : Dens κs winner.ps) (r : (res_t winner.r κs).Denot) (e : AtExit (ended_of 1 winner.ps winner.r) κs) (p : winner_reads.Learnt κs a r e) where
  -- the part of 16x16, uncopied: its levels, and where they stand
  pub winner_part :
      (a.1.1.1.0 < a.1.1.0 → (r.now ≡ take 256 a.1.0.now) × (r.ref_ptr ≡ a.1.0.ref_ptr))
      × (a.1.1.0 ≤ a.1.1.1.0 → (r.now ≡ take 256 a.0.now) × (r.ref_ptr ≡ a.0.ref_ptr))
  unfolding winning
  winner_part = (
    λ h. let t = lt-ltb a.1.1.1.0 a.1.1.0 h in (p.0 ∙ rw t, p.1 ∙ rw t),
    λ h. let t = le-ltb a.1.1.1.0 a.1.1.0 h in (p.0 ∙ rw t, p.1 ∙ rw t),
  )
