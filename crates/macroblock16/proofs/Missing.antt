-- A missing neighbour has no value, for a macroblock predicted whole too (01; 02, Req 01).
--     same_candidate           of the same neighbours the candidate is the same
--     missing_has_no_value     of any two calls of `code_candidate16` that differ in the rebuilt plane only, and there not at a neighbour
--                              that is present: the same mode and SAD, levels and prediction, and the same samples of these
-- Assumes nothing.
use mathlib.Core.Path.{◌≡◌, sym, ap, ◌∙◌}
use mathlib.Core.List.{List}
use Prim.Native.Nat.{ℕ}
use contract.Lifetimes.{Lfts}
use denote.Triple.Clauses.{AtExit}
use borrow.Fn.Kinds.{Dens, res_t, ended_of}
use lib.IntN.{ℤ}
use Rattle.choice.specs.declared.inner.Standing.{Standing}
use Rattle.residual_whole.specs.Rebuilt.{whole_samples}
use Rattle.picture.specs.declared.Layout.{Layout}
use Rattle.picture.specs.Whole.{gathered_round, AgreeRound}
use Rattle.picture.proofs.Round.{gathered_round_same}
use Rattle.macroblock16.specs.Code.{mode_from16, sad_from16, prediction_from16, levels_from16, Candidate}
use Rattle.macroblock16.proofs.inner.code_candidate16.Kinds as code_candidate16
use Rattle.macroblock16.proofs.inner.code_candidate16.Reads as code_candidate16_reads

-- what two candidates leave
abbrev Same : (r r' : Standing) (levels levels' : List ℤ) (prediction prediction' : List ℕ) → Type 0
Same r r' levels levels' prediction prediction' = (r ≡ r') × (levels ≡ levels') × (prediction ≡ prediction')

pub same_candidate : {l : Layout} {m qp : ℕ} {original p q : List ℕ} {r r' : Standing} {levels levels' : List ℤ} {prediction prediction' : List ℕ}
    → gathered_round 16 l m p ≡ gathered_round 16 l m q
    → Candidate l m qp original p r levels prediction → Candidate l m qp original q r' levels' prediction'
    → Same r r' levels levels' prediction prediction'
same_candidate {l} {m} {qp} {original} e c d =
    let mode = c.mode ∙ ap (mode_from16 l original m) e ∙ sym d.mode in
    let cost = c.sad ∙ ap (sad_from16 l original m) e ∙ sym d.sad in (
      λ i. record { mode = mode i; cost = cost i },
      c.coded ∙ ap (levels_from16 l qp original m) e ∙ sym d.coded,
      c.shown ∙ ap (prediction_from16 l original m) e ∙ sym d.shown,
    )

-- two calls: a holds a call's arguments, r is its answer and e what is lent at its exit; with a stroke those of the second
module _ (κs κs' : Lfts 4) (a : Dens κs code_candidate16.ps) (a' : Dens κs' code_candidate16.ps)
    (r : (res_t code_candidate16.r κs).Denot) (r' : (res_t code_candidate16.r κs').Denot)
    (e : AtExit (ended_of 4 code_candidate16.ps code_candidate16.r) κs) (e' : AtExit (ended_of 4 code_candidate16.ps code_candidate16.r) κs')
    (learnt : code_candidate16_reads.Learnt κs a r e) (learnt' : code_candidate16_reads.Learnt κs' a' r' e') where
  abbrev layout : Layout
  layout = a.0

  abbrev number : ℕ
  number = a.1.0

  abbrev quantizer : ℕ
  quantizer = a.1.1.0.qp

  abbrev original : List ℕ
  original = a.1.1.1.0.now

  abbrev rebuilt : List ℕ
  rebuilt = a.1.1.1.1.0.now

  abbrev levels : List ℤ
  levels = e.1.1.1.1.1.0.now

  abbrev prediction : List ℕ
  prediction = e.1.1.1.1.1.1.0.now

  pub missing_has_no_value : a'.0 ≡ layout → a'.1.0 ≡ number → a'.1.1.0.qp ≡ quantizer → a'.1.1.1.0.now ≡ original
      → AgreeRound 16 layout number rebuilt a'.1.1.1.1.0.now
      → (r ≡ r') × (levels ≡ e'.1.1.1.1.1.0.now) × (prediction ≡ e'.1.1.1.1.1.1.0.now)
      × (whole_samples 16 quantizer prediction levels ≡ whole_samples 16 quantizer e'.1.1.1.1.1.1.0.now e'.1.1.1.1.1.0.now)
  missing_has_no_value is_l is_m is-q is_o agree =
      let c : Candidate layout number quantizer original a'.1.1.1.1.0.now r' e'.1.1.1.1.1.0.now e'.1.1.1.1.1.1.0.now =
      coe 0 1 (i. Candidate (is_l i) (is_m i) (is-q i) (is_o i) a'.1.1.1.1.0.now r' e'.1.1.1.1.1.0.now e'.1.1.1.1.1.1.0.now) learnt' in
      let s = same_candidate (gathered_round_same 16 layout number rebuilt a'.1.1.1.1.0.now agree) learnt c in
      (s.0, s.1, s.2, λ i. whole_samples 16 quantizer (s.2 i) (s.1 i))
