-- How far a rebuilt sample can be off, over the generated readings of the functions' own contracts.
--     fb_code_block_near     where the word's low byte is 0, what `fb_code_block` leaves is within the promise of the samples lent
--     fb_promise_kept        and no farther off than what a call of `fb_promised_distance` with the same QP sends back
-- a holds the arguments of `fb_code_block`'s call, w is its word and e what is lent at its exit; with a stroke those of the other call. The QP
-- is a.0, the neighbours are a.1.1.0, the samples a.1.1.1.0, and what is rebuilt stands in e.1.1.1.1.1.0.
-- That neighbours and samples hold bytes is a premise, and what `fb_code_block` promises too (`bytes`).
-- Assumes nothing.
use mathlib.Core.Path.{◌≡◌, ap, ◌∙◌}
use mathlib.Core.List.{List}
use Prim.Native.Nat.{ℕ, ◌*◌, ◌/◌, ◌%◌, ◌<◌, ◌≤◌}
use native.Mathlib.Omega.{arith}
use contract.Lifetimes.{Lfts}
use denote.Triple.Clauses.{AtExit}
use borrow.Fn.Kinds.{Dens, res_t, ended_of}
use lib.IntN.{pos}
use lib.ListN.{get_or}
use Rattle.lists.specs.Chain.{Test, Verdict, pass, chain}
use Rattle.lists.specs.Bytes.{Bytes}
use Rattle.lists.proofs.Chain.{chain_exactly_if}
use Rattle.refusal.specs.declared.Refusal.{Refusal}
use Rattle.quantizer.specs.Range.{number_tests}
use Rattle.quantizer.proofs.Range.{legal, number_legal}
use Rattle.intra4.specs.Choice.{chosen}
use Rattle.intra4.specs.Samples.{mask}
use Rattle.block.specs.Entry.{code_tests}
use Rattle.distance.specs.Distance.{promise_of, distance_at}
use Rattle.distance.specs.Entry.{samples_off}
use Rattle.distance.proofs.Distance.{coded_left_near}
use Rattle.fleecebutton.specs.Word.{word_of, choice_value}
use Rattle.fleecebutton.proofs.Told.{passed_word}
use Rattle.fleecebutton.proofs.fb_code_block.Kinds as code_block
use Rattle.fleecebutton.proofs.fb_code_block.Reads as code_block_reads
use Rattle.fleecebutton.proofs.fb_promised_distance.Kinds as promised_distance
use Rattle.fleecebutton.proofs.fb_promised_distance.Reads as promised_distance_reads

module _ (κs : Lfts 4) (a : Dens κs code_block.ps) (w : (res_t code_block.r κs).Denot) (e : AtExit (ended_of 4 code_block.ps code_block.r) κs)
    (p : code_block_reads.Learnt κs a w e) (done : w % 256 ≡ 0) where
  abbrev tested : List (Test Refusal)
  tested = code_tests a.0 a.1.0 a.1.1.0.now a.1.1.1.0.now a.1.1.1.1.0.now a.1.1.1.1.1.0.now

  passed : chain tested ≡ pass
  passed = passed_word tested (choice_value (chosen (mask a.1.1.0.now a.1.0) a.1.1.1.0.now)) p.word done

  module _ (near : Bytes a.1.1.0.now) (own : Bytes a.1.1.1.0.now) (place : ℕ) (l : place < 16) where
    pub fb_code_block_near : 384 * distance_at a.1.1.1.0.now place (pos (get_or e.1.1.1.1.1.0.now place 0)) ≤ promise_of a.0
    fb_code_block_near = coded_left_near a.0 a.1.0 a.1.1.0.now a.1.1.1.0.now a.1.1.1.1.1.0.now near own passed p.rebuilt place l

    pub fb_promise_kept : (κs' : Lfts 0) (a' : Dens κs' promised_distance.ps) (w' : (res_t promised_distance.r κs').Denot) (e' : AtExit (ended_of 0 promised_distance.ps promised_distance.r) κs')
        → a'.0 ≡ a.0
        → promised_distance_reads.Learnt κs' a' w' e'
        → (w' % 256 ≡ 0) × (distance_at a.1.1.1.0.now place (pos (get_or e.1.1.1.1.1.0.now place 0)) ≤ w' / 256)
    fb_promise_kept κs' a' w' e' same q =
        let legal-qp = number_legal 0 a.0 ((chain_exactly_if tested).passes.0 passed).1.1.1.1.1.0 in
        let is : w' ≡ 256 * samples_off a.0 =
        q ∙ ap (λ (qp : ℕ). word_of (chain (number_tests qp)) (samples_off qp)) same ∙ ap (λ (v : Verdict Refusal). word_of v (samples_off a.0)) (legal a.0 legal-qp) in
        (omega (arith, is), omega (arith, is, fb_code_block_near))
