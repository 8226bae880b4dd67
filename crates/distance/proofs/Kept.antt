-- The promise over the functions' own readings: a holds a call's arguments, r its result, e what is lent at its exit.
--     promise_kept        wherever `promised_distance` answers a distance, no rebuilt sample is farther off, before the clip and after it
--     rebuild_near        what `rebuild` leaves in its output of the levels of an original and the prediction lent, where it does not refuse
--     code_block_near     what `code_block` leaves in its output of the samples lent, where it does not refuse
-- The QP is a.0; of `rebuild` the prediction is a.1.0, the levels a .1 .1 .0, the output e .1 .1 .1 .0; of `code_block` the neighbours are
-- a.1.1.0, the samples a .1 .1 .1 .0, what is rebuilt e .1 .1 .1 .1 .1 .0.
-- That the lists hold bytes is a premise: a slice of `u8` does, but its contract speaks of a list of numbers (`lists/proofs/Bytes`).
-- Assumes nothing.
use mathlib.Core.Path.{◌≡◌, sym, ap, subst, ◌∙◌}
use mathlib.Core.List.{List}
use Prim.Native.Nat.{ℕ, ◌*◌, ◌<◌, ◌≤◌}
use native.Mathlib.Omega.{arith}
use contract.Lifetimes.{Lfts}
use denote.Triple.Clauses.{AtExit}
use borrow.Fn.Kinds.{Dens, res_t, ended_of}
use lib.IntN.{ℤ, pos}
use lib.ListN.{get_or}
use Rattle.lists.specs.Chain.{pass, chain}
use Rattle.lists.specs.Bytes.{Bytes}
use Rattle.lists.proofs.Chain.{holds_new}
use Rattle.refusal.specs.Number.{said, value_back}
use Rattle.refusal.proofs.Same.{says_same}
use Rattle.quantizer.specs.Range.{number_tests}
use Rattle.residual.specs.Entry.{rebuild_tests}
use Rattle.residual.specs.Levels.{levels_of}
use Rattle.residual.specs.Rebuild.{rescaled_of, rebuilt_samples}
use Rattle.residual.proofs.rebuild.Kinds as rebuild
use Rattle.residual.proofs.rebuild.Reads as rebuild_reads
use Rattle.block.specs.Block.{residual_of}
use Rattle.block.proofs.code_block.Kinds as code_block
use Rattle.block.proofs.code_block.Reads as code_block_reads
use Rattle.distance.specs.Distance.{promise_of, numbers_sent, distance_at, Kept}
use Rattle.distance.specs.Entry.{samples_off}
use Rattle.distance.proofs.Distance.{distance, coded_left_near}
use Rattle.distance.proofs.promised_distance.Kinds as promised_distance
use Rattle.distance.proofs.promised_distance.Reads as promised_distance_reads

pub promise_kept : (κs : Lfts 0) (a : Dens κs promised_distance.ps) (r : (res_t promised_distance.r κs).Denot) (e : AtExit (ended_of 0 promised_distance.ps promised_distance.r) κs)
    → promised_distance_reads.Learnt κs a r e
    → said r ≡ pass
    → (original prediction : List ℕ) → Bytes original → Bytes prediction → (place : ℕ) → place < 16 → Kept (value_back r) a.0 original prediction place
promise_kept κs a r e p done original prediction own near place l =
    let n = distance a.0 original prediction own near place l in
    let passed : chain (number_tests a.0) ≡ pass = sym (says_same p.says) ∙ done in
    let is : value_back r ≡ samples_off a.0 = holds_new 0 passed p.value in
    record { before = omega (arith, is, n.before); after = omega (arith, is, n.after) }

pub rebuild_near : (κs : Lfts 3) (a : Dens κs rebuild.ps) (r : (res_t rebuild.r κs).Denot) (e : AtExit (ended_of 3 rebuild.ps rebuild.r) κs)
    → rebuild_reads.Learnt κs a r e
    → said r ≡ pass
    → (original : List ℕ) → Bytes original → Bytes a.1.0.now
    → a.1.1.0.now ≡ levels_of a.0 (residual_of original a.1.0.now)
    → (place : ℕ) → place < 16 → 384 * distance_at original place (pos (get_or e.1.1.1.0.now place 0)) ≤ promise_of a.0
rebuild_near κs a r e p done original own near sent place l =
    let prediction = a.1.0.now in
    let passed : chain (rebuild_tests a.0 prediction a.1.1.0.now a.1.1.1.0.now) ≡ pass = sym (says_same p.says) ∙ done in
    let is : e.1.1.1.0.now ≡ rebuilt_samples prediction (numbers_sent a.0 original prediction) =
    holds_new a.1.1.1.0.now passed p.wrote
    ∙ ap (λ (levels : List ℤ). rebuilt_samples prediction (rescaled_of a.0 levels)) sent in
    subst (λ (m : List ℕ). 384 * distance_at original place (pos (get_or m place 0)) ≤ promise_of a.0) (sym is) (distance a.0 original prediction own near place l).after

pub code_block_near : (κs : Lfts 4) (a : Dens κs code_block.ps) (r : (res_t code_block.r κs).Denot) (e : AtExit (ended_of 4 code_block.ps code_block.r) κs)
    → code_block_reads.Learnt κs a r e
    → said r ≡ pass
    → Bytes a.1.1.0.now → Bytes a.1.1.1.0.now
    → (place : ℕ) → place < 16 → 384 * distance_at a.1.1.1.0.now place (pos (get_or e.1.1.1.1.1.0.now place 0)) ≤ promise_of a.0
code_block_near κs a r e p done near own place l =
    coded_left_near a.0 a.1.0 a.1.1.0.now a.1.1.1.0.now a.1.1.1.1.1.0.now near own (sym (says_same p.says) ∙ done) p.rebuilt place l
