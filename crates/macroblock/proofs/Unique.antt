-- The contracts of `macroblock` determine what its functions answer, and what they leave in file and plane. Assumes nothing.
use mathlib.Core.Path.{◌≡◌, refl, sym, ◌∙◌}
use mathlib.Core.List.{List}
use Prim.Native.Nat.{ℕ}
use contract.Lifetimes.{Lfts}
use denote.Triple.Clauses.{AtExit}
use borrow.Fn.Kinds.{Dens, res_t, ended_of}
use Rattle.unique.specs.Unique.{Unique}
use Rattle.refusal.proofs.Same.{same_answer}
use Rattle.macroblock.proofs.inner.test_macroblock.Kinds as test_macroblock
use Rattle.macroblock.proofs.inner.test_macroblock.Reads as test_macroblock_reads
use Rattle.macroblock.proofs.inner.rebuild_beside.Kinds as rebuild_beside
use Rattle.macroblock.proofs.inner.rebuild_beside.Reads as rebuild_beside_reads
use Rattle.macroblock.proofs.inner.rebuild_macroblock.Kinds as rebuild_macroblock
use Rattle.macroblock.proofs.inner.rebuild_macroblock.Reads as rebuild_macroblock_reads
use Rattle.macroblock.proofs.inner.code_macroblock.Kinds as code_macroblock
use Rattle.macroblock.proofs.inner.code_macroblock.Reads as code_macroblock_reads
use Rattle.macroblock.proofs.inner.winner.Kinds as winner
use Rattle.macroblock.proofs.inner.winner.Reads as winner_reads

pub test_macroblock_unique : Unique 1 test_macroblock.ps test_macroblock.r test_macroblock_reads.Learnt (Unit {0}) (λ κs e. tt)
test_macroblock_unique κs a x y e f p q = (same_answer x y (p ∙ sym q), refl)

pub rebuild_beside_unique : Unique 3 rebuild_beside.ps rebuild_beside.r rebuild_beside_reads.Learnt (List ℕ) (λ κs e. e.1.1.1.1.0.now)
rebuild_beside_unique κs a x y e f p q = (refl, p ∙ sym q)

pub rebuild_macroblock_unique : Unique 2 rebuild_macroblock.ps rebuild_macroblock.r rebuild_macroblock_reads.Learnt (List ℕ) (λ κs e. e.1.1.1.0.now)
rebuild_macroblock_unique κs a x y e f p q = (refl, p ∙ sym q)

-- what was lent of the file and the rebuilt plane, at exit
pub code_macroblock_unique : Unique 3 code_macroblock.ps code_macroblock.r code_macroblock_reads.Learnt (List ℕ × List ℕ) (λ κs e. (e.1.1.1.1.0.now, e.1.1.1.1.1.0.now))
code_macroblock_unique κs a x y e f p q =
    let file = p.1.0 ∙ sym q.1.0 in
    let plane = p.1.1 ∙ sym q.1.1 in
    (p.0 ∙ sym q.0, λ i. (file i, plane i))

-- any two parts that may be handed back hold the same levels and stand in the same place (a reference also has a ghost name, which is free)
pub winner_unique : (κs : Lfts 1) (a : Dens κs winner.ps) (x y : (res_t winner.r κs).Denot) (e f : AtExit (ended_of 1 winner.ps winner.r) κs)
    → winner_reads.Learnt κs a x e → winner_reads.Learnt κs a y f → (x.now ≡ y.now) × (x.ref_ptr ≡ y.ref_ptr)
winner_unique κs a x y e f p q = (p.0 ∙ sym q.0, p.1 ∙ sym q.1)
