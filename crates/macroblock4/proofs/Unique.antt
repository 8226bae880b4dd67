-- The contracts of `macroblock4` determine what its functions answer, and what they leave in levels and plane. Assumes nothing.
use mathlib.Core.Path.{refl, sym, ◌∙◌}
use mathlib.Core.List.{List}
use Prim.Native.Nat.{ℕ}
use lib.IntN.{ℤ}
use Rattle.unique.specs.Unique.{Unique}
use Rattle.refusal.proofs.Same.{same_answer}
use Rattle.macroblock4.proofs.inner.test_macroblock4.Kinds as test_macroblock4
use Rattle.macroblock4.proofs.inner.test_macroblock4.Reads as test_macroblock4_reads
use Rattle.macroblock4.proofs.inner.rebuild_beside4.Kinds as rebuild_beside4
use Rattle.macroblock4.proofs.inner.rebuild_beside4.Reads as rebuild_beside4_reads
use Rattle.macroblock4.proofs.inner.code_candidate4.Kinds as code_candidate4
use Rattle.macroblock4.proofs.inner.code_candidate4.Reads as code_candidate4_reads

pub test_macroblock4_unique : Unique 1 test_macroblock4.ps test_macroblock4.r test_macroblock4_reads.Learnt (Unit {0}) (λ κs e. tt)
test_macroblock4_unique κs a x y e f p q = (same_answer x y (p ∙ sym q), refl)

pub rebuild_beside4_unique : Unique 3 rebuild_beside4.ps rebuild_beside4.r rebuild_beside4_reads.Learnt (List ℕ) (λ κs e. e.1.1.1.1.0.now)
rebuild_beside4_unique κs a x y e f p q = (refl, p ∙ sym q)

-- what was lent of the levels and the rebuilt plane, at exit
pub code_candidate4_unique : Unique 3 code_candidate4.ps code_candidate4.r code_candidate4_reads.Learnt (List ℤ × List ℕ) (λ κs e. (e.1.1.1.1.0.now, e.1.1.1.1.1.0.now))
code_candidate4_unique κs a x y e f p q =
    let modes = p.0 ∙ sym q.0 in
    let sad = p.1.0 ∙ sym q.1.0 in
    let levels = p.1.1.0 ∙ sym q.1.1.0 in
    let plane = p.1.1.1 ∙ sym q.1.1.1 in
    (λ i. record { modes = modes i; sad = sad i }, λ i. (levels i, plane i))
