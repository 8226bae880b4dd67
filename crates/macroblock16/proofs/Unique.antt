-- The contracts of `macroblock16` determine what its functions answer, and what they leave. Assumes nothing.
use mathlib.Core.Path.{refl, sym, ◌∙◌}
use mathlib.Core.List.{List}
use Prim.Native.Nat.{ℕ}
use lib.IntN.{ℤ}
use Rattle.unique.specs.Unique.{Unique}
use Rattle.refusal.proofs.Same.{same_answer}
use Rattle.macroblock16.proofs.Missing.{same_candidate}
use Rattle.macroblock16.proofs.inner.test_macroblock16.Kinds as test_macroblock16
use Rattle.macroblock16.proofs.inner.test_macroblock16.Reads as test_macroblock16_reads
use Rattle.macroblock16.proofs.inner.store_macroblock16.Kinds as store_macroblock16
use Rattle.macroblock16.proofs.inner.store_macroblock16.Reads as store_macroblock16_reads
use Rattle.macroblock16.proofs.inner.rebuild_beside16.Kinds as rebuild_beside16
use Rattle.macroblock16.proofs.inner.rebuild_beside16.Reads as rebuild_beside16_reads
use Rattle.macroblock16.proofs.inner.code_candidate16.Kinds as code_candidate16
use Rattle.macroblock16.proofs.inner.code_candidate16.Reads as code_candidate16_reads

pub test_macroblock16_unique : Unique 1 test_macroblock16.ps test_macroblock16.r test_macroblock16_reads.Learnt (Unit {0}) (λ κs e. tt)
test_macroblock16_unique κs a x y e f p q = (same_answer x y (p ∙ sym q), refl)

pub store_macroblock16_unique : Unique 3 store_macroblock16.ps store_macroblock16.r store_macroblock16_reads.Learnt (List ℕ) (λ κs e. e.1.1.1.1.1.0.now)
store_macroblock16_unique κs a x y e f p q = (refl, p ∙ sym q)

pub rebuild_beside16_unique : Unique 3 rebuild_beside16.ps rebuild_beside16.r rebuild_beside16_reads.Learnt (List ℕ) (λ κs e. e.1.1.1.1.0.now)
rebuild_beside16_unique κs a x y e f p q = (refl, p ∙ sym q)

-- the levels and the prediction at exit
pub code_candidate16_unique : Unique 4 code_candidate16.ps code_candidate16.r code_candidate16_reads.Learnt (List ℤ × List ℕ) (λ κs e. (e.1.1.1.1.1.0.now, e.1.1.1.1.1.1.0.now))
code_candidate16_unique κs a x y e f p q = let s = same_candidate refl p q in (s.0, λ i. (s.1 i, s.2 i))
