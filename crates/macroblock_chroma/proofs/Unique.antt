-- The contracts of `macroblock_chroma` determine what its functions answer, and what they leave. Assumes nothing.
use mathlib.Core.Path.{refl, sym, ◌∙◌}
use mathlib.Core.List.{List}
use Prim.Native.Nat.{ℕ}
use Rattle.unique.specs.Unique.{Unique}
use Rattle.refusal.proofs.Same.{same_answer}
use Rattle.macroblock_chroma.proofs.inner.test_chroma.Kinds as test_chroma
use Rattle.macroblock_chroma.proofs.inner.test_chroma.Reads as test_chroma_reads
use Rattle.macroblock_chroma.proofs.inner.rebuild_chroma.Kinds as rebuild_chroma
use Rattle.macroblock_chroma.proofs.inner.rebuild_chroma.Reads as rebuild_chroma_reads
use Rattle.macroblock_chroma.proofs.inner.code_chroma.Kinds as code_chroma
use Rattle.macroblock_chroma.proofs.inner.code_chroma.Reads as code_chroma_reads

pub test_chroma_unique : Unique 1 test_chroma.ps test_chroma.r test_chroma_reads.Learnt (Unit {0}) (λ κs e. tt)
test_chroma_unique κs a x y e f p q = (same_answer x y (p ∙ sym q), refl)

-- both planes at exit
pub rebuild_chroma_unique : Unique 3 rebuild_chroma.ps rebuild_chroma.r rebuild_chroma_reads.Learnt (List ℕ × List ℕ) (λ κs e. (e.1.1.1.1.0.now, e.1.1.1.1.1.0.now))
rebuild_chroma_unique κs a x y e f p q = let s = p.0 ∙ sym q.0 in let t = p.1 ∙ sym q.1 in (refl, λ i. (s i, t i))

-- the file and both planes at exit
pub code_chroma_unique : Unique 5 code_chroma.ps code_chroma.r code_chroma_reads.Learnt (List ℕ × List ℕ × List ℕ)
    (λ κs e. (e.1.1.1.1.1.1.1.0.now, e.1.1.1.1.1.1.1.1.0.now, e.1.1.1.1.1.1.1.1.1.0.now))
code_chroma_unique κs a x y e f p q =
    let s = p.1.0 ∙ sym q.1.0 in
    let t = p.1.1 ∙ sym q.1.1 in
    (p.0 ∙ sym q.0, λ i. (s i, (t i).cb, (t i).cr))
