-- The contracts of `block` determine what its functions answer and leave in their outputs. Assumes nothing.
use mathlib.Core.Path.{refl, sym, ◌∙◌}
use mathlib.Core.List.{List}
use Prim.Native.Nat.{ℕ}
use lib.IntN.{ℤ}
use Rattle.unique.specs.Unique.{Unique}
use Rattle.refusal.proofs.Same.{says_same}
use Rattle.intra4.proofs.Outcome.{same_chosen}
use Rattle.block.proofs.Outcome.{same_block}
use Rattle.block.proofs.code_block.Kinds as code_block
use Rattle.block.proofs.code_block.Reads as code_block_reads
use Rattle.block.proofs.inner.coded.Kinds as coded
use Rattle.block.proofs.inner.coded.Reads as coded_reads
use Rattle.block.proofs.inner.lacking.Kinds as lacking
use Rattle.block.proofs.inner.lacking.Reads as lacking_reads

-- both outputs at exit
pub code_block_unique : Unique 4 code_block.ps code_block.r code_block_reads.Learnt (List ℤ × List ℕ) (λ κs e. (e.1.1.1.1.0.now, e.1.1.1.1.1.0.now))
code_block_unique κs a x y e f p q =
    let l = p.levels ∙ sym q.levels in
    let o = p.rebuilt ∙ sym q.rebuilt in
    (same_chosen x y (says_same p.says ∙ sym (says_same q.says)) (p.best ∙ sym q.best), λ i. (l i, o i))

pub coded_unique : Unique 2 coded.ps coded.r coded_reads.Learnt (Unit {0}) (λ κs e. tt)
coded_unique κs a x y e f p q = (same_block x y p q, refl)

pub lacking_unique : Unique 1 lacking.ps lacking.r lacking_reads.Learnt (Unit {0}) (λ κs e. tt)
lacking_unique κs a x y e f p q = (p.0 ∙ sym q.0, refl)
