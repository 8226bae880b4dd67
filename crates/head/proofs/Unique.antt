-- The contracts of `head` determine what its functions answer and what they leave. Assumes nothing.
use mathlib.Core.Path.{refl, sym, ◌∙◌}
use mathlib.Core.List.{List}
use Prim.Native.Nat.{ℕ}
use Rattle.unique.specs.Unique.{Unique}
use Rattle.refusal.proofs.Same.{says_same}
use Rattle.head.proofs.Heads.{same_head}
use Rattle.head.proofs.read_head.Kinds as read_head
use Rattle.head.proofs.read_head.Reads as read_head_reads
use Rattle.head.proofs.inner.size_holds.Kinds as size_holds
use Rattle.head.proofs.inner.size_holds.Reads as size_holds_reads
use Rattle.head.proofs.inner.rows_hold.Kinds as rows_hold_law
use Rattle.head.proofs.inner.rows_hold.Reads as rows_hold_reads
use Rattle.head.proofs.inner.length_for.Kinds as length_for
use Rattle.head.proofs.inner.length_for.Reads as length_for_reads
use Rattle.head.proofs.inner.write_head.Kinds as write_head
use Rattle.head.proofs.inner.write_head.Reads as write_head_reads

pub read_head_unique : Unique 1 read_head.ps read_head.r read_head_reads.Learnt (Unit {0}) (λ κs e. tt)
read_head_unique κs a x y e f p q = (
  same_head x y (says_same p.says ∙ sym (says_same q.says)) (p.width ∙ sym q.width) (p.height ∙ sym q.height) (p.rows ∙ sym q.rows)
      (p.long ∙ sym q.long),
  refl,
)

pub size_holds_unique : Unique 0 size_holds.ps size_holds.r size_holds_reads.Learnt (Unit {0}) (λ κs e. tt)
size_holds_unique κs a x y e f p q = (p ∙ sym q, refl)

pub rows_hold_unique : Unique 0 rows_hold_law.ps rows_hold_law.r rows_hold_reads.Learnt (Unit {0}) (λ κs e. tt)
rows_hold_unique κs a x y e f p q = (p ∙ sym q, refl)

pub length_for_unique : Unique 0 length_for.ps length_for.r length_for_reads.Learnt (Unit {0}) (λ κs e. tt)
length_for_unique κs a x y e f p q = (p ∙ sym q, refl)

pub write_head_unique : Unique 1 write_head.ps write_head.r write_head_reads.Learnt (List ℕ) (λ κs e. e.1.1.1.0.now)
write_head_unique κs a x y e f p q = (p.1 ∙ sym q.1, p.0 ∙ sym q.0)
