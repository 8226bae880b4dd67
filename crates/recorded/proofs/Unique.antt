-- The contracts of `recorded` determine what its functions answer. Assumes nothing.
use mathlib.Core.Path.{refl, sym, ◌∙◌}
use Rattle.unique.specs.Unique.{Unique}
use Rattle.std.specs.Bool.{one_answer}
use Rattle.recorded.proofs.inner.two_bytes.Kinds as two_bytes
use Rattle.recorded.proofs.inner.two_bytes.Reads as two_bytes_reads
use Rattle.recorded.proofs.inner.four_bytes.Kinds as four_bytes
use Rattle.recorded.proofs.inner.four_bytes.Reads as four_bytes_reads
use Rattle.recorded.proofs.inner.eight_bytes.Kinds as eight_bytes
use Rattle.recorded.proofs.inner.eight_bytes.Reads as eight_bytes_reads
use Rattle.recorded.proofs.inner.four_signed.Kinds as four_signed
use Rattle.recorded.proofs.inner.four_signed.Reads as four_signed_reads
use Rattle.recorded.proofs.inner.list_of.Kinds as list_of
use Rattle.recorded.proofs.inner.list_of.Reads as list_of_reads
use Rattle.recorded.proofs.inner.same_list.Kinds as same_list
use Rattle.recorded.proofs.inner.same_list.Reads as same_list_reads

pub two_bytes_unique : Unique 1 two_bytes.ps two_bytes.r two_bytes_reads.Learnt (Unit {0}) (λ κs e. tt)
two_bytes_unique κs a x y e f p q = (p.0 ∙ sym q.0, refl)

pub four_bytes_unique : Unique 1 four_bytes.ps four_bytes.r four_bytes_reads.Learnt (Unit {0}) (λ κs e. tt)
four_bytes_unique κs a x y e f p q = (p.0 ∙ sym q.0, refl)

pub eight_bytes_unique : Unique 1 eight_bytes.ps eight_bytes.r eight_bytes_reads.Learnt (Unit {0}) (λ κs e. tt)
eight_bytes_unique κs a x y e f p q = (p ∙ sym q, refl)

pub four_signed_unique : Unique 1 four_signed.ps four_signed.r four_signed_reads.Learnt (Unit {0}) (λ κs e. tt)
four_signed_unique κs a x y e f p q = (p ∙ sym q, refl)

pub list_of_unique : Unique 1 list_of.ps list_of.r list_of_reads.Learnt (Unit {0}) (λ κs e. tt)
list_of_unique κs a x y e f p q = (p ∙ sym q, refl)

pub same_list_unique : Unique 0 same_list.ps same_list.r same_list_reads.Learnt (Unit {0}) (λ κs e. tt)
same_list_unique κs a x y e f p q = (one_answer x y p q, refl)
