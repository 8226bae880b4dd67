-- The contracts of `refusal` determine what its functions answer. Assumes nothing.
use mathlib.Core.Path.{refl, sym, ◌∙◌}
use Rattle.unique.specs.Unique.{Unique}
use Rattle.refusal.proofs.inner.number.Kinds as number
use Rattle.refusal.proofs.inner.number.Reads as number_reads
use Rattle.refusal.proofs.inner.of_fault.Kinds as of_fault
use Rattle.refusal.proofs.inner.of_fault.Reads as of_fault_reads
use Rattle.refusal.proofs.inner.place.Kinds as place
use Rattle.refusal.proofs.inner.place.Reads as place_reads

pub number_unique : Unique 0 number.ps number.r number_reads.Learnt (Unit {0}) (λ κs e. tt)
number_unique κs a x y e f p q = (p ∙ sym q, refl)

pub place_unique : Unique 0 place.ps place.r place_reads.Learnt (Unit {0}) (λ κs e. tt)
place_unique κs a x y e f p q = (p ∙ sym q, refl)

pub of_fault_unique : Unique 0 of_fault.ps of_fault.r of_fault_reads.Learnt (Unit {0}) (λ κs e. tt)
of_fault_unique κs a x y e f p q = (p ∙ sym q, refl)
