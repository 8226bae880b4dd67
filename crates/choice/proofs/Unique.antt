-- The contracts of `choice` determine what its functions answer. Assumes nothing.
use mathlib.Core.Path.{refl, sym, ◌∙◌}
use Rattle.unique.specs.Unique.{Unique}
use Rattle.choice.proofs.inner.sad.Kinds as sad
use Rattle.choice.proofs.inner.sad.Reads as sad_reads
use Rattle.choice.proofs.inner.unsettled.Kinds as unsettled
use Rattle.choice.proofs.inner.unsettled.Reads as unsettled_reads
use Rattle.choice.proofs.inner.look.Kinds as look
use Rattle.choice.proofs.inner.look.Reads as look_reads

pub sad_unique : Unique 2 sad.ps sad.r sad_reads.Learnt (Unit {0}) (λ κs e. tt)
sad_unique κs a x y e f p q = (p.0 ∙ sym q.0, refl)

pub unsettled_unique : Unique 0 unsettled.ps unsettled.r unsettled_reads.Learnt (Unit {0}) (λ κs e. tt)
unsettled_unique κs a x y e f p q = (p ∙ sym q, refl)

pub look_unique : Unique 0 look.ps look.r look_reads.Learnt (Unit {0}) (λ κs e. tt)
look_unique κs a x y e f p q = (p ∙ sym q, refl)
