-- The contract of `inspect` determines what it answers; it writes nothing. Assumes nothing.
use mathlib.Core.Path.{refl, sym, ◌∙◌}
use Rattle.unique.specs.Unique.{Unique}
use Rattle.refusal.proofs.Same.{says_same, same_answer}
use Rattle.inspection.proofs.inspect.Kinds as inspect
use Rattle.inspection.proofs.inspect.Reads as inspect_reads

pub inspect_unique : Unique 2 inspect.ps inspect.r inspect_reads.Learnt (Unit {0}) (λ κs e. tt)
inspect_unique κs a x y e f p q = (same_answer x y (says_same p ∙ sym (says_same q)), refl)
