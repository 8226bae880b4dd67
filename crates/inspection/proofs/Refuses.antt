-- When the entry point of `inspection` refuses, over the generated reading of its contract. Assumes nothing.
use Rattle.refusal.specs.Number.{said}
use Rattle.refusal.specs.Refuses.{RefusesExactlyIf}
use Rattle.refusal.proofs.Same.{says_exactly_if}
use Rattle.inspection.specs.Inspect.{inspect_tests}
use Rattle.inspection.proofs.inspect.Kinds as inspect
use Rattle.inspection.proofs.inspect.Reads as inspect_reads

pub inspect_refuses_exactly_if : RefusesExactlyIf 2 inspect.ps inspect.r inspect_reads.Learnt (λ κs a. inspect_tests a.0.now a.1.0.now) (λ κs x. said x)
inspect_refuses_exactly_if κs a x e p = says_exactly_if _ p
