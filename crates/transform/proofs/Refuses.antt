-- When the entry point of `transform` refuses, over the generated reading of its contract. Assumes nothing.
use Rattle.refusal.specs.Number.{said}
use Rattle.refusal.specs.Refuses.{RefusesExactlyIf}
use Rattle.refusal.proofs.Same.{says_exactly_if}
use Rattle.transform.specs.Entry.{forward_tests}
use Rattle.transform.proofs.forward.Kinds as forward
use Rattle.transform.proofs.forward.Reads as forward_reads

pub forward_refuses_exactly_if : RefusesExactlyIf 2 forward.ps forward.r forward_reads.Learnt (λ κs a. forward_tests a.0.now a.1.0.now) (λ κs x. said x)
forward_refuses_exactly_if κs a x e p = says_exactly_if _ p.says
