-- When the entry point of `head` refuses, over the generated reading of its contract. Assumes nothing.
use Rattle.refusal.specs.Refuses.{RefusesExactlyIf}
use Rattle.refusal.proofs.Same.{says_exactly_if}
use Rattle.head.specs.Entry.{head_tests}
use Rattle.head.proofs.read_head.Kinds as read_head
use Rattle.head.proofs.read_head.Reads as read_head_reads
use Rattle.refusal.specs.Number.{said}

pub read_head_refuses_exactly_if : RefusesExactlyIf 1 read_head.ps read_head.r read_head_reads.Learnt (λ κs a. head_tests a.0.now) (λ κs x. said x)
read_head_refuses_exactly_if κs a x e p = says_exactly_if _ p.says
