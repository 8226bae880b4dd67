-- When the entry point of `block` refuses, over the generated reading of its contract. Assumes nothing.
use Rattle.refusal.specs.Refuses.{RefusesExactlyIf}
use Rattle.refusal.proofs.Same.{says_exactly_if}
use Rattle.block.specs.Entry.{code_tests}
use Rattle.block.proofs.code_block.Kinds as code_block
use Rattle.block.proofs.code_block.Reads as code_block_reads
use Rattle.refusal.specs.Number.{said}

pub code_block_refuses_exactly_if : RefusesExactlyIf 4 code_block.ps code_block.r code_block_reads.Learnt
    (λ κs a. code_tests a.0 a.1.0 a.1.1.0.now a.1.1.1.0.now a.1.1.1.1.0.now a.1.1.1.1.1.0.now) (λ κs x. said x)
code_block_refuses_exactly_if κs a x e p = says_exactly_if _ p.says
