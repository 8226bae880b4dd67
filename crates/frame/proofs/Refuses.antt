-- When the entry points of `frame` refuse, over the generated readings of their contracts. Assumes nothing.
use Rattle.refusal.specs.Refuses.{RefusesExactlyIf}
use Rattle.refusal.proofs.Same.{says_exactly_if}
use Rattle.frame.specs.Code.{code_picture_tests}
use Rattle.frame.specs.Decode.{decode_picture_tests}
use Rattle.frame.proofs.code_picture.Kinds as code_picture
use Rattle.frame.proofs.code_picture.Reads as code_picture_reads
use Rattle.frame.proofs.decode_picture.Kinds as decode_picture
use Rattle.frame.proofs.decode_picture.Reads as decode_picture_reads
use Rattle.refusal.specs.Number.{said}

pub code_picture_refuses_exactly_if : RefusesExactlyIf 7 code_picture.ps code_picture.r code_picture_reads.Learnt
    (λ κs a. code_picture_tests a.0 a.1.0 a.1.1.0 a.1.1.1.0 a.1.1.1.1.0 a.1.1.1.1.1.0
    a.1.1.1.1.1.1.0.now a.1.1.1.1.1.1.1.0.now a.1.1.1.1.1.1.1.1.0.now
    a.1.1.1.1.1.1.1.1.1.0.now a.1.1.1.1.1.1.1.1.1.1.0.now a.1.1.1.1.1.1.1.1.1.1.1.0.now a.1.1.1.1.1.1.1.1.1.1.1.1.0.now)
    (λ κs x. said x)
code_picture_refuses_exactly_if κs a x e p = says_exactly_if _ p.says

pub decode_picture_refuses_exactly_if : RefusesExactlyIf 4 decode_picture.ps decode_picture.r decode_picture_reads.Learnt (λ κs a. decode_picture_tests a.0.now a.1.0.now a.1.1.0.now a.1.1.1.0.now) (λ κs x. said x)
decode_picture_refuses_exactly_if κs a x e p = says_exactly_if _ p.says
