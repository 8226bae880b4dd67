-- When the entry points of `plane` refuse, over the generated readings of their contracts. Assumes nothing.
use Rattle.refusal.specs.Number.{said}
use Rattle.refusal.specs.Refuses.{RefusesExactlyIf}
use Rattle.refusal.proofs.Same.{says_exactly_if}
use Rattle.plane.specs.Code.{code_plane_tests}
use Rattle.plane.specs.Decode.{decode_tests}
use Rattle.plane.proofs.code_plane.Kinds as code_plane
use Rattle.plane.proofs.code_plane.Reads as code_plane_reads
use Rattle.plane.proofs.decode_plane.Kinds as decode_plane
use Rattle.plane.proofs.decode_plane.Reads as decode_plane_reads

pub code_plane_refuses_exactly_if : RefusesExactlyIf 3 code_plane.ps code_plane.r code_plane_reads.Learnt
    (λ κs a. code_plane_tests a.0 a.1.0 a.1.1.0 a.1.1.1.0 a.1.1.1.1.0.now a.1.1.1.1.1.0.now a.1.1.1.1.1.1.0.now) (λ κs x. said x)
code_plane_refuses_exactly_if κs a x e p = says_exactly_if _ p.says

pub decode_plane_refuses_exactly_if : RefusesExactlyIf 2 decode_plane.ps decode_plane.r decode_plane_reads.Learnt (λ κs a. decode_tests a.0.now a.1.0.now) (λ κs x. said x)
decode_plane_refuses_exactly_if κs a x e p = says_exactly_if _ p.says
