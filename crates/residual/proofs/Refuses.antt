-- When the entry points of `residual` refuse, over the generated readings of their contracts. Assumes nothing.
use Rattle.refusal.specs.Number.{said}
use Rattle.refusal.specs.Refuses.{RefusesExactlyIf}
use Rattle.refusal.proofs.Same.{says_exactly_if}
use Rattle.residual.specs.Entry.{levels_tests, rebuild_tests, with_dc_tests}
use Rattle.residual.proofs.levels.Kinds as levels
use Rattle.residual.proofs.levels.Reads as levels_reads
use Rattle.residual.proofs.rebuild.Kinds as rebuild
use Rattle.residual.proofs.rebuild.Reads as rebuild_reads
use Rattle.residual.proofs.rebuild_with_dc.Kinds as rebuild_with_dc
use Rattle.residual.proofs.rebuild_with_dc.Reads as rebuild_with_dc_reads

pub levels_refuses_exactly_if : RefusesExactlyIf 2 levels.ps levels.r levels_reads.Learnt (λ κs a. levels_tests a.0 a.1.0.now a.1.1.0.now) (λ κs x. said x)
levels_refuses_exactly_if κs a x e p = says_exactly_if _ p.says

pub rebuild_refuses_exactly_if : RefusesExactlyIf 3 rebuild.ps rebuild.r rebuild_reads.Learnt (λ κs a. rebuild_tests a.0 a.1.0.now a.1.1.0.now a.1.1.1.0.now) (λ κs x. said x)
rebuild_refuses_exactly_if κs a x e p = says_exactly_if _ p.says

pub rebuild_with_dc_refuses_exactly_if : RefusesExactlyIf 3 rebuild_with_dc.ps rebuild_with_dc.r rebuild_with_dc_reads.Learnt (λ κs a. with_dc_tests a.0 a.1.0.now a.1.1.0 a.1.1.1.0.now a.1.1.1.1.0.now) (λ κs x. said x)
rebuild_with_dc_refuses_exactly_if κs a x e p = says_exactly_if _ p.says
