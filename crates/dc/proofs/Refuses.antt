-- When the entry points of `dc` refuse, over the generated readings of their contracts. Assumes nothing.
use Rattle.refusal.specs.Number.{said}
use Rattle.refusal.specs.Refuses.{RefusesExactlyIf}
use Rattle.refusal.proofs.Same.{says_exactly_if}
use Rattle.dc.specs.Entry.{luma_levels_tests, luma_values_tests, chroma_levels_tests, chroma_values_tests}
use Rattle.dc.proofs.luma_dc_levels.Kinds as luma_dc_levels
use Rattle.dc.proofs.luma_dc_levels.Reads as luma_dc_levels_reads
use Rattle.dc.proofs.luma_dc_values.Kinds as luma_dc_values
use Rattle.dc.proofs.luma_dc_values.Reads as luma_dc_values_reads
use Rattle.dc.proofs.chroma_dc_levels.Kinds as chroma_dc_levels
use Rattle.dc.proofs.chroma_dc_levels.Reads as chroma_dc_levels_reads
use Rattle.dc.proofs.chroma_dc_values.Kinds as chroma_dc_values
use Rattle.dc.proofs.chroma_dc_values.Reads as chroma_dc_values_reads

pub luma_dc_levels_refuses_exactly_if : RefusesExactlyIf 2 luma_dc_levels.ps luma_dc_levels.r luma_dc_levels_reads.Learnt (λ κs a. luma_levels_tests a.0 a.1.0.now a.1.1.0.now) (λ κs x. said x)
luma_dc_levels_refuses_exactly_if κs a x e p = says_exactly_if _ p.says

pub luma_dc_values_refuses_exactly_if : RefusesExactlyIf 2 luma_dc_values.ps luma_dc_values.r luma_dc_values_reads.Learnt (λ κs a. luma_values_tests a.0 a.1.0.now a.1.1.0.now) (λ κs x. said x)
luma_dc_values_refuses_exactly_if κs a x e p = says_exactly_if _ p.says

pub chroma_dc_levels_refuses_exactly_if : RefusesExactlyIf 2 chroma_dc_levels.ps chroma_dc_levels.r chroma_dc_levels_reads.Learnt (λ κs a. chroma_levels_tests a.0 a.1.0.now a.1.1.0.now) (λ κs x. said x)
chroma_dc_levels_refuses_exactly_if κs a x e p = says_exactly_if _ p.says

pub chroma_dc_values_refuses_exactly_if : RefusesExactlyIf 2 chroma_dc_values.ps chroma_dc_values.r chroma_dc_values_reads.Learnt (λ κs a. chroma_values_tests a.0 a.1.0.now a.1.1.0.now) (λ κs x. said x)
chroma_dc_values_refuses_exactly_if κs a x e p = says_exactly_if _ p.says
