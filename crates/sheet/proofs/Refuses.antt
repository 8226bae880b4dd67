-- When the entry point of `sheet` refuses, over the generated reading of its contract. Assumes nothing.
use Rattle.refusal.specs.Refuses.{RefusesExactlyIf}
use Rattle.refusal.proofs.Same.{says_exactly_if}
use Rattle.sheet.specs.Entry.{sheet_tests}
use Rattle.sheet.proofs.quality_sheet.Kinds as quality_sheet
use Rattle.sheet.proofs.quality_sheet.Reads as quality_sheet_reads
use Rattle.refusal.specs.Number.{said}

pub quality_sheet_refuses_exactly_if : RefusesExactlyIf 3 quality_sheet.ps quality_sheet.r quality_sheet_reads.Learnt (λ κs a. sheet_tests a.0 a.1.0 a.1.1.0.now a.1.1.1.0.now a.1.1.1.1.0.now) (λ κs x. said x)
quality_sheet_refuses_exactly_if κs a x e p = says_exactly_if _ p.says
