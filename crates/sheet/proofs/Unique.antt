-- The contracts of `sheet` determine the answer, and what the area holds. Assumes nothing.
use mathlib.Core.Path.{refl, sym, ◌∙◌}
use mathlib.Core.List.{List}
use lib.Ieee.{Float}
use Rattle.unique.specs.Unique.{Unique}
use Rattle.refusal.proofs.Same.{says_same}
use Rattle.sheet.proofs.Outcome.{same_sheeted}
use Rattle.sheet.proofs.quality_sheet.Kinds as quality_sheet
use Rattle.sheet.proofs.quality_sheet.Reads as quality_sheet_reads
use Rattle.sheet.proofs.inner.write_sheet.Kinds as write_sheet
use Rattle.sheet.proofs.inner.write_sheet.Reads as write_sheet_reads

pub quality_sheet_unique : Unique 3 quality_sheet.ps quality_sheet.r quality_sheet_reads.Learnt (Unit {0}) (λ κs e. tt)
quality_sheet_unique κs a x y e f p q = (same_sheeted x y (says_same p.says ∙ sym (says_same q.says)) (p.sheet ∙ sym q.sheet), refl)

pub write_sheet_unique : Unique 4 write_sheet.ps write_sheet.r write_sheet_reads.Learnt (List Float) (λ κs e. e.1.1.1.1.1.0.now)
write_sheet_unique κs a x y e f p q = (same_sheeted x y (says_same p.says ∙ sym (says_same q.says)) (p.sheet ∙ sym q.sheet), p.wrote ∙ sym q.wrote)
