-- When a quantizer is refused, over the generated readings of the contracts. Assumes nothing.
use Rattle.refusal.specs.Refuses.{RefusesExactlyIf}
use Rattle.refusal.proofs.Same.{says_exactly_if}
use Rattle.quantizer.specs.Chroma.{chroma_tests}
use Rattle.quantizer.specs.Range.{number_tests}
use Rattle.quantizer.proofs.Quantizer.new.Kinds as quantizer_new
use Rattle.quantizer.proofs.Quantizer.new.Reads as quantizer_new_reads
use Rattle.quantizer.proofs.chroma_quantizer.Kinds as chroma_quantizer
use Rattle.quantizer.proofs.chroma_quantizer.Reads as chroma_quantizer_reads
use Rattle.refusal.specs.Number.{said}

pub quantizer_new_refuses_exactly_if : RefusesExactlyIf 0 quantizer_new.ps quantizer_new.r quantizer_new_reads.Learnt (λ κs a. number_tests a.0) (λ κs x. said x)
quantizer_new_refuses_exactly_if κs a x e p = says_exactly_if _ p.says

pub chroma_quantizer_refuses_exactly_if : RefusesExactlyIf 0 chroma_quantizer.ps chroma_quantizer.r chroma_quantizer_reads.Learnt (λ κs a. chroma_tests a.0 a.1.0) (λ κs x. said x)
chroma_quantizer_refuses_exactly_if κs a x e p = says_exactly_if _ p.says
