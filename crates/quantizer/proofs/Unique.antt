-- The contracts of `quantizer` determine what its functions answer. Assumes nothing.
use mathlib.Core.Path.{refl, sym, ◌∙◌}
use Rattle.unique.specs.Unique.{Unique}
use Rattle.refusal.proofs.Same.{says_same}
use Rattle.quantizer.proofs.Range.{same_built}
use Rattle.quantizer.proofs.chroma_quantizer.Kinds as chroma_quantizer
use Rattle.quantizer.proofs.chroma_quantizer.Reads as chroma_quantizer_reads
use Rattle.quantizer.proofs.Quantizer.new.Kinds as quantizer_new
use Rattle.quantizer.proofs.Quantizer.new.Reads as quantizer_new_reads
use Rattle.quantizer.proofs.Quantizer.number.Kinds as quantizer_number
use Rattle.quantizer.proofs.Quantizer.number.Reads as quantizer_number_reads
use Rattle.quantizer.proofs.Quantizer.period.Kinds as quantizer_period
use Rattle.quantizer.proofs.Quantizer.period.Reads as quantizer_period_reads
use Rattle.quantizer.proofs.Quantizer.mf.Kinds as quantizer_mf
use Rattle.quantizer.proofs.Quantizer.mf.Reads as quantizer_mf_reads
use Rattle.quantizer.proofs.Quantizer.v.Kinds as quantizer_v
use Rattle.quantizer.proofs.Quantizer.v.Reads as quantizer_v_reads
use Rattle.quantizer.proofs.inner.by_class.Kinds as by_class
use Rattle.quantizer.proofs.inner.by_class.Reads as by_class_reads
use Rattle.quantizer.proofs.inner.zigzag.Kinds as zigzag
use Rattle.quantizer.proofs.inner.zigzag.Reads as zigzag_reads
use Rattle.quantizer.proofs.inner.steps.Kinds as steps
use Rattle.quantizer.proofs.inner.steps.Reads as steps_reads

pub quantizer_new_unique : Unique 0 quantizer_new.ps quantizer_new.r quantizer_new_reads.Learnt (Unit {0}) (λ κs e. tt)
quantizer_new_unique κs a x y e f p q = (same_built x y (says_same p.says ∙ sym (says_same q.says)) (p.value ∙ sym q.value), refl)

pub quantizer_number_unique : Unique 0 quantizer_number.ps quantizer_number.r quantizer_number_reads.Learnt (Unit {0}) (λ κs e. tt)
quantizer_number_unique κs a x y e f p q = (p ∙ sym q, refl)

pub quantizer_period_unique : Unique 0 quantizer_period.ps quantizer_period.r quantizer_period_reads.Learnt (Unit {0}) (λ κs e. tt)
quantizer_period_unique κs a x y e f p q = (p ∙ sym q, refl)

pub quantizer_mf_unique : Unique 0 quantizer_mf.ps quantizer_mf.r quantizer_mf_reads.Learnt (Unit {0}) (λ κs e. tt)
quantizer_mf_unique κs a x y e f p q = (p ∙ sym q, refl)

pub quantizer_v_unique : Unique 0 quantizer_v.ps quantizer_v.r quantizer_v_reads.Learnt (Unit {0}) (λ κs e. tt)
quantizer_v_unique κs a x y e f p q = (p ∙ sym q, refl)

pub by_class_unique : Unique 0 by_class.ps by_class.r by_class_reads.Learnt (Unit {0}) (λ κs e. tt)
by_class_unique κs a x y e f p q = (p ∙ sym q, refl)

pub zigzag_unique : Unique 0 zigzag.ps zigzag.r zigzag_reads.Learnt (Unit {0}) (λ κs e. tt)
zigzag_unique κs a x y e f p q = (p ∙ sym q, refl)

pub steps_unique : Unique 0 steps.ps steps.r steps_reads.Learnt (Unit {0}) (λ κs e. tt)
steps_unique κs a x y e f p q = (p ∙ sym q, refl)

pub chroma_quantizer_unique : Unique 0 chroma_quantizer.ps chroma_quantizer.r chroma_quantizer_reads.Learnt (Unit {0}) (λ κs e. tt)
chroma_quantizer_unique κs a x y e f p q = (same_built x y (says_same p.says ∙ sym (says_same q.says)) (p.value ∙ sym q.value), refl)
