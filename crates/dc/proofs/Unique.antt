-- The contracts of `dc` determine what its functions answer and leave in their outputs. Assumes nothing.
use mathlib.Core.Path.{refl, sym, ◌∙◌}
use mathlib.Core.List.{List}
use lib.IntN.{ℤ}
use Rattle.unique.specs.Unique.{Unique}
use Rattle.refusal.proofs.Same.{says_same, same_answer}
use Rattle.dc.proofs.inner.levels_over.Kinds as levels_over
use Rattle.dc.proofs.inner.levels_over.Reads as levels_over_reads
use Rattle.dc.proofs.inner.values_over.Kinds as values_over
use Rattle.dc.proofs.inner.values_over.Reads as values_over_reads
use Rattle.dc.proofs.luma_dc_levels.Kinds as luma_dc_levels
use Rattle.dc.proofs.luma_dc_levels.Reads as luma_dc_levels_reads
use Rattle.dc.proofs.luma_dc_values.Kinds as luma_dc_values
use Rattle.dc.proofs.luma_dc_values.Reads as luma_dc_values_reads
use Rattle.dc.proofs.chroma_dc_levels.Kinds as chroma_dc_levels
use Rattle.dc.proofs.chroma_dc_levels.Reads as chroma_dc_levels_reads
use Rattle.dc.proofs.chroma_dc_values.Kinds as chroma_dc_values
use Rattle.dc.proofs.chroma_dc_values.Reads as chroma_dc_values_reads

pub levels_over_unique : Unique 1 levels_over.ps levels_over.r levels_over_reads.Learnt (List ℤ) (λ κs e. e.1.0.now)
levels_over_unique κs a x y e f p q = (refl, p ∙ sym q)

pub values_over_unique : Unique 1 values_over.ps values_over.r values_over_reads.Learnt (List ℤ) (λ κs e. e.1.0.now)
values_over_unique κs a x y e f p q = (refl, p ∙ sym q)

pub luma_dc_levels_unique : Unique 2 luma_dc_levels.ps luma_dc_levels.r luma_dc_levels_reads.Learnt (List ℤ) (λ κs e. e.1.1.0.now)
luma_dc_levels_unique κs a x y e f p q = (same_answer x y (says_same p.says ∙ sym (says_same q.says)), p.wrote ∙ sym q.wrote)

pub luma_dc_values_unique : Unique 2 luma_dc_values.ps luma_dc_values.r luma_dc_values_reads.Learnt (List ℤ) (λ κs e. e.1.1.0.now)
luma_dc_values_unique κs a x y e f p q = (same_answer x y (says_same p.says ∙ sym (says_same q.says)), p.wrote ∙ sym q.wrote)

pub chroma_dc_levels_unique : Unique 2 chroma_dc_levels.ps chroma_dc_levels.r chroma_dc_levels_reads.Learnt (List ℤ) (λ κs e. e.1.1.0.now)
chroma_dc_levels_unique κs a x y e f p q = (same_answer x y (says_same p.says ∙ sym (says_same q.says)), p.wrote ∙ sym q.wrote)

pub chroma_dc_values_unique : Unique 2 chroma_dc_values.ps chroma_dc_values.r chroma_dc_values_reads.Learnt (List ℤ) (λ κs e. e.1.1.0.now)
chroma_dc_values_unique κs a x y e f p q = (same_answer x y (says_same p.says ∙ sym (says_same q.says)), p.wrote ∙ sym q.wrote)
