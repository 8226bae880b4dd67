-- The contracts of `residual` determine what its functions answer and leave in their outputs. Assumes nothing.
use mathlib.Core.Path.{refl, sym, ◌∙◌}
use mathlib.Core.List.{List}
use Prim.Native.Nat.{ℕ}
use lib.IntN.{ℤ}
use Rattle.unique.specs.Unique.{Unique}
use Rattle.refusal.proofs.Same.{says_same, same_answer}
use Rattle.quantizer.proofs.Range.{same_built}
use Rattle.residual.proofs.levels.Kinds as levels
use Rattle.residual.proofs.levels.Reads as levels_reads
use Rattle.residual.proofs.rebuild.Kinds as rebuild
use Rattle.residual.proofs.rebuild.Reads as rebuild_reads
use Rattle.residual.proofs.rebuild_with_dc.Kinds as rebuild_with_dc
use Rattle.residual.proofs.rebuild_with_dc.Reads as rebuild_with_dc_reads
use Rattle.residual.proofs.inner.accepted.Kinds as accepted
use Rattle.residual.proofs.inner.accepted.Reads as accepted_reads
use Rattle.residual.proofs.inner.residuals_accepted.Kinds as residuals_accepted
use Rattle.residual.proofs.inner.residuals_accepted.Reads as residuals_accepted_reads
use Rattle.residual.proofs.inner.scale.Kinds as scale
use Rattle.residual.proofs.inner.scale.Reads as scale_reads
use Rattle.residual.proofs.inner.scale_all.Kinds as scale_all
use Rattle.residual.proofs.inner.scale_all.Reads as scale_all_reads
use Rattle.residual.proofs.inner.third.Kinds as third
use Rattle.residual.proofs.inner.third.Reads as third_reads
use Rattle.residual.proofs.inner.half.Kinds as half
use Rattle.residual.proofs.inner.half.Reads as half_reads
use Rattle.residual.proofs.inner.beyond.Kinds as beyond
use Rattle.residual.proofs.inner.beyond.Reads as beyond_reads
use Rattle.residual.proofs.inner.level_all.Kinds as level_all
use Rattle.residual.proofs.inner.level_all.Reads as level_all_reads
use Rattle.residual.proofs.inner.quantized.Kinds as quantized
use Rattle.residual.proofs.inner.quantized.Reads as quantized_reads
use Rattle.residual.proofs.inner.in_zigzag.Kinds as in_zigzag_law
use Rattle.residual.proofs.inner.in_zigzag.Reads as in_zigzag_reads
use Rattle.residual.proofs.inner.in_places.Kinds as in_places_law
use Rattle.residual.proofs.inner.in_places.Reads as in_places_reads
use Rattle.residual.proofs.inner.rescaled.Kinds as rescaled
use Rattle.residual.proofs.inner.rescaled.Reads as rescaled_reads
use Rattle.residual.proofs.inner.all_zero.Kinds as all_zero
use Rattle.residual.proofs.inner.all_zero.Reads as all_zero_reads
use Rattle.residual.proofs.inner.rebuilt.Kinds as rebuilt
use Rattle.residual.proofs.inner.rebuilt.Reads as rebuilt_reads
use Rattle.residual.proofs.inner.samples.Kinds as samples
use Rattle.residual.proofs.inner.samples.Reads as samples_reads

pub accepted_unique : Unique 0 accepted.ps accepted.r accepted_reads.Learnt (Unit {0}) (λ κs e. tt)
accepted_unique κs a x y e f p q = (same_built x y (says_same p.says ∙ sym (says_same q.says)) (p.value ∙ sym q.value), refl)

pub residuals_accepted_unique : Unique 1 residuals_accepted.ps residuals_accepted.r residuals_accepted_reads.Learnt (Unit {0}) (λ κs e. tt)
residuals_accepted_unique κs a x y e f p q = (same_built x y (says_same p.says ∙ sym (says_same q.says)) (p.value ∙ sym q.value), refl)

pub scale_unique : Unique 0 scale.ps scale.r scale_reads.Learnt (Unit {0}) (λ κs e. tt)
scale_unique κs a x y e f p q = (p ∙ sym q, refl)

pub third_unique : Unique 0 third.ps third.r third_reads.Learnt (Unit {0}) (λ κs e. tt)
third_unique κs a x y e f p q = (p ∙ sym q, refl)

pub half_unique : Unique 0 half.ps half.r half_reads.Learnt (Unit {0}) (λ κs e. tt)
half_unique κs a x y e f p q = (p.0 ∙ sym q.0, refl)

pub beyond_unique : Unique 0 beyond.ps beyond.r beyond_reads.Learnt (Unit {0}) (λ κs e. tt)
beyond_unique κs a x y e f p q = (p ∙ sym q, refl)

pub scale_all_unique : Unique 2 scale_all.ps scale_all.r scale_all_reads.Learnt (List ℤ) (λ κs e. e.0.now)
scale_all_unique κs a x y e f p q = (refl, p ∙ sym q)

pub level_all_unique : Unique 2 level_all.ps level_all.r level_all_reads.Learnt (List ℤ) (λ κs e. e.0.now)
level_all_unique κs a x y e f p q = (refl, p ∙ sym q)

pub quantized_unique : Unique 0 quantized.ps quantized.r quantized_reads.Learnt (Unit {0}) (λ κs e. tt)
quantized_unique κs a x y e f p q = (p ∙ sym q, refl)

pub in_zigzag_unique : Unique 0 in_zigzag_law.ps in_zigzag_law.r in_zigzag_reads.Learnt (Unit {0}) (λ κs e. tt)
in_zigzag_unique κs a x y e f p q = (p ∙ sym q, refl)

pub in_places_unique : Unique 0 in_places_law.ps in_places_law.r in_places_reads.Learnt (Unit {0}) (λ κs e. tt)
in_places_unique κs a x y e f p q = (p ∙ sym q, refl)

pub rescaled_unique : Unique 0 rescaled.ps rescaled.r rescaled_reads.Learnt (Unit {0}) (λ κs e. tt)
rescaled_unique κs a x y e f p q = (p ∙ sym q, refl)

pub all_zero_unique : Unique 0 all_zero.ps all_zero.r all_zero_reads.Learnt (Unit {0}) (λ κs e. tt)
all_zero_unique κs a x y e f p q = (p ∙ sym q, refl)

pub rebuilt_unique : Unique 0 rebuilt.ps rebuilt.r rebuilt_reads.Learnt (Unit {0}) (λ κs e. tt)
rebuilt_unique κs a x y e f p q = (p ∙ sym q, refl)

pub samples_unique : Unique 0 samples.ps samples.r samples_reads.Learnt (Unit {0}) (λ κs e. tt)
samples_unique κs a x y e f p q = (p ∙ sym q, refl)

pub levels_unique : Unique 2 levels.ps levels.r levels_reads.Learnt (List ℤ) (λ κs e. e.1.1.0.now)
levels_unique κs a x y e f p q = (same_answer x y (says_same p.says ∙ sym (says_same q.says)), p.wrote ∙ sym q.wrote)

pub rebuild_unique : Unique 3 rebuild.ps rebuild.r rebuild_reads.Learnt (List ℕ) (λ κs e. e.1.1.1.0.now)
rebuild_unique κs a x y e f p q = (same_answer x y (says_same p.says ∙ sym (says_same q.says)), p.wrote ∙ sym q.wrote)

pub rebuild_with_dc_unique : Unique 3 rebuild_with_dc.ps rebuild_with_dc.r rebuild_with_dc_reads.Learnt (List ℕ) (λ κs e. e.1.1.1.1.0.now)
rebuild_with_dc_unique κs a x y e f p q = (same_answer x y (says_same p.says ∙ sym (says_same q.says)), p.wrote ∙ sym q.wrote)
