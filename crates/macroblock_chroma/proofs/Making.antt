-- What the code computes of a macroblock's chroma is what the definitions say.
--     turn_made                    the turn in one plane, of the flags and neighbours that the code has read
--     cb_made, cr_made             the steps by a record
--     both_predicted               one mode and two predictions, of the flags, neighbours and samples that the code has read
--     levels_made, coded_made       the levels and the steps of the coder, of these predictions
-- Assumes nothing.
use mathlib.Core.Path.{◌≡◌, ap, ◌∙◌}
use mathlib.Core.List.{List}
use Prim.Native.Nat.{ℕ}
use lib.IntN.{ℤ}
use lib.ListN.{take, drop}
use Rattle.choice.specs.Choice.{mode_of}
use Rattle.choice.specs.declared.inner.Standing.{Standing}
use Rattle.intra4.specs.Rules.{samples_of}
use Rattle.sides.specs.Samples.{mask}
use Rattle.chroma.specs.Choice.{chosen_for_both, PicksForBoth}
use Rattle.chroma.specs.Rules.{predicted}
use Rattle.residual_whole.specs.Coded.{whole_levels}
use Rattle.residual_whole.specs.Rebuilt.{whole_samples}
use Rattle.record.specs.Kinds.{in_chroma}
use Rattle.record.specs.Records.{all_levels_in, chroma_mode_in}
use Rattle.picture.specs.declared.Layout.{Layout}
use Rattle.picture.specs.Both.{Both}
use Rattle.picture.specs.Whole.{whole_of, with_whole, flags_round, gathered_round, whole_turn}
use Rattle.macroblock_chroma.specs.Code.{mode_for_both, levels_chroma, coded_chroma, plane_step_chroma, PredictsBoth}
use Rattle.macroblock_chroma.specs.Content.{cb_levels_in, cr_levels_in, cb_quantizer, cr_quantizer}
use Rattle.macroblock_chroma.specs.Rebuild.{prediction_chroma, samples_chroma, cb_step, cr_step}

module _ (l : Layout) (m : ℕ) (plane : List ℕ) where
  pub turn_made : (qp mode : ℕ) (levels : List ℤ) {flags : ℕ} {n p after : List ℕ}
      → flags ≡ flags_round 8 l m → n ≡ gathered_round 8 l m plane → p ≡ samples_of (predicted (mask 8 n flags) mode)
      → after ≡ with_whole 8 l m (whole_samples 8 qp p levels) plane
      → after ≡ whole_turn 8 (samples_chroma l qp mode levels) l m plane
  unfolding whole_turn samples_chroma prediction_chroma
  turn_made qp mode levels is_f is-n is-p is-a =
      let shown = is-p ∙ (λ i. samples_of (predicted (mask 8 (is-n i) (is_f i)) mode)) in
      is-a ∙ (λ i. with_whole 8 l m (whole_samples 8 qp (shown i) levels) plane)

  module _ (qp : ℕ) (part : List ℕ) {quantizer mode : ℕ} {levels : List ℤ} {after : List ℕ} where
    pub cb_made : quantizer ≡ cb_quantizer qp part → mode ≡ chroma_mode_in part → levels ≡ all_levels_in in_chroma part
        → after ≡ whole_turn 8 (samples_chroma l quantizer mode (take 64 levels)) l m plane
        → after ≡ cb_step l m qp part plane
    unfolding cb_step cb_levels_in
    cb_made is-q is_m is_l is-a = is-a ∙ (λ i. whole_turn 8 (samples_chroma l (is-q i) (is_m i) (take 64 (is_l i))) l m plane)

    pub cr_made : quantizer ≡ cr_quantizer qp part → mode ≡ chroma_mode_in part → levels ≡ all_levels_in in_chroma part
        → after ≡ whole_turn 8 (samples_chroma l quantizer mode (drop 64 levels)) l m plane
        → after ≡ cr_step l m qp part plane
    unfolding cr_step cr_levels_in
    cr_made is-q is_m is_l is-a = is-a ∙ (λ i. whole_turn 8 (samples_chroma l (is-q i) (is_m i) (drop 64 (is_l i))) l m plane)

-- ---- coded

pub both_predicted : (l : Layout) (m : ℕ) (original before : Both) (found : Standing) {flags : ℕ} {n n' s s' p p' : List ℕ}
    → flags ≡ flags_round 8 l m → n ≡ gathered_round 8 l m before.cb → n' ≡ gathered_round 8 l m before.cr
    → s ≡ whole_of 8 l m original.cb → s' ≡ whole_of 8 l m original.cr
    → PicksForBoth (mask 8 n flags) (mask 8 n' flags) s s' found p p'
    → PredictsBoth l m original before found.mode p p'
unfolding mode_for_both prediction_chroma
both_predicted l m original before found is_f is-n is-n' is-s is-s' picks =
    record {
      chosen = ap mode_of picks.best ∙ (λ i. mode_of (chosen_for_both (mask 8 (is-n i) (is_f i)) (mask 8 (is-n' i) (is_f i)) (is-s i) (is-s' i)));
      cb_shown = picks.cb_prediction ∙ (λ i. samples_of (predicted (mask 8 (is-n i) (is_f i)) found.mode));
      cr_shown = picks.cr_prediction ∙ (λ i. samples_of (predicted (mask 8 (is-n' i) (is_f i)) found.mode));
    }

-- in either plane: p is its prediction in the mode that the code has chosen
module _ (l : Layout) (m : ℕ) (original before : List ℕ) (made : ℕ) {mode quantizer qp : ℕ} {p : List ℕ} (is_m : mode ≡ made) (is-q : quantizer ≡ qp)
    (is-p : p ≡ prediction_chroma l mode m (gathered_round 8 l m before))
  where
    shown : p ≡ prediction_chroma l made m (gathered_round 8 l m before)
    shown = is-p ∙ (λ i. prediction_chroma l (is_m i) m (gathered_round 8 l m before))

    pub levels_made : whole_levels 8 quantizer (whole_of 8 l m original) p ≡ levels_chroma l qp original made m (gathered_round 8 l m before)
    unfolding levels_chroma
    levels_made = λ i. whole_levels 8 (is-q i) (whole_of 8 l m original) (shown i)

    pub coded_made : {after : List ℕ} → after ≡ with_whole 8 l m (whole_samples 8 quantizer p (whole_levels 8 quantizer (whole_of 8 l m original) p)) before
        → after ≡ plane_step_chroma l qp original made m before
    unfolding whole_turn coded_chroma samples_chroma
    coded_made e = e ∙ (λ i. with_whole 8 l m (whole_samples 8 (is-q i) (shown i) (levels_made i)) before)
