-- What the code computes of a macroblock predicted whole is what the definitions say.
--     candidate_made     the candidate, of the flags, neighbours and samples that the code has read
--     whole_made         the samples by a record
-- Assumes nothing.
use mathlib.Core.Path.{◌≡◌, sym, ap, ◌∙◌}
use mathlib.Core.List.{List}
use Prim.Native.Nat.{ℕ}
use native.Mathlib.Omega.{arith}
use lib.IntN.{ℤ}
use lib.ListN.{length}
use Rattle.choice.specs.Choice.{at, mode_of, sad_of}
use Rattle.choice.specs.declared.inner.Standing.{Standing}
use Rattle.intra4.specs.Rules.{samples_of}
use Rattle.sides.specs.Choice.{chosen, Picks}
use Rattle.sides.specs.Rules.{predicted}
use Rattle.sides.specs.Samples.{mask}
use Rattle.residual_whole.specs.Coded.{whole_levels}
use Rattle.residual_whole.specs.Rebuilt.{whole_samples}
use Rattle.record.specs.Records.{qp_in, whole_mode_in}
use Rattle.picture.specs.declared.Layout.{Layout}
use Rattle.picture.specs.Order.{Among}
use Rattle.picture.specs.Plane.{plane_length}
use Rattle.picture.specs.Whole.{whole_of, with_whole, flags_round, gathered_round, whole_turn}
use Rattle.picture.proofs.Whole.{whole_back}
use Rattle.macroblock16.specs.Code.{mode_from16, sad_from16, prediction_from16, levels_from16, Candidate}
use Rattle.macroblock16.specs.Content.{whole_levels_in}
use Rattle.macroblock16.specs.Rebuild.{round_whole, whole_from, rebuilt_step16}

pub candidate_made : (l : Layout) (m qp : ℕ) (original before : List ℕ) (found : Standing) {flags : ℕ} {n s prediction : List ℕ} {levels : List ℤ}
    → flags ≡ flags_round 16 l m → n ≡ gathered_round 16 l m before → s ≡ whole_of 16 l m original
    → Picks (mask 16 n flags) s found prediction → levels ≡ whole_levels 16 qp s prediction
    → Candidate l m qp original before found levels prediction
unfolding mode_from16 sad_from16 prediction_from16 levels_from16
candidate_made l m qp original before found is_f is-n is-s picks is_l =
    let best : at found.mode found.cost ≡ chosen (round_whole l m (gathered_round 16 l m before)) (whole_of 16 l m original) =
    picks.best ∙ (λ i. chosen (mask 16 (is-n i) (is_f i)) (is-s i)) in
    let shown = picks.prediction ∙ (λ i. samples_of (predicted (mask 16 (is-n i) (is_f i)) (ap mode_of best i))) in
    record {
      mode = ap mode_of best;
      sad = ap sad_of best;
      coded = is_l ∙ (λ i. whole_levels 16 qp (is-s i) (shown i));
      shown = shown;
    }

pub whole_made : {l : Layout} {m : ℕ} → Among l m 0 → (part plane : List ℕ) → length plane ≡ plane_length 16 l → {flags mode qp : ℕ} {n p after : List ℕ} {levels : List ℤ}
    → flags ≡ flags_round 16 l m → n ≡ gathered_round 16 l m plane → mode ≡ whole_mode_in part → p ≡ samples_of (predicted (mask 16 n flags) mode)
    → qp ≡ qp_in part → levels ≡ whole_levels_in part
    → after ≡ whole_samples 16 qp p levels → length after ≡ 256
    → after ≡ whole_of 16 l m (rebuilt_step16 l m part plane)
unfolding rebuilt_step16 whole_turn whole_from
whole_made {l} {m} a part plane long {after = after} is_f is-n is_m is-p is-q is_l is-a size =
    let shown = is-p ∙ (λ i. samples_of (predicted (mask 16 (is-n i) (is_f i)) (is_m i))) in
    sym (whole_back 16 (omega arith) l a.sound.some m a.macroblock after plane size long)
    ∙ ap (λ (block : List ℕ). whole_of 16 l m (with_whole 16 l m block plane)) (is-a ∙ (λ i. whole_samples 16 (is-q i) (shown i) (is_l i)))
