-- A record carries its own macroblock: of two planes that agree in macroblock m, from one rebuilt plane before it.
--     step_own16, record_own16, sad_own16     its step, its record and its SAD are the same
-- Assumes nothing.
use mathlib.Core.Path.{◌≡◌, ap}
use mathlib.Core.List.{List}
use Prim.Native.Nat.{ℕ}
use Rattle.choice.specs.Choice.{mode_of, sad_of}
use Rattle.intra4.specs.Rules.{samples_of}
use Rattle.sides.specs.Choice.{chosen}
use Rattle.sides.specs.Rules.{predicted}
use Rattle.residual_whole.specs.Coded.{whole_levels}
use Rattle.residual_whole.specs.Rebuilt.{whole_samples}
use Rattle.record.specs.Records.{record_whole}
use Rattle.picture.specs.declared.Layout.{Layout}
use Rattle.picture.specs.Whole.{whole_of, with_whole, gathered_round, whole_turn}
use Rattle.macroblock16.specs.Code.{mode_from16, sad_from16, prediction_from16, levels_from16, samples_from16, record_from16, coded_step16}
use Rattle.macroblock16.specs.Rebuild.{round_whole}

module _ (l : Layout) (p q : List ℕ) (m : ℕ) (same : whole_of 16 l m p ≡ whole_of 16 l m q) where
  module _ (neighbours : List ℕ) where
    mode_own16 : mode_from16 l p m neighbours ≡ mode_from16 l q m neighbours
    unfolding mode_from16
    mode_own16 = ap (λ (s : List ℕ). mode_of (chosen (round_whole l m neighbours) s)) same

    pub sad_own16 : sad_from16 l p m neighbours ≡ sad_from16 l q m neighbours
    unfolding sad_from16
    sad_own16 = ap (λ (s : List ℕ). sad_of (chosen (round_whole l m neighbours) s)) same

    prediction_own16 : prediction_from16 l p m neighbours ≡ prediction_from16 l q m neighbours
    unfolding prediction_from16
    prediction_own16 = ap (λ (mode : ℕ). samples_of (predicted (round_whole l m neighbours) mode)) mode_own16

    module _ (qp : ℕ) where
      levels_own16 : levels_from16 l qp p m neighbours ≡ levels_from16 l qp q m neighbours
      unfolding levels_from16
      levels_own16 = λ i. whole_levels 16 qp (same i) (prediction_own16 i)

      samples_own16 : samples_from16 l qp p m neighbours ≡ samples_from16 l qp q m neighbours
      unfolding samples_from16
      samples_own16 = λ i. whole_samples 16 qp (prediction_own16 i) (levels_own16 i)

  module _ (qp : ℕ) (before : List ℕ) where
    pub step_own16 : coded_step16 l qp p m before ≡ coded_step16 l qp q m before
    unfolding coded_step16 whole_turn
    step_own16 = ap (λ (block : List ℕ). with_whole 16 l m block before) (samples_own16 (gathered_round 16 l m before) qp)

    pub record_own16 : record_from16 l qp p m before ≡ record_from16 l qp q m before
    unfolding record_from16
    record_own16 = λ i. record_whole m qp (mode_own16 (gathered_round 16 l m before) i) (levels_own16 (gathered_round 16 l m before) qp i)
