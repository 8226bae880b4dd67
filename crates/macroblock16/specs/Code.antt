-- The candidate of a macroblock predicted whole, beside its neighbours in the rebuilt plane (02, Req 01). Assumes nothing.
use Rattle.std.specs.Prelude.{◌≡◌, List, ℕ, ℤ}
use Rattle.choice.specs.Choice.{mode_of, sad_of}
use Rattle.choice.specs.declared.inner.Standing.{Standing}
use Rattle.intra4.specs.Rules.{samples_of}
use Rattle.sides.specs.Choice.{chosen}
use Rattle.sides.specs.Rules.{predicted}
use Rattle.residual_whole.specs.Coded.{whole_levels}
use Rattle.residual_whole.specs.Rebuilt.{whole_samples}
use Rattle.record.specs.Records.{record_whole}
use Rattle.picture.specs.declared.Layout.{Layout}
use Rattle.picture.specs.Whole.{whole_of, gathered_round, whole_turn}
use Rattle.macroblock16.specs.Rebuild.{round_whole}

-- ---- of the 33 neighbours of macroblock m

-- "the four modes of clause 8.3.3 .., least SAD, lower number on a tie": its mode
unfoldable pub mode_from16 : Layout → List ℕ → (m : ℕ) → (neighbours : List ℕ) → ℕ
mode_from16 l original m neighbours = mode_of (chosen (round_whole l m neighbours) (whole_of 16 l m original))

-- and "its SAD"
unfoldable pub sad_from16 : Layout → List ℕ → (m : ℕ) → (neighbours : List ℕ) → ℕ
sad_from16 l original m neighbours = sad_of (chosen (round_whole l m neighbours) (whole_of 16 l m original))

-- its prediction
unfoldable pub prediction_from16 : Layout → List ℕ → (m : ℕ) → (neighbours : List ℕ) → List ℕ
prediction_from16 l original m neighbours = samples_of (predicted (round_whole l m neighbours) (mode_from16 l original m neighbours))

-- its levels, "with the luma DC path"
unfoldable pub levels_from16 : Layout → (qp : ℕ) → List ℕ → (m : ℕ) → (neighbours : List ℕ) → List ℤ
levels_from16 l qp original m neighbours = whole_levels 16 qp (whole_of 16 l m original) (prediction_from16 l original m neighbours)

-- and the samples that a decoder rebuilds
unfoldable pub samples_from16 : Layout → (qp : ℕ) → List ℕ → (m : ℕ) → (neighbours : List ℕ) → List ℕ
samples_from16 l qp original m neighbours = whole_samples 16 qp (prediction_from16 l original m neighbours) (levels_from16 l qp original m neighbours)

-- ---- of the rebuilt plane as it stood before macroblock m

-- "New record, 520 bytes: mark 4D 36, number, QP, mode, 16 DC levels, 16 times 15 AC levels, sum"
unfoldable pub record_from16 : Layout → (qp : ℕ) → List ℕ → (m : ℕ) → (before : List ℕ) → List ℕ
record_from16 l qp original m before =
    let neighbours = gathered_round 16 l m before in
    record_whole m qp (mode_from16 l original m neighbours) (levels_from16 l qp original m neighbours)

-- the step of macroblock m: the rebuilt plane before it, and after its turn
unfoldable pub coded_step16 : Layout → (qp : ℕ) → List ℕ → (m : ℕ) → (before : List ℕ) → List ℕ
coded_step16 l qp original m before = whole_turn 16 (samples_from16 l qp original) l m before

-- what the candidate's function answers, and the levels and the prediction that it leaves
pub record Candidate (l : Layout) (m qp : ℕ) (original before : List ℕ) (found : Standing) (levels : List ℤ) (prediction : List ℕ) : Type 0 where
  pub mode : found.mode ≡ mode_from16 l original m (gathered_round 16 l m before)
  pub sad : found.cost ≡ sad_from16 l original m (gathered_round 16 l m before)
  pub coded : levels ≡ levels_from16 l qp original m (gathered_round 16 l m before)
  pub shown : prediction ≡ prediction_from16 l original m (gathered_round 16 l m before)
