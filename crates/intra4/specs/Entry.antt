-- What `predict` and `choose` send back and write (01, "What is sent back, and in which order it is tested"). Assumes nothing.
use Rattle.std.specs.Prelude.{◌≡◌, List, [], ◌∷◌, ℕ, length}
use Rattle.lists.specs.Chain.{Test, test, chain, written}
use Rattle.refusal.specs.Number.{said, Says}
use Rattle.refusal.specs.Tests.{length_test, flags_test}
use Rattle.refusal.specs.declared.Refusal.{Refusal}
use Rattle.refusal.specs.declared.Refusal.TheVariants as refusal
use Rattle.intra4.specs.declared.Chosen.{Chosen}
use Rattle.intra4.specs.declared.inner.Choice.{Choice}
use Rattle.intra4.specs.Samples.{Round, mask}
use Rattle.intra4.specs.Rules.{samples_of, predicted, permitted}
use Rattle.intra4.specs.Choice.{Best, nothing, at, chosen}
use Rattle.std.specs.Prelude.{Err, Ok, Result}

-- MODE: "number above 8, or what it needs is missing"
abbrev pub mode_test : ℕ → ℕ → Test Refusal
mode_test flags mode = test (permitted flags mode) (refusal.Mode 0)

-- ---- predict

-- LENGTH: thirteen neighbours, sixteen samples out; then FLAGS, then MODE
abbrev pub predict_tests : (neighbours : List ℕ) (flags mode : ℕ) (out : List ℕ) → List (Test Refusal)
predict_tests neighbours flags mode out =
    length_test 13 (length neighbours) ∷ length_test 16 (length out) ∷ flags_test flags ∷ mode_test flags mode ∷ []

pub record Predicts (neighbours : List ℕ) (flags mode : ℕ) (before : List ℕ) (r : Result (Unit {0}) Refusal) (after : List ℕ) : Type 0 where
  pub says : Says (said r) (chain (predict_tests neighbours flags mode before))
  pub wrote : after ≡ written (chain (predict_tests neighbours flags mode before)) (samples_of (predicted (mask neighbours flags) mode)) before

-- ---- choose

-- LENGTH: thirteen neighbours, sixteen samples in and out; then FLAGS
abbrev pub choose_tests : (neighbours : List ℕ) (flags : ℕ) (samples prediction : List ℕ) → List (Test Refusal)
choose_tests neighbours flags samples prediction =
    length_test 13 (length neighbours) ∷ length_test 16 (length samples) ∷ length_test 16 (length prediction) ∷ flags_test flags ∷ []

-- the mode and the SAD that come back (nothing where it refuses)
abbrev pub best_in : Result Chosen Refusal → Best
best_in (Ok best) = at best.mode best.sad
best_in (Err r) = nothing

-- the samples of the best mode
abbrev pub best_samples : Round → Best → List ℕ
best_samples round nothing = []
best_samples round (at mode sad) = samples_of (predicted round mode)

-- a best of `nothing` could not be met: an answer that refuses nothing has a mode
pub record Chooses (neighbours : List ℕ) (flags : ℕ) (samples before : List ℕ) (r : Result Chosen Refusal) (after : List ℕ) : Type 0 where
  pub says : Says (said r) (chain (choose_tests neighbours flags samples before))
  pub best : best_in r ≡ written (chain (choose_tests neighbours flags samples before)) (chosen (mask neighbours flags) samples) nothing
  pub wrote : after ≡ written (chain (choose_tests neighbours flags samples before)) (best_samples (mask neighbours flags) (chosen (mask neighbours flags) samples)) before

-- ---- for the other crates: the choice round a block, as mode, SAD and samples
pub record Picks (round : Round) (samples : List ℕ) (r : Choice) : Type 0 where
  pub best : at r.mode r.sad ≡ chosen round samples
  pub prediction : r.prediction ≡ samples_of (predicted round r.mode)
