-- "Choice: the permitted mode with the least SAD over 16 samples, the lower number on a tie" (01, "Samples round a block").
-- Assumes nothing.
use Rattle.std.specs.Prelude.{◌≡◌, true, List, ℕ, ◌*◌, ◌<◌}
use Rattle.choice.specs.Choice.{Cost, is, no}
-- the crates above name these here
pub use Rattle.choice.specs.Choice.{Best, nothing, at, mode_of}
unfoldable pub use Rattle.choice.specs.Choice.{sad, best_of}
use Rattle.intra4.specs.Samples.{Round, mask}
use Rattle.intra4.specs.Rules.{Predicted, samples, none, predicted, permitted}

-- a mode's SAD over the n by n samples of a block
abbrev pub cost_of : ℕ → List ℕ → Predicted → Cost
cost_of n block (samples l) = is (sad (n * n) l block)
cost_of n block none = no

-- what each mode costs round a block
abbrev pub costs_of : Round → List ℕ → ℕ → Cost
costs_of r block m = cost_of 4 block (predicted r m)

-- the best of the nine
unfoldable pub chosen : Round → List ℕ → Best
chosen r block = best_of 9 (costs_of r block)

-- the chosen mode beside thirteen neighbours, with its SAD: the flags permit it
pub record ChosenMode (n : List ℕ) (f : ℕ) (block : List ℕ) : Type 0 where
  pub mode : ℕ
  pub sad : ℕ
  pub is : chosen (mask n f) block ≡ at mode sad
  pub allowed : permitted f mode ≡ true
  pub within : mode < 9
