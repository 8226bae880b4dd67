-- "least SAD, lower number on a tie" over the four modes of Intra 16x16 (02, Req 01). Assumes nothing.
use Rattle.std.specs.Prelude.{◌≡◌, true, List, [], ℕ, ◌<◌}
use Rattle.choice.specs.Choice.{Cost, Best, nothing, at, best_of}
use Rattle.choice.specs.declared.inner.Standing.{Standing}
use Rattle.intra4.specs.Samples.{Round}
use Rattle.intra4.specs.Rules.{samples_of}
use Rattle.intra4.specs.Choice.{cost_of}
use Rattle.sides.specs.Samples.{mask}
use Rattle.sides.specs.Rules.{predicted, permitted}

-- what each mode costs round 16 by 16 samples
abbrev pub costs_of : Round → List ℕ → ℕ → Cost
costs_of r block m = cost_of 16 block (predicted r m)

-- the best of the four
unfoldable pub chosen : Round → List ℕ → Best
chosen r block = best_of 4 (costs_of r block)

-- the samples of the best mode
abbrev pub best_samples : Round → Best → List ℕ
best_samples r nothing = []
best_samples r (at mode cost) = samples_of (predicted r mode)

-- the chosen mode beside lent neighbours, with its SAD: the flags permit it
pub record ChosenMode (l : List ℕ) (f : ℕ) (block : List ℕ) : Type 0 where
  pub mode : ℕ
  pub sad : ℕ
  pub is : chosen (mask 16 l f) block ≡ at mode sad
  pub allowed : permitted f mode ≡ true
  pub within : mode < 4

-- what a choice answers, and the samples that it leaves
pub record Picks (r : Round) (block : List ℕ) (found : Standing) (after : List ℕ) : Type 0 where
  pub best : at found.mode found.cost ≡ chosen r block
  pub prediction : after ≡ samples_of (predicted r found.mode)
