-- The chosen mode is what the paper states: a permitted mode, no permitted mode costs less, every lower one costs more.
--     some_mode                      DC is always permitted, so there always is a choice
--     chosen_least                   what is chosen is the least
--     least, lower_on_tie            as the paper has it
--     permitted_cost, chosen_mode    a mode that has a cost is permitted, so the chosen one is
-- Assumes nothing.
use mathlib.Core.Path.{◌≡◌, refl}
use mathlib.Core.Bool.{true}
use mathlib.Core.List.{List}
use Prim.Native.Nat.{ℕ, ◌<◌, ◌≤◌}
use native.Mathlib.Omega.{arith}
use Rattle.choice.specs.Choice.{is, at, best_of, Least}
use Rattle.choice.proofs.Least.{best_is, best_least, some_best}
use Rattle.intra4.specs.Samples.{Round}
use Rattle.intra4.proofs.Least.{cost_holds}
use Rattle.sides.specs.Samples.{mask}
use Rattle.sides.specs.Rules.{predicted, permitted}
use Rattle.sides.specs.Choice.{costs_of, chosen, ChosenMode}
use Rattle.sides.proofs.Masked.{predicted_is}

module _ (r : Round) (block : List ℕ) where
  pub some_mode : (m : ℕ) × (s : ℕ) × (chosen r block ≡ at m s) × Least 4 (costs_of r block) m s
  unfolding chosen predicted
  some_mode = some_best 4 (costs_of r block) 2 _ (omega arith) refl (best_of 4 (costs_of r block)) (best_is 4 (costs_of r block))

  module _ (m s : ℕ) (e : chosen r block ≡ at m s) where
    pub chosen_least : Least 4 (costs_of r block) m s
    unfolding chosen
    chosen_least = best_least 4 (costs_of r block) m s e

    -- no permitted mode has a smaller SAD
    pub least : (j : ℕ) → j < 4 → (d : ℕ) → costs_of r block j ≡ is d → s ≤ d
    least = chosen_least.least

    -- and every lower one has a larger SAD: on a tie the lower number is chosen
    pub lower_on_tie : (j : ℕ) → j < m → (d : ℕ) → costs_of r block j ≡ is d → s < d
    lower_on_tie = chosen_least.lower

module _ (l : List ℕ) (f : ℕ) (block : List ℕ) where
  pub permitted_cost : (m s : ℕ) → costs_of (mask 16 l f) block m ≡ is s → permitted f m ≡ true
  permitted_cost m s c = cost_holds 16 block (permitted f m) _ (predicted_is l f m) c

  pub chosen_mode : ChosenMode l f block
  chosen_mode =
      let w = some_mode (mask 16 l f) block in
      record { mode = w.0; sad = w.1; is = w.2; allowed = permitted_cost w.0 w.1 w.3.costs; within = w.3.within }
