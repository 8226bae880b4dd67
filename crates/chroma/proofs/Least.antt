-- The mode that is chosen for both planes is what the paper states: a permitted mode, no permitted mode has a smaller sum of SADs, every lower one a
-- larger.
--     CostOfTwo: sum_of_both            what a sum of costs is made of
--     some_for_both                  DC is always permitted, so there always is a choice
--     for_both_least                 what is chosen is the least
--     least, lower_on_tie            as the paper has it
--     permitted_cost, mode_for_both_law  a mode that has a cost is permitted, so the chosen one is
-- Assumes nothing.
use mathlib.Core.Path.{◌≡◌, refl}
use mathlib.Core.Bool.{true}
use mathlib.Core.List.{List}
use Prim.Native.Nat.{ℕ, ◌+◌, ◌<◌, ◌≤◌}
use native.Mathlib.Omega.{arith}
use Rattle.choice.specs.Choice.{Cost, is, no, at, best_of, Least}
use Rattle.choice.proofs.Least.{best_is, best_least, some_best, clash, same}
use Rattle.intra4.specs.Samples.{Round}
use Rattle.intra4.proofs.Least.{cost_holds}
use Rattle.sides.specs.Samples.{mask}
use Rattle.chroma.specs.Rules.{predicted, permitted}
use Rattle.chroma.specs.Choice.{cost_sum, both_costs, chosen_for_both, ChosenForBoth}
use Rattle.chroma.proofs.Masked.{predicted_is}

-- what a sum of costs is made of
pub record CostOfTwo (x y : Cost) (s : ℕ) : Type 0 where
  pub first : ℕ
  pub second : ℕ
  pub is_first : x ≡ is first
  pub is_second : y ≡ is second
  pub sum : s ≡ first + second

pub sum_of_both : (x y : Cost) (s : ℕ) → cost_sum x y ≡ is s → CostOfTwo x y s
sum_of_both (is d) (is e) s h = record { first = d; second = e; is_first = refl; is_second = refl; sum = same h refl }
sum_of_both (is d) no s h = clash h refl
sum_of_both no y s h = clash h refl

module _ (r r' : Round) (cb cr : List ℕ) where
  pub some_for_both : (m : ℕ) × (s : ℕ) × (chosen_for_both r r' cb cr ≡ at m s) × Least 4 (both_costs r r' cb cr) m s
  unfolding chosen_for_both predicted
  some_for_both = some_best 4 (both_costs r r' cb cr) 0 _ (omega arith) refl (best_of 4 (both_costs r r' cb cr)) (best_is 4 (both_costs r r' cb cr))

  module _ (m s : ℕ) (e : chosen_for_both r r' cb cr ≡ at m s) where
    pub for_both_least : Least 4 (both_costs r r' cb cr) m s
    unfolding chosen_for_both
    for_both_least = best_least 4 (both_costs r r' cb cr) m s e

    -- no permitted mode has a smaller sum of SADs
    pub least : (j : ℕ) → j < 4 → (d : ℕ) → both_costs r r' cb cr j ≡ is d → s ≤ d
    least = for_both_least.least

    -- and every lower one has a larger: on a tie the lower number is chosen
    pub lower_on_tie : (j : ℕ) → j < m → (d : ℕ) → both_costs r r' cb cr j ≡ is d → s < d
    lower_on_tie = for_both_least.lower

module _ (f : ℕ) (l l' cb cr : List ℕ) where
  pub permitted_cost : (m s : ℕ) → both_costs (mask 8 l f) (mask 8 l' f) cb cr m ≡ is s → permitted f m ≡ true
  permitted_cost m s c = cost_holds 8 cb (permitted f m) _ (predicted_is l f m) (sum_of_both _ _ s c).is_first

  pub mode_for_both_law : ChosenForBoth f l l' cb cr
  mode_for_both_law =
      let w = some_for_both (mask 8 l f) (mask 8 l' f) cb cr in
      record { mode = w.0; sad = w.1; is = w.2; allowed = permitted_cost w.0 w.1 w.3.costs; within = w.3.within }
