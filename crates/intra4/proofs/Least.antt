-- The chosen mode is what the paper states: a permitted mode, no permitted mode costs less, every lower one costs more.
--     some_mode                                     DC is always permitted, so there always is a choice
--     least, lower_on_tie, sad_is_the_sum           of the chosen mode
--     lacks_nothing                                 its samples are the block's own where the SAD is 0
--     cost_holds, cost_low                          what has a cost has samples, and costs at most 255 a sample; over n by n
-- Assumes nothing.
use mathlib.Core.Path.{◌≡◌, refl, sym, ap, ◌∙◌}
use mathlib.Core.Bool.{Bool, true, false, cond}
use mathlib.Core.List.{List}
use Prim.Native.Nat.{ℕ, ◌*◌, ◌<◌, ◌≤◌}
use native.Mathlib.Omega.{arith}
use lib.ListN.{length, get_or}
use Rattle.lists.specs.Total.{total, gap}
use Rattle.lists.specs.Bytes.{Bytes}
use Rattle.choice.specs.Choice.{is, at, best_of, Least, sad}
use Rattle.choice.proofs.Least.{best_is, best_least, some_best, clash, same}
use Rattle.choice.proofs.Sad.{sad_low, sad_zero}
use Rattle.intra4.specs.Samples.{Round}
use Rattle.intra4.specs.Rules.{Predicted, samples, none, samples_of, predicted}
use Rattle.intra4.specs.Choice.{cost_of, costs_of, chosen}

module _ (n : ℕ) (block : List ℕ) {s : ℕ} where
  -- where a prediction stands by a condition, one that has a cost meets it
  pub cost_holds : (b : Bool) (l : List ℕ) {p : Predicted} → p ≡ cond b (samples l) none → cost_of n block p ≡ is s → b ≡ true
  cost_holds true l e c = refl
  cost_holds false l e c = clash c (ap (cost_of n block) e)

  cost_sum_law : (p : Predicted) → cost_of n block p ≡ is s → s ≡ total (n * n) (λ k. gap (get_or (samples_of p) k 0) (get_or block k 0))
  unfolding sad
  cost_sum_law (samples l) q = same refl (sym q)
  cost_sum_law none q = clash refl (sym q)

  pub cost_low : (p : Predicted) → Bytes (samples_of p) → Bytes block → cost_of n block p ≡ is s → s ≤ 255 * (n * n)
  cost_low (samples l) b o q = omega (arith, same refl q, sad_low (n * n) b o)
  cost_low none b o q = clash q refl

module _ (r : Round) (block : List ℕ) where
  pub some_mode : (m : ℕ) × (s : ℕ) × (chosen r block ≡ at m s) × Least 9 (costs_of r block) m s
  unfolding chosen predicted
  some_mode = some_best 9 (costs_of r block) 2 _ (omega arith) refl (best_of 9 (costs_of r block)) (best_is 9 (costs_of r block))

  module _ (m s : ℕ) (e : chosen r block ≡ at m s) where
    pub chosen_least : Least 9 (costs_of r block) m s
    unfolding chosen
    chosen_least = best_least 9 (costs_of r block) m s e

    -- no permitted mode has a smaller SAD
    pub least : (j : ℕ) → j < 9 → (d : ℕ) → costs_of r block j ≡ is d → s ≤ d
    least = chosen_least.least

    -- and every lower one has a larger SAD: on a tie the lower number is chosen
    pub lower_on_tie : (j : ℕ) → j < m → (d : ℕ) → costs_of r block j ≡ is d → s < d
    lower_on_tie = chosen_least.lower

    -- the SAD that comes back is the sum over the chosen mode's own samples
    pub sad_is_the_sum : s ≡ total 16 (λ k. gap (get_or (samples_of (predicted r m)) k 0) (get_or block k 0))
    sad_is_the_sum = cost_sum_law 4 block (predicted r m) chosen_least.costs

    pub lacks_nothing : s ≡ 0 → length (samples_of (predicted r m)) ≡ 16 → length block ≡ 16 → samples_of (predicted r m) ≡ block
    unfolding sad
    lacks_nothing nothing_left sixteen long = sad_zero 16 (samples_of (predicted r m)) block sixteen long (sym sad_is_the_sum ∙ nothing_left)
