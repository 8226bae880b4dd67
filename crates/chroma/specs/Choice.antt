-- One mode for Cb and Cr: the least sum of both SADs, the lower number on a tie (02, Req 05). Assumes nothing.
use Rattle.std.specs.Prelude.{◌≡◌, true, List, ℕ, ◌+◌, ◌<◌}
use Rattle.choice.specs.Choice.{Cost, is, no, Best, at, best_of}
use Rattle.choice.specs.declared.inner.Standing.{Standing}
use Rattle.intra4.specs.Samples.{Round}
use Rattle.intra4.specs.Rules.{samples_of}
use Rattle.intra4.specs.Choice.{cost_of}
use Rattle.sides.specs.Samples.{mask}
use Rattle.chroma.specs.Rules.{predicted, permitted}

-- Req 05: the sum of two planes' SADs, where both have a prediction
abbrev pub cost_sum : Cost → Cost → Cost
cost_sum (is d) (is e) = is (d + e)
cost_sum (is d) no = no
cost_sum no e = no

-- Req 05: what each mode costs round Cb's and Cr's 8 by 8 samples
abbrev pub both_costs : (cbRound crRound : Round) → (cb cr : List ℕ) → ℕ → Cost
both_costs cbRound crRound cb cr m = cost_sum (cost_of 8 cb (predicted cbRound m)) (cost_of 8 cr (predicted crRound m))

-- Req 05: the best of the four for both
unfoldable pub chosen_for_both : (cbRound crRound : Round) → (cb cr : List ℕ) → Best
chosen_for_both cbRound crRound cb cr = best_of 4 (both_costs cbRound crRound cb cr)

-- Req 05: the mode chosen for both planes beside their lent neighbours, with its summed SAD: the flags permit it
pub record ChosenForBoth (f : ℕ) (cbLent crLent cb cr : List ℕ) : Type 0 where
  pub mode : ℕ
  pub sad : ℕ
  pub is : chosen_for_both (mask 8 cbLent f) (mask 8 crLent f) cb cr ≡ at mode sad
  pub allowed : permitted f mode ≡ true
  pub within : mode < 4

-- Req 05: what a choice for both answers, and the samples that it leaves
pub record PicksForBoth (cbRound crRound : Round) (cb cr : List ℕ) (found : Standing) (cbAfter crAfter : List ℕ) : Type 0 where
  pub best : at found.mode found.cost ≡ chosen_for_both cbRound crRound cb cr
  pub cb_prediction : cbAfter ≡ samples_of (predicted cbRound found.mode)
  pub cr_prediction : crAfter ≡ samples_of (predicted crRound found.mode)
