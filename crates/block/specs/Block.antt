-- One block coded: chosen, its residual in levels, and rebuilt from these (01, "What the bench builds"). Assumes nothing.
use Rattle.std.specs.Prelude.{List, ℕ, ℤ, pos, ◌-ℤ◌, get_or}
use Rattle.lists.specs.Tab.{tab}
use Rattle.intra4.specs.Samples.{Round}
use Rattle.intra4.specs.Choice.{chosen}
pub use Rattle.intra4.specs.Choice.{mode_of}
use Rattle.intra4.specs.Entry.{best_samples}
use Rattle.residual.specs.Levels.{levels_of}
use Rattle.residual.specs.Rebuild.{rescaled_of, rebuilt_samples}

-- the residual is what the prediction lacks: "sample = prediction + residual"
unfoldable pub residual_of : List ℕ → List ℕ → List ℤ
residual_of samples prediction = tab 16 (λ place. pos (get_or samples place 0) -ℤ pos (get_or prediction place 0))

-- "Choice: the permitted mode with the least SAD": its number
abbrev pub coded_mode : Round → List ℕ → ℕ
coded_mode round samples = mode_of (chosen round samples)

-- and its prediction
abbrev pub prediction_of : Round → List ℕ → List ℕ
prediction_of round samples = best_samples round (chosen round samples)

-- the levels of the residual, in zigzag order
abbrev pub coded_levels : ℕ → Round → List ℕ → List ℤ
coded_levels qp round samples = levels_of qp (residual_of samples (prediction_of round samples))

-- the samples that a decoder rebuilds from that prediction and those levels
abbrev pub coded_samples : ℕ → Round → List ℕ → List ℕ
coded_samples qp round samples = rebuilt_samples (prediction_of round samples) (rescaled_of qp (coded_levels qp round samples))
