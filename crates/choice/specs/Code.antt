-- How the code holds the best so far. Assumes nothing.
use Rattle.std.specs.Prelude.{cond, ℕ, ◌<◌, ltb}
use Rattle.choice.specs.Choice.{Cost, is, no, Best, nothing, at}
use Rattle.choice.specs.declared.inner.Standing.{Standing}

-- before the first permitted mode with a cost above any other
abbrev pub standing : Best → Standing
standing nothing = record { mode = 0; cost = 4294967295 }
standing (at m s) = record { mode = m; cost = s }

-- a mode is looked at
abbrev pub looked : ℕ → Cost → Standing → Standing
looked m no b = b
looked m (is d) b = cond (ltb d b.cost) (record { mode = m; cost = d }) b

-- a cost is below the one that stands before the first
abbrev pub Small : Cost → Type 0
Small (is d) = d < 4294967295
Small no = Unit {0}
