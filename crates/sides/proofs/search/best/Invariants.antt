-- `sides::search::best` meets its contract: a loop that looks at each mode. Assumes nothing.
use mathlib.Core.Path.{◌≡◌}
use Prim.Native.Nat.{◌-◌}
use lib.ListN.{length}
use Rattle.choice.proofs.Looking.{Looking}
use Rattle.sides.specs.Samples.{mask}
use Rattle.sides.specs.Choice.{costs_of}
use Rattle.sides.proofs.search.best.Given as goal

abbrev pub invariant-loop-mode : goal.invariant-loop-mode
invariant-loop-mode l = Looking 4 (costs_of (mask 16 l.neighbours l.flags) l.samples) l.best l.mode × (length l.trial ≡ 256)

abbrev pub decreases-loop-mode : goal.decreases-loop-mode
decreases-loop-mode l = 4 - l.mode
