-- `chroma::search::best` meets its contract: a loop that looks at each mode. Assumes nothing.
use mathlib.Core.Path.{◌≡◌}
use Prim.Native.Nat.{◌-◌}
use lib.ListN.{length}
use Rattle.choice.proofs.Looking.{Looking}
use Rattle.sides.specs.Samples.{mask}
use Rattle.chroma.specs.Choice.{both_costs}
use Rattle.chroma.proofs.search.best.Given as goal

abbrev pub invariant-loop-mode : goal.invariant-loop-mode
invariant-loop-mode l =
    Looking 4 (both_costs (mask 8 l.cb_neighbours l.flags) (mask 8 l.cr_neighbours l.flags) l.cb_samples l.cr_samples) l.best l.mode × (length l.cb ≡ 64) × (length l.cr ≡ 64)

abbrev pub decreases-loop-mode : goal.decreases-loop-mode
decreases-loop-mode l = 4 - l.mode
