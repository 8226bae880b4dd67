use mathlib.Core.Path.{◌≡◌}
use Prim.Native.Nat.{◌-◌, ◌≤◌}
use Rattle.record.specs.Faults.{walk_of}
use Rattle.record.proofs.inner.walk.Given as goal
use Rattle.std.specs.Prelude.{Ok}

-- `record::inner::walk` meets its contract: the walk over the records passed stands at the place. Assumes nothing.
abbrev pub invariant-loop-k : goal.invariant-loop-k
invariant-loop-k l = (l.k ≤ l.count) × (walk_of l.colour l.k l.file l.start ≡ Ok l.place)

abbrev pub decreases-loop-k : goal.decreases-loop-k
decreases-loop-k l = l.count - l.k
