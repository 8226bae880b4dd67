use mathlib.Core.Bool.{cond}
use mathlib.Core.List.{[]}
use Prim.Native.Nat.{◌-◌}
use Rattle.lists.proofs.Tab.{Squaring}
use Rattle.intra4.specs.Rules.{row_of, vertical, horizontal}
use Rattle.sides.proofs.inner.put_side.Given as goal

abbrev pub invariant-loop-x : goal.invariant-loop-x
invariant-loop-x l = Squaring l.n (cond l.above vertical horizontal (row_of [] l.side)) l.out l.y l.x

abbrev pub decreases-loop-x : goal.decreases-loop-x
decreases-loop-x l = l.n - l.x

abbrev pub invariant-loop-y : goal.invariant-loop-y
invariant-loop-y l = Squaring l.n (cond l.above vertical horizontal (row_of [] l.side)) l.out l.y 0

abbrev pub decreases-loop-y : goal.decreases-loop-y
decreases-loop-y l = l.n - l.y
