-- `sides::fills::put_slanted` meets its contract: two loops that store the rule in raster order, by row and column. Assumes nothing.
use Prim.Native.Nat.{◌-◌}
use Rattle.lists.proofs.Tab.{Squaring}
use Rattle.sides.specs.Plane.{slanted}
use Rattle.sides.proofs.fills.put_slanted.Given as goal

abbrev pub invariant-loop-x : goal.invariant-loop-x
invariant-loop-x l = Squaring l.n (slanted l.n l.a l.b l.c) l.out l.y l.x

abbrev pub decreases-loop-x : goal.decreases-loop-x
decreases-loop-x l = l.n - l.x

abbrev pub invariant-loop-y : goal.invariant-loop-y
invariant-loop-y l = Squaring l.n (slanted l.n l.a l.b l.c) l.out l.y 0

abbrev pub decreases-loop-y : goal.decreases-loop-y
decreases-loop-y l = l.n - l.y
