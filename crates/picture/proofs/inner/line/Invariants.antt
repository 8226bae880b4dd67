-- `picture::inner::line` meets its contract: a loop over a lent part, which it fills.
-- Assumes nothing.
use Prim.Native.Nat.{◌+◌, ◌*◌, ◌-◌}
use mathlib.Core.Bool.{cond}
use lib.ListN.{get_or}
use Rattle.lists.proofs.Tab.{Filling}
use Rattle.picture.proofs.inner.line.Given as goal

abbrev pub invariant-loop-k : goal.invariant-loop-k
invariant-loop-k l = Filling l.count (λ i. cond l.present (get_or l.plane (l.at + i * l.step - l.back) 0) 0) l.one-items l.k
