-- `record::inner::kind_levels` meets its contract: one loop over the levels. Assumes nothing.
use Prim.Native.Nat.{◌+◌, ◌*◌}
use lib.ListN.{length}
use Rattle.lists.proofs.Tab.{Filling}
use Rattle.octets.specs.Numbers.{level_at}
use Rattle.record.proofs.inner.kind_levels.Given as goal

abbrev pub invariant-loop-i : goal.invariant-loop-i
invariant-loop-i l = Filling (length l.initial.out) (λ j. level_at (l.kind.front + 2 * j) l.part) l.out l.i
