-- `sides::rules::rising` meets its contract: a loop that adds weighted samples of at most 2040. Assumes nothing.
use Prim.Native.Nat.{ℕ, ◌+◌, ◌*◌, ◌-◌}
use lib.ListN.{get_or}
use Rattle.lists.proofs.Total.{Totalling}
use Rattle.sides.proofs.rules.rising.Given as goal

abbrev pub invariant-loop-i : goal.invariant-loop-i
invariant-loop-i l = Totalling l.half (λ (j : ℕ). (j + 1) * get_or l.side (l.half + j) 0) 2040 l.sum l.i

abbrev pub decreases-loop-i : goal.decreases-loop-i
decreases-loop-i l = l.half - l.i
