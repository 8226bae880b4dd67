-- `sides::rules::sum_of` meets its contract: a loop that adds bytes. Assumes nothing.
use Prim.Native.Nat.{ℕ}
use lib.ListN.{length, get_or}
use Rattle.lists.proofs.Total.{Totalling}
use Rattle.sides.proofs.rules.sum_of.Given as goal

abbrev pub invariant-loop-sample : goal.invariant-loop-sample
invariant-loop-sample l = Totalling (length l.side) (λ (j : ℕ). get_or l.side j 0) 255 l.sum l.sample-index
