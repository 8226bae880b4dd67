-- `sheet::sums::row` meets its contract: a loop over sixteen samples. Assumes nothing.
use Prim.Native.Nat.{ℕ, ◌+◌}
use Rattle.sheet.specs.Code.{of_sums}
use Rattle.sheet.proofs.Adding.{Adding}
use Rattle.sheet.proofs.sums.row.Given as goal

abbrev pub invariant-loop-x : goal.invariant-loop-x
invariant-loop-x l = Adding 16 1 (λ (g : ℕ → ℕ) i. g (l.at + i)) l.original l.rebuilt (of_sums l.sums) l.x
