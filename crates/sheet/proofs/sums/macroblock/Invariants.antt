-- `sheet::sums::macroblock` meets its contract: a loop over sixteen rows. Assumes nothing.
use Prim.Native.Nat.{ℕ, ◌+◌, ◌*◌}
use Rattle.sheet.specs.Code.{of_sums, row_total}
use Rattle.sheet.proofs.Adding.{Adding}
use Rattle.sheet.proofs.sums.macroblock.Given as goal

abbrev pub invariant-loop-y : goal.invariant-loop-y
invariant-loop-y l = Adding 16 16 (λ (g : ℕ → ℕ) j. row_total 16 (l.at + j * l.stride) g) l.original l.rebuilt (of_sums l.sums) l.y
