-- `transform::inner::inverse_block` meets its contract: each row written over, then each column, then each number.
-- Assumes nothing.
use Rattle.transform.specs.Inverse.{back}
use Rattle.transform.proofs.Lines.{ByRows, ByColumns}
use Rattle.transform.proofs.inner.inverse_block.Given as goal

abbrev pub invariant-loop-row : goal.invariant-loop-row
invariant-loop-row l = ByRows 4 back l.initial.x l.x l.row

abbrev pub invariant-loop-column : goal.invariant-loop-column
invariant-loop-column l = ByColumns 4 back l.initial.x l.x l.column
