-- `residual_whole::rebuilt::all_samples` meets its contract: a loop over the blocks. Assumes nothing.
use Prim.Native.Nat.{◌-◌}
use Rattle.residual_whole.specs.Rebuilt.{block_samples}
use Rattle.residual_whole.proofs.Blocks.{Putting}
use Rattle.residual_whole.proofs.rebuilt.all_samples.Given as goal

abbrev pub invariant-loop-b : goal.invariant-loop-b
invariant-loop-b l = Putting l.s (block_samples l.s l.quantizer.qp l.prediction l.levels) l.out l.b

abbrev pub decreases-loop-b : goal.decreases-loop-b
decreases-loop-b l = l.count - l.b
