-- `residual_whole::coded::blocks_to_levels` meets its contract: a loop over the blocks. Assumes nothing.
use Prim.Native.Nat.{◌-◌}
use Rattle.residual_whole.proofs.Levels.{Coding}
use Rattle.residual_whole.proofs.coded.blocks_to_levels.Given as goal

abbrev pub invariant-loop-b : goal.invariant-loop-b
invariant-loop-b l = Coding l.s l.quantizer.qp l.samples l.prediction l.initial.levels l.initial.coefficients l.levels l.coefficients l.b

abbrev pub decreases-loop-b : goal.decreases-loop-b
decreases-loop-b l = l.count - l.b
