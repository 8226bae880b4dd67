-- `residual_whole::coded::blocks_to_levels` meets its contract: a loop over the blocks. Assumes nothing.
use native.Mathlib.Omega.{arith}
use borrow.Author.Rules.{rules}
use mir.Syntax.{w32}
use Rattle.whole.proofs.Bound.{argument}
use Rattle.residual_whole.proofs.Levels.{coding_none, coding_more, coding_dc}
use Rattle.residual_whole.proofs.coded.blocks_to_levels.Goals as goal

pub loop-b-init : goal.loop-b-init
loop-b-init c = coding_none _ _ _ _ _ _ c.requires.sided.0 c.requires.coefficients_len.1 c.requires.coefficients_len.0

pub loop-b-preserved : goal.loop-b-preserved
loop-b-preserved c =
    let r = c.block_to_levels.ensures.value in
    coding_more _ _ _ _ _ _ c.requires.sided.0 c.loop-b.invariant (omega arith) c.place-place.ensures.0 r.0 r.1 (argument w32 r.1 tt).is c.block_to_levels.ensures.ac_after (search rules)

pub returns-clause-coefficients_after : goal.returns-clause-coefficients_after
returns-clause-coefficients_after c = coding_dc _ _ _ _ _ _ c.requires.sided.0 c.loop-b.invariant (omega arith)
