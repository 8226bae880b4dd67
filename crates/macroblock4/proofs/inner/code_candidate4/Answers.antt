-- `macroblock4::inner::code_candidate4` meets its contract: a loop over the sixteen blocks, each with its part of the levels. Assumes nothing.
use mathlib.Core.Path.{refl, ◌∙◌}
use borrow.Author.Rules.{rules}
use Rattle.macroblock4.proofs.Coding.{blocks_none, blocks_more, blocks_done}
use Rattle.macroblock4.proofs.inner.code_candidate4.Goals as goal

pub loop-b-init : goal.loop-b-init
loop-b-init c = blocks_none _ _ _ _ _ (search rules) refl (search rules)

pub loop-b-preserved : goal.loop-b-preserved
loop-b-preserved c =
    let e = c.code_turn-turn.ensures in
    blocks_more _ _ _ _ _ c.loop-b.invariant c.loop-b-test.true e.mode_value (c.from-sad.ensures ∙ e.cost_value) (search rules) e.levels_after e.rebuilt_after (search rules)

pub returns-clause-sad_value : goal.returns-clause-sad_value
returns-clause-sad_value c = (blocks_done _ _ _ _ _ c.loop-b.invariant c.loop-b-test.false).sum_is

pub returns-clause-rebuilt_after : goal.returns-clause-rebuilt_after
returns-clause-rebuilt_after c = (blocks_done _ _ _ _ _ c.loop-b.invariant c.loop-b-test.false).rebuilt_is
