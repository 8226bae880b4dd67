-- `macroblock4::code::code_turn` meets its contract: a block coded beside its neighbours in the rebuilt plane. Assumes nothing.
use mathlib.Core.Path.{refl, ◌∙◌}
use Rattle.picture.specs.Plane.{gathered}
use Rattle.macroblock4.proofs.Coding.{BlockCoded, block_coded, turn_coded}
use Rattle.macroblock4.proofs.code.code_turn.Goals as goal
use Rattle.macroblock4.proofs.code.code_turn.Goals.{After-store_block}

coded_at : (c : After-store_block)
    → BlockCoded c.args.layout c.args.quantizer.qp c.args.plane.now c.args.m c.args.b (gathered 4 c.args.layout c.args.m c.args.b c.args.rebuilt.now) c.coded-mode.result
coded_at c = block_coded _ _ c.args.plane.now _ _ c.args.rebuilt.now c.coded-mode.result c.flags-flags.ensures c.gather-neighbours.ensures c.read_block-samples.ensures c.coded-mode.ensures

pub returns-clause-mode_value : goal.returns-clause-mode_value
returns-clause-mode_value c = (coded_at (goal.at.returns-clause-mode_value c).After-store_block).mode

pub returns-clause-cost_value : goal.returns-clause-cost_value
returns-clause-cost_value c = (coded_at (goal.at.returns-clause-cost_value c).After-store_block).sad

pub returns-clause-levels_after : goal.returns-clause-levels_after
returns-clause-levels_after c = c.copy.ensures ∙ (coded_at (goal.at.returns-clause-levels_after c).After-store_block).levels

pub returns-clause-rebuilt_after : goal.returns-clause-rebuilt_after
returns-clause-rebuilt_after c =
    let a = c.args in
    turn_coded _ _ a.plane.now _ _ a.rebuilt.now c.coded-mode.result (coded_at (goal.at.returns-clause-rebuilt_after c).After-store_block) c.store_block.ensures refl
