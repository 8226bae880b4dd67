-- `macroblock4::inner::rebuild_beside4` meets its contract: a loop over the turns of its blocks. Assumes nothing.
use borrow.Author.Rules.{rules}
use Rattle.lists.proofs.Fold.{folding_none, folding_more, folding_done}
use Rattle.macroblock4.proofs.Contents.{fine}
use Rattle.macroblock4.proofs.Rebuilding.{samples_made}
use Rattle.macroblock4.proofs.inner.rebuild_beside4.Goals as goal

pub loop-b-init : goal.loop-b-init
loop-b-init c = (search rules, folding_none _ _ _)

pub rebuild_turn-requires-clause-b_value : goal.rebuild_turn-requires-clause-b_value
rebuild_turn-requires-clause-b_value c =
    let f = fine _ _ _ c.requires.part_value in
    (f.modes _ c.loop-b-test.true, f.ranges _ c.loop-b-test.true)

pub loop-b-preserved : goal.loop-b-preserved
loop-b-preserved c = (search rules, folding_more _ _ _ c.loop-b.invariant.1 c.loop-b-test.true c.rebuild_turn.ensures)

pub returns : goal.returns
returns c =
    let a = c.args in
    let r = c.requires.among in
    samples_made r.0 a.part.now a.own.now a.plane.now r.2 c.loop-b.invariant.0 (folding_done _ _ _ c.loop-b.invariant.1 c.loop-b-test.false)
