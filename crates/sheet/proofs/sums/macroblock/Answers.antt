use borrow.Author.Rules.{rules}
use native.Mathlib.Omega.{arith}
use Rattle.sheet.proofs.Adding.{adding_none, adding_more, adding_done}
use Rattle.sheet.proofs.sums.macroblock.Goals as goal

pub loop-y-preserved : goal.loop-y-preserved
loop-y-preserved c =
    adding_more _ _ _ _ _ c.loop-y.invariant c.loop-y-test.true c.row.ensures c.add.ensures

pub returns : goal.returns
returns c = adding_done _ _ _ _ _ c.loop-y.invariant (omega arith) (omega arith)

pub loop-y-init : goal.loop-y-init
loop-y-init c = adding_none _ _ _ _ _ (search rules)
