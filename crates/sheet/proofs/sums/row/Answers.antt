use borrow.Author.Rules.{rules}
use native.Mathlib.Omega.{arith}
use Rattle.sheet.proofs.Adding.{adding_none, adding_more, adding_done}
use Rattle.sheet.proofs.sums.row.Goals as goal

pub loop-x-preserved : goal.loop-x-preserved
loop-x-preserved c =
    adding_more _ _ _ _ _ c.loop-x.invariant c.loop-x-test.true c.one.ensures c.add.ensures

pub returns : goal.returns
returns c = adding_done _ _ _ _ _ c.loop-x.invariant (omega arith) (omega arith)

pub loop-x-init : goal.loop-x-init
loop-x-init c = adding_none _ _ _ _ _ (search rules)
