use native.Mathlib.Omega.{arith}
use Rattle.lists.proofs.Total.{totalling_none, totalling_more, totalling_done}
use Rattle.sides.specs.Code.{rising}
use Rattle.sides.proofs.rules.rising.Goals as goal

pub returns : goal.returns
unfolding rising
returns c = (totalling_done _ _ _ c.loop-i.invariant (omega arith), omega arith)

pub loop-i-init : goal.loop-i-init
loop-i-init c = totalling_none _ _ _

pub loop-i-preserved : goal.loop-i-preserved
loop-i-preserved c = totalling_more _ _ _ c.loop-i.invariant (omega arith) c.weighted-sum.ensures.0 c.weighted-sum.ensures.1
