use Rattle.std.proofs.Common.{arith}
use Rattle.lists.proofs.Total.{totalling_none, totalling_more}
use Rattle.sides.proofs.rules.sum_of.Goals as goal

pub loop-sample-init : goal.loop-sample-init
loop-sample-init c = totalling_none _ _ _

pub loop-sample-preserved : goal.loop-sample-preserved
loop-sample-preserved c =
    totalling_more _ _ _ c.loop-sample.invariant (omega arith) c.from-sum.ensures (omega (arith, c.type_inv.side c.loop-sample.sample-index))
