use Rattle.std.proofs.Common.{arith, rules}
use Rattle.lists.proofs.Tab.{squaring_none, squaring_more, squaring_done}
use Rattle.chroma.proofs.quarters.put_quarters.Goals as goal

pub loop-y-init : goal.loop-y-init
loop-y-init c = squaring_none _ _ (omega arith)

pub loop-x-preserved : goal.loop-x-preserved
loop-x-preserved c = squaring_more _ _ c.loop-x.invariant (omega arith) (omega arith) (search rules)

pub returns : goal.returns
returns c = squaring_done _ _ c.loop-y.invariant (omega arith)
