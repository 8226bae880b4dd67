use native.Mathlib.Omega.{arith}
use Rattle.lists.proofs.Tab.{squaring_none, squaring_more, squaring_done}
use Rattle.intra4.proofs.fills.put_by.Goals as goal

pub loop-y-init : goal.loop-y-init
loop-y-init g c = λ h k. squaring_none _ _ (omega arith)

pub loop-x-preserved : goal.loop-x-preserved
loop-x-preserved g c = λ h k. squaring_more _ _ (c.loop-x.invariant h k) (omega arith) (omega arith) (k _ _ _ (omega arith) (omega arith) c.rule.ensures)

pub returns : goal.returns
returns g c = λ h k. squaring_done _ _ (c.loop-y.invariant h k) (omega arith)
