use native.Mathlib.Omega.{arith}
use borrow.Author.Rules.{rules}
use Rattle.lists.proofs.Tab.{filling_none, filling_more}
use Rattle.intra4.proofs.fills.put_all.Goals as goal

pub loop-mode-init : goal.loop-mode-init
loop-mode-init c = filling_none _ _ (search rules)

pub loop-mode-preserved : goal.loop-mode-preserved
loop-mode-preserved c = filling_more _ _ c.loop-mode.invariant (omega arith) c.put.ensures
