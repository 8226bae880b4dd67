use native.Mathlib.Omega.{arith}
use Rattle.choice.proofs.Looking.{looking_none, looking_more, looking_done}
use Rattle.sides.specs.Choice.{chosen}
use Rattle.sides.proofs.search.best.Goals as goal

pub loop-mode-preserved : goal.loop-mode-preserved
loop-mode-preserved c = (looking_more _ _ c.loop-mode.invariant.0 (omega arith) c.consider-best.ensures, omega arith)

pub returns : goal.returns
unfolding chosen
returns c = looking_done _ _ c.loop-mode.invariant.0 (omega arith)

pub loop-mode-init : goal.loop-mode-init
loop-mode-init c = (looking_none _ _ c.unsettled-best.ensures, omega arith)
