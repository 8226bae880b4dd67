use Rattle.std.proofs.Common.{arith}
use Rattle.choice.proofs.Looking.{looking_none, looking_more, looking_done}
use Rattle.chroma.specs.Choice.{chosen_for_both}
use Rattle.chroma.proofs.search.best.Goals as goal

pub loop-mode-init : goal.loop-mode-init
loop-mode-init c = (looking_none _ _ c.unsettled-best.ensures, omega arith, omega arith)

pub loop-mode-preserved : goal.loop-mode-preserved
loop-mode-preserved c = (looking_more _ _ c.loop-mode.invariant.0 (omega arith) c.consider-best.ensures, omega arith, omega arith)

pub returns : goal.returns
unfolding chosen_for_both
returns c = looking_done _ _ c.loop-mode.invariant.0 (omega arith)
