-- `intra4::search::best` meets its contract: a loop that looks at each mode that is permitted. Assumes nothing.
use Rattle.choice.proofs.Looking.{Looking}
use Rattle.intra4.specs.Code.{area_cost}
use Rattle.intra4.proofs.search.best.Given as goal

abbrev pub invariant-loop-mode : goal.invariant-loop-mode
invariant-loop-mode l = Looking 9 (area_cost l.area l.flags l.samples) l.best l.mode
