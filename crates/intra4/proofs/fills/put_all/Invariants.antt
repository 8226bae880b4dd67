-- `intra4::fills::put_all` meets its contract: one loop over the modes. Assumes nothing.
use Rattle.lists.proofs.Tab.{Filling}
use Rattle.intra4.specs.Code.{filled}
use Rattle.intra4.proofs.fills.put_all.Given as goal

abbrev pub invariant-loop-mode : goal.invariant-loop-mode
invariant-loop-mode l = Filling 9 (filled l.rows.top l.rows.left l.rows.flags) l.area l.mode
