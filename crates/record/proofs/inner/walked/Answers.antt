-- `record::inner::walked` meets its contract: the fault of the walk, or what is left behind its end. Assumes nothing.
use mathlib.Core.Path.{sym, ◌∙◌}
use Rattle.std.proofs.Common.{rules}
use Rattle.record.proofs.Walks.{late_there}
use Rattle.record.proofs.inner.walked.Goals as goal

pub map_err-requires : goal.map_err-requires
map_err-requires c e is =
    let a = c.args in
    let h = late_there a.colour a.file.now a.start a.count e.fault e.place (sym c.walk.ensures ∙ is) in
    search rules
