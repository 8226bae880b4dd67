-- `chroma::search::consider` meets its contract: what is permitted is weighed by the sum of both SADs. Assumes nothing.
use mathlib.Core.Path.{sym, ◌∙◌}
use Rattle.chroma.proofs.Found.{looked_past}
use Rattle.chroma.proofs.search.consider.Goals as goal

pub returns-else-permitted : goal.returns-else-permitted
returns-else-permitted c =
    let a = c.args in
    looked_past a.flags a.cb_neighbours.now a.cr_neighbours.now a.cb_samples.now a.cr_samples.now a.mode a.best (sym c.permitted.ensures ∙ c.if-permitted.false)
