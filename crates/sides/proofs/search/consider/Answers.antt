-- `sides::search::consider` meets its contract: what is permitted is weighed by its own samples. Assumes nothing.
use mathlib.Core.Path.{sym, ◌∙◌}
use Rattle.sides.proofs.Found.{looked_past}
use Rattle.sides.proofs.search.consider.Goals as goal

pub returns-else-permitted : goal.returns-else-permitted
returns-else-permitted c =
    looked_past c.args.neighbours.now _ _ c.args.samples.now _ (sym c.permitted.ensures ∙ c.if-permitted.false)
