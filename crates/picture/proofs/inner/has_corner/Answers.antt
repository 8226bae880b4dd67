-- `picture::inner::has_corner` meets its contract: there are a row above and a column at the left.
-- Assumes nothing.
use mathlib.Core.Path.{sym, ◌∙◌}
use Rattle.picture.proofs.Byte.{among_four, corner_is}
use Rattle.picture.proofs.inner.has_corner.Goals as goal

pub returns-then-has_above : goal.returns-then-has_above
returns-then-has_above c =
    rw (corner_is (among_four c.requires), sym c.has_above.ensures ∙ c.if-has_above.true) c.has_left.ensures

pub returns-else-has_above : goal.returns-else-has_above
returns-else-has_above c =
    rw (corner_is (among_four c.requires), sym c.has_above.ensures ∙ c.if-has_above.false) c.if-has_above.false
