-- `picture::inner::has_left` meets its contract: there is a column at the left.
-- Assumes nothing.
use Rattle.picture.proofs.Byte.{among_four, left_is}
use Rattle.picture.proofs.inner.has_left.Goals as goal

pub returns : goal.returns
returns c = rw (c.column.ensures, left_is (among_four c.requires))
