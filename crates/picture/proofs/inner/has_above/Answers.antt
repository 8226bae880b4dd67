-- `picture::inner::has_above` meets its contract: there is a row above, in the slice.
-- Assumes nothing.
use Rattle.picture.proofs.Byte.{among_four, above_is}
use Rattle.picture.proofs.inner.has_above.Goals as goal

pub returns : goal.returns
returns c = rw (c.row_in_slice.ensures, above_is (among_four c.requires))
