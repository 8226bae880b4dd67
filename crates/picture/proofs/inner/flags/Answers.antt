-- `picture::inner::flags` meets its contract: a bit for each group of neighbours.
-- Assumes nothing.
use Rattle.picture.proofs.Byte.{among_four, flags_by, four_bits}
use Rattle.picture.proofs.inner.flags.Goals as goal

pub returns : goal.returns
returns c =
    rw (
      flags_by (among_four c.requires),
      c.from-4.ensures,
      c.has_upper_right.ensures,
      c.from-3.ensures,
      c.has_corner.ensures,
      c.from-2.ensures,
      c.has_left.ensures,
      c.from.ensures,
      c.has_above.ensures,
    )
    (four_bits _ _ _ _)
