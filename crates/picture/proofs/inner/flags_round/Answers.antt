-- `picture::inner::flags_round` meets its contract: a bit for each group of neighbours, by those of the first block.
-- Assumes nothing.
use native.Mathlib.Omega.{arith}
use Rattle.picture.proofs.Byte.{three_bits}
use Rattle.picture.proofs.Round.{first_above, first_left, first_corner, flags_round_by}
use Rattle.picture.proofs.inner.flags_round.Goals as goal

pub returns : goal.returns
returns c =
    let a = c.requires in
    rw (
      flags_round_by c.args.layout a.sound.some c.args.m a.macroblock 16 (omega arith) a.sound.rows,
      c.from-3.ensures,
      c.has_corner.ensures,
      c.from-2.ensures,
      c.has_left.ensures,
      c.from.ensures,
      c.has_above.ensures,
      first_above a,
      first_left a,
      first_corner a,
    )
    (three_bits _ _ _)
