use Rattle.std.proofs.Common.{◌<◌, ap, ◌∙◌, arith, w32}
use Rattle.std.specs.Int.{from_le_bytes}
use Rattle.recorded.proofs.LowFirst.{low_four}
use Rattle.recorded.proofs.inner.four_bytes.Goals as goal

pub returns : goal.returns
returns c =
    let small : c.from_le_bytes.result < 4294967296 = c.from_le_bytes.type_inv in
    (c.from.ensures ∙ c.from_le_bytes.ensures ∙ ap (from_le_bytes w32) c.bytes.ensures ∙ low_four c.args.part.now c.args.place, omega (arith, c.from.ensures))
