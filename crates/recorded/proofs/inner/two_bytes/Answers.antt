use Rattle.std.proofs.Common.{◌<◌, ap, ◌∙◌, arith, w16}
use Rattle.std.specs.Int.{from_le_bytes}
use Rattle.recorded.proofs.LowFirst.{low_two}
use Rattle.recorded.proofs.inner.two_bytes.Goals as goal

pub returns : goal.returns
returns c =
    let small : c.from_le_bytes.result < 65536 = c.from_le_bytes.type_inv in
    (c.from.ensures ∙ c.from_le_bytes.ensures ∙ ap (from_le_bytes w16) c.bytes.ensures ∙ low_two c.args.part.now c.args.place, omega (arith, c.from.ensures))
