use Rattle.std.proofs.Common.{ap, ◌∙◌, w64}
use Rattle.std.specs.Int.{from_le_bytes}
use Rattle.recorded.proofs.LowFirst.{low_eight}
use Rattle.recorded.proofs.inner.eight_bytes.Goals as goal

pub returns : goal.returns
returns c = c.from_le_bytes.ensures ∙ ap (from_le_bytes w64) c.bytes.ensures ∙ low_eight c.args.part.now c.args.place
