use Rattle.std.proofs.Common.{ap, ◌∙◌, w32, to_z}
use Rattle.std.proofs.lemmas.Int.{to_z-of_z}
use Rattle.std.specs.Int.{from_le_bytes}
use Rattle.recorded.proofs.LowFirst.{low_four}
use Rattle.recorded.proofs.inner.four_signed.Goals as goal

pub returns : goal.returns
returns c =
    to_z-of_z w32 c.from_le_bytes.result (record { sfits = c.from_le_bytes.type_inv })
    ∙ c.from_le_bytes.ensures
    ∙ ap (λ l. to_z w32 (from_le_bytes w32 l)) c.bytes.ensures
    ∙ ap (to_z w32) (low_four c.args.part.now c.args.place)
