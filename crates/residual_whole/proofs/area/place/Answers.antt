-- `residual_whole::area::place` meets its contract: the row and the column of a block are those of its place. Assumes nothing.
use mathlib.Core.Path.{◌≡◌}
use Prim.Native.Nat.{◌+◌, ◌*◌, ◌/◌}
use Rattle.residual_whole.specs.Area.{raster_place}
use Rattle.residual_whole.proofs.Blocks.{place_lt}
use Rattle.residual_whole.proofs.area.place.Goals as goal

pub returns : goal.returns
unfolding raster_place
returns c =
    let e : c.args.s / 4 * c.row_inside.result + c.column_inside.result ≡ raster_place c.args.s c.args.b =
    (λ i. c.args.s / 4 * c.row_inside.ensures.0 i + c.column_inside.ensures.0 i) in
    (e, rw e (place_lt c.args.s c.requires.0 c.args.b c.requires.1))
