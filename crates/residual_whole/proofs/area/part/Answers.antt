-- `residual_whole::area::part` meets its contract. Assumes nothing.
use Rattle.residual_whole.proofs.Blocks.{room}
use Rattle.residual_whole.proofs.area.part.Goals as goal

pub block_at-requires : goal.block_at-requires
block_at-requires c =
    let r = room c.args.s c.args.b c.requires.0 c.requires.2 c.requires.1 in
    rw (c.column_inside-x.ensures.0, c.row_inside-y.ensures.0) (r.wide, r.high)
