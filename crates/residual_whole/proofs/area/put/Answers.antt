-- `residual_whole::area::put` meets its contract. Assumes nothing.
use Rattle.residual_whole.proofs.Blocks.{room}
use Rattle.residual_whole.proofs.area.put.Goals as goal

pub store_at-requires : goal.store_at-requires
store_at-requires c =
    let r = room c.args.s c.args.b c.requires.0 c.requires.2 c.requires.1 in
    rw (c.column_inside-x.ensures.0, c.row_inside-y.ensures.0) (r.wide, r.high)
