-- `picture::inner::store_block` meets its contract. Assumes nothing.
use Rattle.picture.proofs.Plane.{room_among}
use Rattle.picture.proofs.inner.store_block.Goals as goal

pub store_at-requires : goal.store_at-requires
store_at-requires c =
    let r = room_among c.requires.among in
    rw (c.column-x.ensures, c.row-y.ensures, c.requires.plane_len) (r.wide, r.high)
