use mathlib.Core.Path.{◌≡◌, ◌∙◌}
use Prim.Native.Nat.{◌*◌}
use native.Mathlib.Omega.{arith}
use Rattle.lists.proofs.Stores.{storing_done}
use Rattle.picture.specs.Plane.{stride}
use Rattle.picture.specs.Whole.{whole_column, whole_row}
use Rattle.picture.proofs.Plane.{stored_by}
use Rattle.picture.proofs.Rows.{no_rows, row_at, row_stored}
use Rattle.picture.proofs.inner.store_whole.Goals as goal

pub loop-y-init : goal.loop-y-init
loop-y-init c = (omega arith, no_rows _ _ (c.args.s * c.args.s) c.args.s _)

-- the row that is stored to lies in the plane, and the one that is read in what is lent
pub copy_row-requires : goal.copy_row-requires
copy_row-requires c =
    let r = c.requires in
    let at = row_at r.among.0 c.args.s r.among.1 r.among.2 c.whole_place-first.ensures (c.loop-y.invariant.1.long ∙ r.plane_len.0) r.plane_len.1 c.loop-y.y c.loop-y-test.true in
    (at.1, at.0)

pub loop-y-preserved : goal.loop-y-preserved
loop-y-preserved c =
    let a = c.args in
    (omega arith, row_stored a.s c.loop-y-test.true (a.s * a.layout.width) c.whole_place-first.result a.samples.now c.copy_row.ensures c.loop-y.invariant.1)

pub returns : goal.returns
returns c =
    let a = c.args in
    let z : c.loop-y.y ≡ a.s = omega arith in
    rw (stored_by a.s (stride a.s a.layout) (whole_column a.s a.layout a.m) (whole_row a.s a.layout a.m) a.samples.now a.plane.now, ← c.whole_place-first.ensures)
    (storing_done _ _ (a.s * a.s) (rw z at c.loop-y.invariant.1) (omega arith))
