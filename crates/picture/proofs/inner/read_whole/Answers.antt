use mathlib.Core.Path.{◌≡◌, refl, ◌∙◌}
use Prim.Native.Nat.{◌*◌}
use native.Mathlib.Omega.{arith}
use Rattle.lists.specs.Tab.{grid}
use Rattle.picture.specs.Plane.{stride}
use Rattle.picture.specs.Whole.{whole_column, whole_row}
use Rattle.picture.proofs.Plane.{block_by}
use Rattle.picture.proofs.Rows.{no_rows, row_at, row_read, stored_in_turn}
use Rattle.picture.proofs.inner.read_whole.Invariants.{rule}
use Rattle.picture.proofs.inner.read_whole.Goals as goal

pub loop-y-init : goal.loop-y-init
loop-y-init c = (omega arith, no_rows _ _ (c.args.s * c.args.s) c.args.s _)

-- the row that is read lies in the plane, and its place in what is lent
pub copy_row-requires : goal.copy_row-requires
copy_row-requires c =
    let r = c.requires in
    row_at r.among.0 c.args.s r.among.1 r.among.2 c.whole_place-first.ensures r.plane_len.0 (c.loop-y.invariant.1.long ∙ r.plane_len.1) c.loop-y.y c.loop-y-test.true

pub loop-y-preserved : goal.loop-y-preserved
loop-y-preserved c =
    let a = c.args in
    (omega arith, row_read a.s c.loop-y-test.true (rule a.plane.now (a.s * a.layout.width) c.whole_place-first.result) _ c.copy_row.ensures c.loop-y.invariant.1 (λ i h. refl))

pub returns : goal.returns
unfolding grid
returns c =
    let a = c.args in
    let z : c.loop-y.y ≡ a.s = omega arith in
    rw (block_by a.s (stride a.s a.layout) (whole_column a.s a.layout a.m) (whole_row a.s a.layout a.m) a.plane.now, ← c.whole_place-first.ensures)
    (stored_in_turn (rw z at c.loop-y.invariant.1) (omega arith) c.requires.plane_len.1)
