use mathlib.Core.Path.{refl}
use Rattle.lists.proofs.Stores.{storing_none, storing_more, storing_done}
use Rattle.picture.proofs.Plane.{stored_by}
use Rattle.picture.proofs.inner.store_at.Goals as goal

pub loop-k-init : goal.loop-k-init
loop-k-init c = storing_none _ _ 16 _

pub loop-k-preserved : goal.loop-k-preserved
loop-k-preserved c = storing_more _ _ 16 c.loop-k.invariant c.loop-k-test.true refl refl

pub returns : goal.returns
returns c =
    let a = c.args in
    rw (stored_by 4 a.stride a.x a.y a.block a.plane.now) (storing_done _ _ 16 c.loop-k.invariant c.loop-k-test.false)
