-- `picture::inner::block_at` meets its contract: sample k at place k, from row k / 4 and column k % 4. Assumes nothing.
use Prim.Native.Nat.{◌+◌, ◌*◌, ◌/◌, ◌%◌}
use borrow.Author.Rules.{rules}
use lib.ListN.{get_or}
use Rattle.lists.specs.Tab.{grid}
use Rattle.lists.proofs.Made.{made_tab}
use Rattle.picture.proofs.Plane.{block_by}
use Rattle.picture.proofs.inner.block_at.Goals as goal

pub returns : goal.returns
unfolding grid
returns c =
    let a = c.args in
    rw (block_by 4 a.stride a.x a.y a.plane.now)
    (made_tab _ _ _ 16 (λ k. get_or a.plane.now (a.y * a.stride + a.x + k / 4 * a.stride + k % 4) 0) (λ k y q h p. search rules) c.from_fn.ensures.items)
