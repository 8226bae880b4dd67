-- `picture::inner::four` meets its contract: sample k at place k, or none. Assumes nothing.
use Prim.Native.Nat.{◌+◌, ◌*◌, ◌-◌}
use borrow.Author.Rules.{rules}
use lib.ListN.{get_or}
use Rattle.lists.specs.Tab.{tab}
use Rattle.lists.proofs.Made.{made_tab}
use Rattle.picture.proofs.inner.four.Goals as goal

pub returns-then-present : goal.returns-then-present
returns-then-present c =
    let a = c.args in
    rw c.if-present.true (made_tab _ _ _ 4 (λ k. get_or a.rows.samples.now (a.rows.at - a.back + k * a.step) 0) (λ k y q h p. search rules) c.from_fn.ensures.items)

pub returns-else-present : goal.returns-else-present
unfolding tab
returns-else-present c = rw c.if-present.false
