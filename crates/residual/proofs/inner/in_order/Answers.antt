-- `residual::inner::in_order` meets its contract: number k from the place that the table names. Assumes nothing.
use borrow.Author.Rules.{rules}
use lib.IntN.{pos}
use lib.ListN.{get_or}
use Rattle.lists.proofs.Made.{made_tab}
use Rattle.residual.proofs.inner.in_order.Goals as goal

pub returns : goal.returns
returns c =
    let a = c.args in
    made_tab _ _ _ 16 (λ k. get_or a.l.now (get_or a.table k 0) (pos 0)) (λ k y q h p. search rules) c.from_fn.ensures.items
