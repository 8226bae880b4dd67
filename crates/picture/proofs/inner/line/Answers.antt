use mathlib.Core.Path.{ap, ◌∙◌}
use borrow.Author.Rules.{rules}
use lib.ListN.{get_or}
use Rattle.std.proofs.lemmas.List.{places}
use Rattle.lists.proofs.Tab.{filling_none, filling_more, filling_done, get_d_tab}
use Rattle.picture.proofs.Pasted.{run_pasted}
use Rattle.picture.proofs.inner.line.Goals as goal

pub loop-k-init : goal.loop-k-init
loop-k-init c = filling_none _ _ (search (rules, places))

pub loop-k-preserved : goal.loop-k-preserved
loop-k-preserved c = filling_more _ _ c.loop-k.invariant (search rules) c.sample.ensures

pub returns : goal.returns
returns c =
    let a = c.args in
    let g = c.loop-k.invariant in
    run_pasted a.out.now c.loop-k.one-items a.place a.count c.requires.1 g.long _
    (λ k h. ap (λ l. get_or l k 0) (filling_done _ _ g (search rules)) ∙ get_d_tab _ _ k 0 h)
