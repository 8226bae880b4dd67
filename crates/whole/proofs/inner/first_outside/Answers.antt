use Rattle.std.proofs.Common.{rules, not, ◌∙◌, tests}
use Rattle.std.proofs.lemmas.Iterator.{YieldsList-from_slice}
use Rattle.std.proofs.lemmas.Iterator.Search.{position_from_yields_List}
use Rattle.whole.specs.Range.{inside}
use Rattle.whole.proofs.Range.{first_position}
use Rattle.whole.proofs.inner.first_outside.Goals as goal

pub returns : goal.returns
returns c =
    let a = c.args in
    position_from_yields_List (λ z. not (inside a.low a.high z)) _ _ c.position.result c.position.ensures.ran (YieldsList-from_slice a.x.now cc) (λ x b q k. search (rules, tests))
    ∙ first_position a.low a.high a.x.now
