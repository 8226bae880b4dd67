-- `intra4::rules::vertical` meets its contract. Assumes nothing.
use borrow.Author.Rules.{rules}
use Rattle.intra4.specs.Rules.{vertical}
use Rattle.intra4.proofs.Places.{past_at}
use Rattle.intra4.proofs.rules.vertical.Goals as goal

pub returns : goal.returns
unfolding vertical
returns c = simp past_at (search rules)
