-- `intra4::rules::horizontal` meets its contract. Assumes nothing.
use borrow.Author.Rules.{rules}
use Rattle.intra4.specs.Rules.{horizontal}
use Rattle.intra4.proofs.Places.{past_at}
use Rattle.intra4.proofs.rules.horizontal.Goals as goal

pub returns : goal.returns
unfolding horizontal
returns c = simp past_at (search rules)
