-- `intra4::rules::sum_of_four` meets its contract. Assumes nothing.
use borrow.Author.Rules.{rules}
use lib.Seq.{get_or-drop}
use Rattle.lists.specs.Total.{total}
use Rattle.intra4.proofs.rules.sum_of_four.Goals as goal

pub returns : goal.returns
unfolding total
returns c = simp get_or-drop (search rules)
