-- `transform::inner::round_all` meets its contract: a store in each place, of what is made of the number there.
-- Assumes nothing.
use lib.ListN.{length}
use Rattle.lists.proofs.Stores.{Storing}
use Rattle.transform.specs.Quads.{line}
use Rattle.transform.specs.Inverse.{rounded}
use Rattle.transform.proofs.inner.round_all.Given as goal

abbrev pub invariant-loop-value : goal.invariant-loop-value
invariant-loop-value l = Storing (λ i. i) (λ place. rounded (line l.initial.x place)) (length l.initial.x) l.initial.x l.x l.value-index
