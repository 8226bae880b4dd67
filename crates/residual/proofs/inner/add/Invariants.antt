-- `residual::inner::add` meets its contract: a store in each place, of what is made of the sample there. Assumes nothing.
use lib.IntN.{pos, ◌+ℤ◌}
use lib.ListN.{length, get_or}
use Rattle.lists.proofs.Stores.{Storing}
use Rattle.whole.specs.Clip.{clip}
use Rattle.residual.proofs.inner.add.Given as goal

abbrev pub invariant-loop-place : goal.invariant-loop-place
invariant-loop-place l = Storing (λ i. i) (λ k. clip 255 (pos (get_or l.initial.samples k 0) +ℤ get_or l.residual k (pos 0))) (length l.initial.samples) l.initial.samples l.samples l.place
