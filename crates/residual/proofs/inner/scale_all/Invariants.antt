-- `residual::inner::scale_all` meets its contract: a store in each place, of the number there rescaled. Assumes nothing.
use lib.IntN.{pos, ◌+ℤ◌, ◌*ℤ◌}
use lib.ListN.{length, get_or}
use Rattle.lists.proofs.Stores.{Storing}
use Rattle.whole.specs.Notation.{◌>>◌}
use Rattle.residual.proofs.inner.scale_all.Given as goal

abbrev pub invariant-loop-k : goal.invariant-loop-k
invariant-loop-k l =
    Storing (λ i. i) (λ i. (get_or l.initial.numbers i (pos 0) *ℤ pos (get_or l.scale i 0) +ℤ pos l.round) >> l.shift) (length l.initial.numbers) l.initial.numbers l.numbers l.k
