-- `residual::inner::level_all` meets its contract: a store in each place, of the level of the number there. Assumes nothing.
use Prim.Native.Nat.{◌^◌}
use lib.IntN.{pos}
use lib.ListN.{length, get_or}
use Rattle.lists.proofs.Stores.{Storing}
use Rattle.residual.specs.Quantize.{level_by}
use Rattle.residual.proofs.inner.level_all.Given as goal

abbrev pub invariant-loop-k : goal.invariant-loop-k
invariant-loop-k l = Storing (λ i. i) (λ i. level_by (get_or l.mf i 0) l.f (2 ^ l.q) (get_or l.initial.numbers i (pos 0))) (length l.initial.numbers) l.initial.numbers l.numbers l.k
