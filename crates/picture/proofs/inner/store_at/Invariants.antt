-- `picture::inner::store_at` meets its contract: a loop whose stores are scattered.
-- Assumes nothing.
use Prim.Native.Nat.{ℕ, ◌+◌, ◌*◌, ◌/◌, ◌%◌}
use lib.ListN.{get_or}
use Rattle.lists.proofs.Stores.{Storing}
use Rattle.picture.proofs.inner.store_at.Given as goal

-- where sample k goes, of the block whose first stands at place `at`
abbrev pub goes : (stride at : ℕ) → ℕ → ℕ
goes stride at k = at + k / 4 * stride + k % 4

abbrev pub invariant-loop-k : goal.invariant-loop-k
invariant-loop-k l = Storing (goes l.stride l.at) (λ i. get_or l.sample-items i 0) 16 l.initial.plane l.plane l.k
