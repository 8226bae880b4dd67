-- `picture::inner::store_whole` meets its contract: a loop that stores a row at a turn.
-- Assumes nothing.
use Prim.Native.Nat.{ℕ, ◌+◌, ◌*◌, ◌/◌, ◌%◌, ◌≤◌}
use lib.ListN.{get_or}
use Rattle.lists.proofs.Stores.{Storing}
use Rattle.picture.specs.Plane.{stride}
use Rattle.picture.proofs.inner.store_whole.Given as goal

-- where sample k goes, of the macroblock whose first stands at place `first`
abbrev pub goes : (s stride first : ℕ) → ℕ → ℕ
goes s stride first k = first + k / s * stride + k % s

abbrev pub invariant-loop-y : goal.invariant-loop-y
invariant-loop-y l = (l.y ≤ l.s) × Storing (goes l.s l.stride l.first) (λ k. get_or l.samples k 0) (l.s * l.s) l.initial.plane l.plane (l.y * l.s)
