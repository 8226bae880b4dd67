-- `picture::inner::read_whole` meets its contract: a loop that reads a row at a turn.
-- Assumes nothing.
use mathlib.Core.List.{List}
use Prim.Native.Nat.{ℕ, ◌+◌, ◌*◌, ◌≤◌}
use lib.ListN.{get_or}
use Rattle.lists.specs.Tab.{in_raster}
use Rattle.lists.proofs.Stores.{Storing}
use Rattle.picture.specs.Plane.{stride}
use Rattle.picture.proofs.inner.read_whole.Given as goal

-- the sample in column i of row j of the macroblock whose first stands at place `first`
abbrev pub rule : (plane : List ℕ) (stride first : ℕ) → ℕ → ℕ → ℕ
rule plane stride first i j = get_or plane (first + j * stride + i) 0

abbrev pub invariant-loop-y : goal.invariant-loop-y
invariant-loop-y l = (l.y ≤ l.s) × Storing (λ k. k) (in_raster l.s (rule l.plane l.stride l.first)) (l.s * l.s) l.initial.out l.out (l.y * l.s)
