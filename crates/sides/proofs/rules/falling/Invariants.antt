use mathlib.Core.List.{List, ◌∷◌}
use Prim.Native.Nat.{ℕ, ◌+◌, ◌*◌, ◌-◌}
use lib.ListN.{get_or}
use Rattle.lists.proofs.Total.{Totalling}
use Rattle.sides.proofs.rules.falling.Given as goal

-- what is added at j
unfoldable pub term : ℕ → ℕ → List ℕ → ℕ → ℕ
term last corner side j = (j + 1) * get_or (corner ∷ side) (last - j) 0

abbrev pub invariant-loop-i : goal.invariant-loop-i
invariant-loop-i l = Totalling l.last (term l.last l.corner l.side) 2040 l.sum l.i

abbrev pub decreases-loop-i : goal.decreases-loop-i
decreases-loop-i l = l.last - l.i
