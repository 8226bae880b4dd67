-- `chroma::quarters::put_quarters` meets its contract: two loops that store the quarter's mean. Assumes nothing.
use Prim.Native.Nat.{ℕ, ◌-◌, ◌/◌}
use Rattle.lists.proofs.Tab.{Squaring}
use Rattle.chroma.specs.Code.{quarter_at}
use Rattle.chroma.proofs.quarters.put_quarters.Given as goal

abbrev pub invariant-loop-x : goal.invariant-loop-x
invariant-loop-x l = Squaring 8 (λ (u v : ℕ). quarter_at l.means (u / 4) (v / 4)) l.out l.y l.x

abbrev pub decreases-loop-x : goal.decreases-loop-x
decreases-loop-x l = 8 - l.x

abbrev pub invariant-loop-y : goal.invariant-loop-y
invariant-loop-y l = Squaring 8 (λ (u v : ℕ). quarter_at l.means (u / 4) (v / 4)) l.out l.y 0

abbrev pub decreases-loop-y : goal.decreases-loop-y
decreases-loop-y l = 8 - l.y
