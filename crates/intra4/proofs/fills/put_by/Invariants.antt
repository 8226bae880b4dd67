-- `intra4::fills::put_by` meets its contract: two loops that store what the rule gives in raster order. Assumes nothing.
use Prim.Native.Nat.{ℕ}
use Rattle.lists.proofs.Tab.{Squaring}
use Rattle.intra4.specs.Code.{Gives}
use Rattle.intra4.proofs.fills.put_by.Given as goal

abbrev pub invariant-loop-x : goal.invariant-loop-x
invariant-loop-x g l = (h : ℕ → ℕ → ℕ) → Gives (goal.F-post g l.rule) h → Squaring 4 h l.out l.y l.x

abbrev pub invariant-loop-y : goal.invariant-loop-y
invariant-loop-y g l = (h : ℕ → ℕ → ℕ) → Gives (goal.F-post g l.rule) h → Squaring 4 h l.out l.y 0
