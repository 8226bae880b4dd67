-- `sides::rules::slope` meets its contract: the difference of two small sums. Assumes nothing.
use mathlib.Core.Path.{sym, ap₂, ◌∙◌}
use mathlib.Core.List.{[], ◌∷◌}
use Prim.Native.Nat.{ℕ, ◌≤◌}
use native.Mathlib.Omega.{arith}
use lib.IntN.{pos, ◌-ℤ◌}
use mir.Syntax.{w32}
use Rattle.whole.specs.Bounds.{Within, Each}
use Rattle.whole.proofs.Laws.{diff_self, diff_minus}
use Rattle.whole.proofs.Bound.{within_by}
use Rattle.whole.proofs.Steps.{inp, sub, exact}
use Rattle.sides.proofs.Slope.{slope_is}
use Rattle.sides.proofs.rules.slope.Goals as goal

-- two numbers of at most 16320
small : {a b : ℕ} → a ≤ 16320 → b ≤ 16320 → Each 16320 (pos a ∷ pos b ∷ [])
small h k = (record { size = h }, (record { size = k }, tt))

close_by : {a b : ℕ} → a ≤ 16320 → b ≤ 16320 → Within 16320 (pos a -ℤ pos b)
close_by {a} {b} h k = within_by 16320 (diff_minus (diff_self (pos a)) (diff_self (pos b))) (omega arith) (omega arith)

pub returns : goal.returns
returns c =
    let p = c.rising.ensures in
    let q = c.falling.ensures in
    let e = exact w32 16320 (pos c.rising.result ∷ pos c.falling.result ∷ []) (small p.1 q.1) (sub (inp 0) (inp 1)) tt in
    rw e (ap₂ (λ (a b : ℕ). pos a -ℤ pos b) p.0 q.0 ∙ sym (slope_is _ _ _), close_by p.1 q.1)
