-- `intra4::rules::down_left` meets its contract: x + y is 6 at (3,3) only. Assumes nothing.
use mathlib.Core.Path.{◌≡◌}
use mathlib.Core.Bool.{false, ◌&&◌}
use Prim.Native.Nat.{◌+◌}
use native.Mathlib.Omega.{arith}
use borrow.Author.Tests.{eq-eqb}
use lib.Dec.{eqb}
use Rattle.intra4.specs.Rules.{down_left}
use Rattle.intra4.proofs.Places.{corner_only, past_at}
use Rattle.intra4.proofs.rules.down_left.Goals as goal

pub returns-in-6 : goal.returns-in-6
unfolding down_left
returns-in-6 c =
    let a = c.args in
    simp (eq-eqb a.x 3 (omega arith), eq-eqb a.y 3 (omega arith), past_at) c.avg3.ensures

pub returns-in_default : goal.returns-in_default
unfolding down_left
returns-in_default c =
    let a = c.args in
    let p : a.x + a.y + 1 + 2 ≡ a.x + a.y + 2 + 1 = omega arith in
    let o : (eqb a.x 3 && eqb a.y 3) ≡ false = corner_only a.x a.y (λ e. omega arith) in
    simp (o, past_at) (simp p at c.three.ensures)
