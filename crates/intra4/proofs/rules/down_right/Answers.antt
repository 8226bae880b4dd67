-- `intra4::rules::down_right` meets its contract: above, on and below the diagonal. Assumes nothing.
use Prim.Native.Nat.{◌<◌}
use native.Mathlib.Nat.{le_of_lt}
use native.Mathlib.Omega.{arith}
use borrow.Author.Tests.{lt-ltb, le-ltb}
use Rattle.intra4.specs.Rules.{down_right}
use Rattle.intra4.proofs.Places.{past_at, corner_at, three_back}
use Rattle.intra4.proofs.rules.down_right.Goals as goal

pub returns-in-0-to-2 : goal.returns-in-0-to-2
unfolding down_right
returns-in-0-to-2 c =
    let a = c.args in
    let b : a.x < a.y = omega arith in
    let k = three_back a.s.now a.y a.x b in
    simp (le-ltb a.y a.x (le_of_lt b), lt-ltb a.x a.y b) (rw (k.0, k.1, k.2) c.three.ensures)

pub returns-in-3 : goal.returns-in-3
unfolding down_right
returns-in-3 c =
    let a = c.args in
    simp (le-ltb a.y a.x (omega arith), le-ltb a.x a.y (omega arith), past_at, corner_at) c.avg3.ensures

pub returns-in-4-to-max : goal.returns-in-4-to-max
unfolding down_right
returns-in-4-to-max c =
    let a = c.args in
    let b : a.y < a.x = omega arith in
    let k = three_back a.t.now a.x a.y b in
    simp (lt-ltb a.y a.x b) (rw (k.0, k.1, k.2) c.three-in-4-to-max.ensures)
