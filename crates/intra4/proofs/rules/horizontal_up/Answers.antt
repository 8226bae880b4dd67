-- `intra4::rules::horizontal_up` meets its contract, by z. Assumes nothing.
use mathlib.Core.Path.{◌≡◌}
use Prim.Native.Nat.{◌+◌, ◌*◌, ◌/◌, ◌%◌}
use native.Mathlib.Omega.{arith}
use borrow.Author.Rules.{rules}
use borrow.Author.Tests.{lt-ltb, le-ltb, eq-eqb, ne_eqb}
use Rattle.intra4.specs.Rules.{horizontal_up}
use Rattle.intra4.proofs.Places.{past_at, low_even, low_odd, high}
use Rattle.intra4.proofs.rules.horizontal_up.Goals as goal

pub returns-in-0 : goal.returns-in-0
unfolding horizontal_up
returns-in-0 c =
    let a = c.args in
    let z = low_even (a.x + 2 * a.y) c.in-0.is in
    simp (le-ltb 5 (a.x + 2 * a.y) (omega arith), ne_eqb (a.x + 2 * a.y) 5 (λ e. omega arith), eq-eqb ((a.x + 2 * a.y) % 2) 0 z.1, past_at)
    c.two.ensures

pub returns-in-1 : goal.returns-in-1
unfolding horizontal_up
returns-in-1 c =
    let a = c.args in
    let z = low_odd (a.x + 2 * a.y) c.in-1.is in
    let p : a.y + a.x / 2 + 1 + 2 ≡ a.y + a.x / 2 + 2 + 1 = omega arith in
    simp (le-ltb 5 (a.x + 2 * a.y) (omega arith), ne_eqb (a.x + 2 * a.y) 5 (λ e. omega arith), ne_eqb ((a.x + 2 * a.y) % 2) 0 z.1, past_at)
    (simp p at c.three.ensures)

pub returns-in-5 : goal.returns-in-5
unfolding horizontal_up
returns-in-5 c =
    let a = c.args in
    simp (le-ltb 5 (a.x + 2 * a.y) (omega arith), eq-eqb (a.x + 2 * a.y) 5 (omega arith), past_at) c.avg3.ensures

pub returns-in_default : goal.returns-in_default
unfolding horizontal_up
returns-in_default c =
    let a = c.args in
    simp (lt-ltb 5 (a.x + 2 * a.y) (high (a.x + 2 * a.y) (search rules) (search rules) (search rules)), past_at)
