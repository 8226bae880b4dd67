-- `intra4::rules::vertical_left` meets its contract, by even and odd rows. Assumes nothing.
use mathlib.Core.Path.{◌≡◌}
use Prim.Native.Nat.{◌+◌, ◌/◌, ◌%◌}
use native.Mathlib.Omega.{arith}
use borrow.Author.Rules.{rules}
use borrow.Author.Tests.{eq-eqb, ne_eqb}
use Rattle.intra4.specs.Rules.{vertical_left}
use Rattle.intra4.proofs.Places.{past_at, even_row, odd_row}
use Rattle.intra4.proofs.rules.vertical_left.Goals as goal

pub returns-in-0 : goal.returns-in-0
unfolding vertical_left
returns-in-0 c =
    let a = c.args in
    simp (eq-eqb (a.y % 2) 0 (even_row a.y c.in-0.is), past_at) c.two.ensures

pub returns-in_default : goal.returns-in_default
unfolding vertical_left
returns-in_default c =
    let a = c.args in
    let p : a.x + a.y / 2 + 1 + 2 ≡ a.x + a.y / 2 + 2 + 1 = omega arith in
    simp (ne_eqb (a.y % 2) 0 (odd_row a.y (omega arith) (search rules)), past_at) (simp p at c.three.ensures)
