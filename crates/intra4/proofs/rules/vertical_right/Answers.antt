-- `intra4::rules::vertical_right` meets its contract, by z. Assumes nothing.
use Prim.Native.Nat.{◌-◌, ◌*◌, ◌/◌, ◌%◌}
use native.Mathlib.Omega.{arith}
use borrow.Author.Rules.{rules}
use borrow.Author.Tests.{eq-eqb, ne_eqb}
use Rattle.intra4.specs.Rules.{vertical_right}
use Rattle.intra4.proofs.Places.{past_at, corner_at, two_back, three_back, three_down, z_positive, z_minus_one, z_below, odd_z, even_z}
use Rattle.intra4.proofs.rules.vertical_right.Goals as goal

-- z = -2, -3
pub returns-in-0 : goal.returns-in-0
unfolding vertical_right
returns-in-0 c =
    let a = c.args in
    let k = three_down a.s.now a.y (omega arith) in
    simp (z_below a.x a.y (omega arith)) (rw (k.0, k.1, k.2) (omega (arith, c.three-in-0.ensures)))

-- z = -1
pub returns-in-2 : goal.returns-in-2
unfolding vertical_right
returns-in-2 c =
    let a = c.args in
    simp (z_minus_one a.x a.y (omega arith), past_at, corner_at) c.avg3.ensures

-- z = 1, 3, 5
pub returns-in-4 : goal.returns-in-4
unfolding vertical_right
returns-in-4 c =
    let a = c.args in
    let z = odd_z a.x a.y c.in-4.is in
    let k = three_back a.t.now a.x (a.y / 2) z.2 in
    simp (z_positive a.x a.y z.0, ne_eqb ((2 * a.x - a.y) % 2) 0 z.1) (rw (k.0, k.1, k.2) c.three.ensures)

-- z even, not negative
pub returns-in_default : goal.returns-in_default
unfolding vertical_right
returns-in_default c =
    let a = c.args in
    let z = even_z a.x a.y (omega arith) (omega arith) (search rules) (search rules) in
    let k = two_back a.t.now a.x (a.y / 2) (omega arith) in
    simp (z_positive a.x a.y z.0, eq-eqb ((2 * a.x - a.y) % 2) 0 z.1) (rw (k.0, k.1) c.two.ensures)
