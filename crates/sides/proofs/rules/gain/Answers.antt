-- `sides::rules::gain` meets its contract. Assumes nothing.
use mathlib.Core.Path.{refl}
use borrow.Author.Tests.{eq-eqb, ne_eqb}
use native.Mathlib.Omega.{arith}
use Rattle.sides.specs.Plane.{gain}
use Rattle.sides.proofs.rules.gain.Goals as goal

pub returns-then-n-eq8 : goal.returns-then-n-eq8
unfolding gain
returns-then-n-eq8 c = rw (eq-eqb _ _ c.if-n-eq8.true) (refl, record { size = omega arith })

pub returns-else-n-eq8 : goal.returns-else-n-eq8
unfolding gain
returns-else-n-eq8 c = rw (ne_eqb _ _ c.if-n-eq8.false) (refl, record { size = omega arith })
