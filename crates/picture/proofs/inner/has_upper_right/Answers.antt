-- `picture::inner::has_upper_right` meets its contract: there is a row above, the four samples lie in it, and their block comes earlier.
-- Assumes nothing.
use native.Mathlib.Omega.{arith}
use Rattle.std.proofs.lemmas.Bool.Decides.{nat_tests}
use Rattle.picture.proofs.Byte.{among_four, upper_right_is}
use Rattle.picture.proofs.Plane.{room_among}
use Rattle.picture.proofs.inner.has_upper_right.Goals as goal

pub overflow_add-column : goal.overflow_add-column
overflow_add-column c = omega (arith, c.column.ensures, (room_among c.requires).wide)

pub returns-then-column-layout : goal.returns-then-column-layout
returns-then-column-layout c = let is = upper_right_is (among_four c.requires) in grind (arith, nat_tests, is)

pub returns-else-column-layout : goal.returns-else-column-layout
returns-else-column-layout c = let is = upper_right_is (among_four c.requires) in grind (arith, nat_tests, is)
