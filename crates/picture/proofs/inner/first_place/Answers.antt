-- `picture::inner::first_place` meets its contract.
-- Assumes nothing.
use native.Mathlib.Omega.{arith}
use Rattle.picture.proofs.Plane.{samples_fit, first_in_law}
use Rattle.picture.proofs.inner.first_place.Goals as goal

pub overflow_mul-result-2 : goal.overflow_mul-result-2
overflow_mul-result-2 c =
    let p = c.requires in
    rw c.row.ensures (omega (arith, samples_fit p.sound, first_in_law p))

pub overflow_add-result : goal.overflow_add-result
overflow_add-result c =
    let p = c.requires in
    rw (c.column.ensures, c.row.ensures) (omega (arith, samples_fit p.sound, first_in_law p))
