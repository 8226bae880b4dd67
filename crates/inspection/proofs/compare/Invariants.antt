-- `inspection::compare` meets its contract: a loop over macroblocks, each rebuilt beside their plane, that leaves at the first sample that differs.
-- Assumes nothing.
use Prim.Native.Nat.{◌*◌}
use Rattle.lists.proofs.First.{Searching}
use Rattle.picture.specs.Plane.{plane_length}
use Rattle.plane.specs.Decode.{luma_number, luma_in, decoded}
use Rattle.plane.proofs.Walking.{Walking}
use Rattle.inspection.specs.Inspect.{differ_at}
use Rattle.inspection.proofs.compare.Given as goal

abbrev pub invariant-loop-m : goal.invariant-loop-m
invariant-loop-m l =
    Walking l.layout l.file l.start l.place (luma_number l.file l.start l.m)
    × Searching (differ_at l.layout (decoded l.layout (luma_in l.file l.start)) l.theirs) (plane_length 16 l.layout) (256 * l.m)
