-- `plane::inner::rebuild_plane` meets its contract: a loop over macroblocks, each by its own luma record. Assumes nothing.
use mathlib.Core.Path.{◌≡◌}
use Prim.Native.Nat.{◌*◌}
use lib.ListN.{length}
use Rattle.lists.proofs.Fold.{Folding}
use Rattle.picture.specs.Plane.{plane_length}
use Rattle.macroblock.specs.Rebuild.{rebuilt_step}
use Rattle.plane.specs.Decode.{luma_number, luma_in}
use Rattle.plane.proofs.Walking.{Walking}
use Rattle.plane.proofs.inner.rebuild_plane.Given as goal

abbrev pub invariant-loop-m : goal.invariant-loop-m
invariant-loop-m l =
    (length l.plane ≡ plane_length 16 l.layout)
    × Walking l.layout l.file l.start l.place (luma_number l.file l.start l.m)
    × Folding (l.layout.width * l.layout.height) (λ k. rebuilt_step l.layout k (luma_in l.file l.start k)) l.initial.plane l.plane l.m
