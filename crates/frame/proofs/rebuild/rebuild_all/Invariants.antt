-- `frame::rebuild::rebuild_all` meets its contract: a loop over macroblocks, each by its own records. Assumes nothing.
use mathlib.Core.Path.{◌≡◌}
use Prim.Native.Nat.{◌*◌}
use lib.ListN.{length}
use Rattle.lists.proofs.Fold.{Folding}
use Rattle.record.specs.Records.{qp_in}
use Rattle.picture.specs.Plane.{plane_length}
use Rattle.macroblock_chroma.specs.Rebuild.{cb_step, cr_step}
use Rattle.plane.specs.Decode.{luma_number, luma_in, chroma_in}
use Rattle.plane.proofs.Walking.{Walking}
use Rattle.frame.proofs.rebuild.rebuild_all.Given as goal

abbrev pub invariant-loop-m : goal.invariant-loop-m
invariant-loop-m l =
    (length l.cb ≡ plane_length 8 l.layout) × (length l.cr ≡ plane_length 8 l.layout) × Walking l.layout l.file l.start l.place (luma_number l.file l.start l.m)
    × Folding (l.layout.width * l.layout.height) (λ k. cb_step l.layout k (qp_in (luma_in l.file l.start k)) (chroma_in l.file l.start k)) l.initial.cb l.cb l.m
    × Folding (l.layout.width * l.layout.height) (λ k. cr_step l.layout k (qp_in (luma_in l.file l.start k)) (chroma_in l.file l.start k)) l.initial.cr l.cr l.m
