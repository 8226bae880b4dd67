use mathlib.Core.Path.{◌≡◌}
use lib.ListN.{length}
use Rattle.lists.proofs.Fold.{Folding}
use Rattle.picture.specs.Plane.{turn}
use Rattle.picture.specs.Whole.{with_whole}
use Rattle.macroblock4.specs.Rebuild.{block_from}
use Rattle.macroblock4.proofs.inner.rebuild_beside4.Given as goal

abbrev pub invariant-loop-b : goal.invariant-loop-b
invariant-loop-b l =
    (length l.own ≡ 256) × Folding 16 (turn 4 (block_from l.layout l.part) l.layout l.m) (with_whole 16 l.layout l.m l.initial.own l.plane) (with_whole 16 l.layout l.m l.own l.plane) l.b
