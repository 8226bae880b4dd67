-- `plane::content::contents` meets its contract: a loop that leaves at the first macroblock whose records' content is not fine. Assumes nothing.
use mathlib.Core.Path.{◌≡◌}
use Prim.Native.Nat.{◌*◌, ◌≤◌}
use Rattle.lists.specs.Chain.{chain, pass}
use Rattle.lists.specs.Parts.{parts}
use Rattle.plane.specs.Decode.{luma_number, macroblock_tests}
use Rattle.plane.proofs.Walking.{Walking}
use Rattle.plane.proofs.content.contents.Given as goal

abbrev pub invariant-loop-m : goal.invariant-loop-m
invariant-loop-m l =
    (l.m ≤ l.layout.width * l.layout.height) × Walking l.layout l.file l.start l.place (luma_number l.file l.start l.m) × (chain (parts l.m (macroblock_tests l.layout l.start l.file)) ≡ pass)
