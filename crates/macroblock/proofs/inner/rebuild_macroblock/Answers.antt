-- `macroblock::inner::rebuild_macroblock` meets its contract: the samples of its step, stored. Assumes nothing.
use mathlib.Core.Path.{ap, ◌∙◌}
use mathlib.Core.List.{List}
use Prim.Native.Nat.{ℕ}
use native.Mathlib.Omega.{arith}
use Rattle.picture.specs.Whole.{with_whole}
use Rattle.picture.proofs.Over.{step_stored}
use Rattle.macroblock.proofs.Looks.{rebuilt_step_law}
use Rattle.macroblock.proofs.inner.rebuild_macroblock.Goals as goal

pub returns : goal.returns
returns c =
    let a = c.args in
    let some = c.requires.among.0.sound.some in
    let among = c.requires.among.0.macroblock in
    c.store_whole.ensures
    ∙ ap (λ (block : List ℕ). with_whole 16 a.layout a.m block a.plane.now) c.rebuild_beside.ensures
    ∙ step_stored 16 (omega arith) a.layout some a.m among (rebuilt_step_law a.layout some a.m among a.part.now) a.plane.now c.requires.among.2
