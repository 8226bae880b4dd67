-- `sides::inner::fill` meets its contract: what is put, mode by mode, is what the mask leaves. Assumes nothing.
use mathlib.Core.Path.{◌≡◌, ap, ◌∙◌}
use Prim.Native.Nat.{ℕ}
use native.Mathlib.Omega.{arith}
use borrow.Author.Rules.{rules}
use lib.ListN.{replicate}
use Rattle.sides.proofs.Masked.{mode_below_4, vertical_is, horizontal_is, dc_is, plane_is}
use Rattle.sides.proofs.inner.fill.Goals as goal

pub returns-in-0 : goal.returns-in-0
returns-in-0 c =
    vertical_is c.args.neighbours.now _ _ c.requires.1 c.in-0.is c.put_side.ensures

pub returns-in-1 : goal.returns-in-1
returns-in-1 c =
    horizontal_is c.args.neighbours.now _ _ c.requires.1 c.in-1.is c.put_side-in-1.ensures

pub returns-in-2 : goal.returns-in-2
returns-in-2 c =
    dc_is c.args.neighbours.now _ _ c.requires.1 c.in-2.is c.flag.ensures c.flag-in-2.ensures c.mean.ensures
    (c.fill.ensures.after (λ y h. search rules) ∙ ap (λ (n : ℕ). replicate n c.mean.result) c.requires.2)

pub returns-in_default : goal.returns-in_default
returns-in_default c =
    let three : c.args.mode ≡ 3 = omega (arith, mode_below_4 c.args.flags c.args.mode c.requires.1) in
    plane_is c.args.neighbours.now _ _ c.requires.1 three (omega arith) (omega arith) c.put_plane.ensures
