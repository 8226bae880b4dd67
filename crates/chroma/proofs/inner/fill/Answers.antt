-- `chroma::inner::fill` meets its contract: what is put, mode by mode, is what the mask leaves. Assumes nothing.
use mathlib.Core.Path.{◌≡◌}
use native.Mathlib.Omega.{arith}
use Rattle.chroma.proofs.Masked.{mode_below_4, dc_is, horizontal_is, vertical_is, plane_is}
use Rattle.chroma.proofs.inner.fill.Goals as goal

pub returns-in-0 : goal.returns-in-0
returns-in-0 c =
    dc_is c.args.neighbours.now _ _ c.requires.1 c.in-0.is c.flag.ensures c.flag-in-0.ensures c.means.ensures c.put_quarters.ensures

pub returns-in-1 : goal.returns-in-1
returns-in-1 c =
    horizontal_is c.args.neighbours.now _ _ c.requires.1 c.in-1.is c.put_side.ensures

pub returns-in-2 : goal.returns-in-2
returns-in-2 c =
    vertical_is c.args.neighbours.now _ _ c.requires.1 c.in-2.is c.put_side-in-2.ensures

pub returns-in_default : goal.returns-in_default
returns-in_default c =
    let three : c.args.mode ≡ 3 = omega (arith, mode_below_4 c.args.flags c.args.mode c.requires.1) in
    plane_is c.args.neighbours.now _ _ c.requires.1 three (omega arith) (omega arith) c.put_plane.ensures
