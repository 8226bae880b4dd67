-- `sides::inner::choose` meets its contract: the best mode is permitted, and is filled last. Assumes nothing.
use native.Mathlib.Omega.{arith}
use Rattle.sides.proofs.Found.{found_permitted, found}
use Rattle.sides.proofs.inner.choose.Goals as goal

pub fill-requires : goal.fill-requires
fill-requires c =
    (c.requires.0, found_permitted c.args.neighbours.now _ c.args.samples.now c.best-best.ensures, omega arith)

pub returns : goal.returns
returns c =
    found c.args.neighbours.now _ c.args.samples.now c.best-best.ensures c.fill.ensures
