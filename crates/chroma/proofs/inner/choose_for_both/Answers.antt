-- `chroma::inner::choose_for_both` meets its contract: the best mode is permitted, and is filled last in both planes. Assumes nothing.
use native.Mathlib.Omega.{arith}
use Rattle.chroma.proofs.Found.{found_permitted, found}
use Rattle.chroma.proofs.inner.choose_for_both.Goals as goal

pub fill-requires : goal.fill-requires
fill-requires c =
    let a = c.args in
    (omega arith, found_permitted a.flags a.cb_neighbours.now a.cr_neighbours.now a.cb_samples.now a.cr_samples.now c.best-best.ensures, omega arith)

pub fill-requires-2 : goal.fill-requires-2
fill-requires-2 c =
    let a = c.args in
    (omega arith, found_permitted a.flags a.cb_neighbours.now a.cr_neighbours.now a.cb_samples.now a.cr_samples.now c.best-best.ensures, omega arith)

pub returns : goal.returns
returns c =
    let a = c.args in
    found a.flags a.cb_neighbours.now a.cr_neighbours.now a.cb_samples.now a.cr_samples.now c.best-best.ensures
    c.fill.ensures c.fill-2.ensures
