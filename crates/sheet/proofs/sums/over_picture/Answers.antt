use borrow.Author.Rules.{rules}
use native.Mathlib.Omega.{arith}
use Rattle.picture.proofs.Plane.{samples_fit}
use Rattle.sheet.specs.Code.{present_total}
use Rattle.sheet.proofs.Adding.{adding_none, adding_more, adding_done}
use Rattle.sheet.proofs.sums.over_picture.Goals as goal

pub loop-m-init : goal.loop-m-init
loop-m-init c = adding_none _ _ _ _ _ (search rules)

pub loop-m-preserved : goal.loop-m-preserved
loop-m-preserved c = adding_more _ _ _ _ _ c.loop-m.invariant (omega (arith, c.requires.2)) c.part.ensures c.add.ensures

pub returns : goal.returns
unfolding present_total
returns c = adding_done _ _ _ _ _ c.loop-m.invariant (omega (arith, c.requires.2)) (omega (arith, samples_fit c.requires.0))
