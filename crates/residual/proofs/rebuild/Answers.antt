-- `residual::rebuild` meets its contract: the first tests are `levels_accepted`, the last one and the samples are `finished`. Assumes nothing.
use mathlib.Core.Path.{refl, sym, subst}
use lib.ListN.{length}
use Rattle.whole.specs.Bounds.{Each}
use Rattle.residual.proofs.Entry.{levels_legal}
use Rattle.residual.proofs.Order.{places_each}
use Rattle.residual.proofs.rebuild.Goals as goal

pub rescaled-numbers-requires : goal.rescaled-numbers-requires
rescaled-numbers-requires c =
    let a = c.args in
    let f = levels_legal 16 0 a.qp (length a.prediction.now) a.levels.now (length a.out.now) c.in_ok-quantizer.ensures refl in
    (rw f.number f.legal, subst (Each 32768) (sym c.placed.ensures) (places_each 32768 a.levels.now f.small))
