-- `residual::rebuild_with_dc` meets its contract: the first tests are `levels_accepted`, the last one and the samples are `finished`. Assumes nothing.
use mathlib.Core.Path.{refl, sym, ap, subst, ◌∙◌}
use mathlib.Core.List.{List, ◌∷◌, append-nil}
use Prim.Native.Nat.{zero-le}
use lib.IntN.{ℤ, pos}
use lib.ListN.{length}
use Rattle.whole.specs.Bounds.{Each}
use Rattle.residual.specs.Order.{in_places}
use Rattle.residual.proofs.Entry.{levels_legal}
use Rattle.residual.proofs.Order.{places_each}
use Rattle.residual.proofs.rebuild_with_dc.Goals as goal

pub rescaled-numbers-requires : goal.rescaled-numbers-requires
rescaled-numbers-requires c =
    let a = c.args in
    let f = levels_legal 15 1 a.qp (length a.prediction.now) a.ac.now (length a.out.now) c.in_ok-quantizer.ensures refl in
    -- the levels are the AC levels behind a 0, where the DC's level would stand
    let filled = ap (λ (t : List ℤ). pos 0 ∷ t) (append-nil c.copy.new.to ∙ c.copy.ensures) in
    (rw f.number f.legal, subst (Each 32768) (sym (c.in_places.ensures ∙ ap in_places filled)) (places_each 32768 (pos 0 ∷ a.ac.now) (record { size = zero-le }, f.small)))
