-- `intra4::inner::pick` meets its contract: a mode that fits exactly, or else the area holds all nine predictions and the best is copied from it.
-- Assumes nothing.
use mathlib.Core.Path.{refl, sym, ◌∙◌}
use mathlib.Core.Bool.{false≢true}
use borrow.Author.Rules.{rules}
use Rattle.intra4.specs.Rules.{vertical}
use Rattle.intra4.specs.Code.{past_corner}
use Rattle.intra4.proofs.Area.{area_is, picked, picked_mode}
use Rattle.intra4.proofs.Exact.{vertical_fits, vertical_fails, horizontal_fits, vertical_picked, horizontal_picked}
use Rattle.intra4.proofs.inner.pick.Goals as goal
use Rattle.intra4.proofs.inner.pick.Goals.{else-flag-via-then-flag+else-fits, else-flag-via-else-flag}

-- vertical prediction fits
pub returns-then-fits : goal.returns-then-fits
returns-then-fits c =
    let r = c.resolve-rows.ensures in
    vertical_picked c.args.neighbours.now _ c.args.samples.now c.requires.0 c.requires.1 r.0 r.1
    (vertical_fits _ _ _ _ (sym c.flag.ensures ∙ c.if-flag.true) ((c.fits.ensures _ (λ x y v a b p. search rules)).0 c.if-fits.true))
    refl
    c.copy_from_slice.ensures.after

-- horizontal prediction does
pub returns-then-fits-2 : goal.returns-then-fits-2
returns-then-fits-2 c =
    let r = c.resolve-rows.ensures in
    horizontal_picked c.args.neighbours.now _ c.args.samples.now c.requires.0 c.requires.1 r.0 r.1
    (vertical_fails c.resolve-rows.result.top c.resolve-rows.result.left c.args.flags c.args.samples.now (λ p q. elim c.else-flag.branch [
      | else-flag-via-then-flag+else-fits w ↦ false≢true (sym w.if-fits.false ∙ (w.fits.ensures (vertical (past_corner c.resolve-rows.result.top)) (λ x y v a b p. search rules)).1 q)
      | else-flag-via-else-flag w ↦ false≢true (sym w.if-flag.false ∙ c.flag.ensures ∙ p)
    ]))
    refl
    (horizontal_fits _ _ _ _ (sym c.flag-2.ensures ∙ c.if-flag-2.true) ((c.fits-then-flag-2.ensures _ (λ x y v a b p. search rules)).0 c.if-fits-2.true))
    refl
    c.copy_from_slice-then-fits-2.ensures.after

-- what is found in the area is a mode
pub bounds-area-from : goal.bounds-area-from
bounds-area-from c =
    let r = c.resolve-rows.ensures in
    rw c.from.ensures (picked_mode c.args.neighbours.now _ c.args.samples.now c.requires.0 r.0 r.1 (area_is _ _ c.put_all.ensures r.2) c.best-mode.ensures)

-- neither fits
pub returns : goal.returns
returns c =
    let r = c.resolve-rows.ensures in
    picked c.args.neighbours.now _ c.args.samples.now c.requires.0 r.0 r.1 (area_is _ _ c.put_all.ensures r.2) c.best-mode.ensures (rw c.from.ensures at c.copy_from_slice-2.ensures.after)
