-- `block::inner::coded` meets its contract: the choice, its residual's levels, and the samples that these rebuild; the prediction itself where it
-- lacks nothing. Assumes nothing.
use native.Mathlib.Omega.{arith}
use borrow.Author.Rules.{rules}
use mathlib.Core.Path.{◌≡◌, refl, sym, ap, subst}
use mathlib.Core.List.{List}
use Prim.Native.Nat.{ℕ}
use lib.ListN.{length}
use Rattle.lists.specs.Bytes.{Bytes}
use Rattle.lists.specs.Tab.{tab}
use Rattle.lists.proofs.Bytes.{bytes_known}
use Rattle.whole.specs.Bounds.{Each}
use Rattle.intra4.specs.Samples.{mask}
use Rattle.intra4.specs.Entry.{Picks}
use Rattle.intra4.specs.declared.inner.Choice.{Choice}
use Rattle.intra4.proofs.Bytes.{predicted_bytes}
use Rattle.residual.specs.Rescale.{rescaled}
use Rattle.block.proofs.Carries.{levels_small, coded_small, numbers_small, carried, nothing_carried}
use Rattle.block.proofs.inner.coded.Goals as goal

-- the prediction is bytes, since the neighbours are
shown_bytes : (n samples : List ℕ) (f : ℕ) (x : Choice) → Picks (mask n f) samples x → Bytes n → Bytes x.prediction
shown_bytes n samples f x p near = subst Bytes (sym p.prediction) (predicted_bytes n f near x.mode)

pub rebuilt-rebuilt-requires : goal.rebuilt-rebuilt-requires
rebuilt-rebuilt-requires c =
    let q = c.requires.0 in
    let qp = c.args.quantizer.qp in
    let x = c.lacking.result in
    let small = c.lacking.ensures.1 in
    (q, shown_bytes c.args.neighbours.now _ _ _ c.chosen-mode.ensures (bytes_known _ c.type_inv.neighbours), subst (Each 32768) (sym c.quantized-raster.ensures) (levels_small qp x q small), subst (Each 32768) (sym (ap (rescaled qp) c.quantized-raster.ensures)) (numbers_small qp x q small))

pub returns-then-sad-gt0 : goal.returns-then-sad-gt0
returns-then-sad-gt0 c =
    carried _ _ _ c.chosen-mode.result c.chosen-mode.ensures c.lacking.ensures.0 c.quantized-raster.ensures c.in_zigzag-levels.ensures c.rebuilt-rebuilt.ensures
    (coded_small c.args.quantizer.qp c.lacking.result c.requires.0 c.lacking.ensures.1)

pub returns-else-sad-gt0 : goal.returns-else-sad-gt0
unfolding tab
returns-else-sad-gt0 c =
    let sixteen : length c.chosen-mode.result.prediction ≡ 16 = search rules in
    nothing_carried c.args.quantizer.qp c.requires.0 _ c.args.samples.now c.chosen-mode.result c.chosen-mode.ensures c.requires.2 sixteen (shown_bytes c.args.neighbours.now _ _ _ c.chosen-mode.ensures (bytes_known _ c.type_inv.neighbours)) (omega (arith, c.if-sad-gt0.false)) refl
