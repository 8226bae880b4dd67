-- `dc::inner::luma_values` meets its contract: to raster order, through H, rescaled. Assumes nothing.
use mathlib.Core.List.{List}
use mathlib.Core.Path.{ap, ◌∙◌}
use lib.IntN.{ℤ}
use Rattle.transform.specs.Hadamard.{H4, hadamard}
use Rattle.transform.proofs.Sides.{kept}
use Rattle.residual.specs.Order.{in_places}
use Rattle.dc.specs.Dc.{luma_scaled, luma_values}
use Rattle.residual.proofs.Order.{places_each}
use Rattle.dc.proofs.Values.{luma_back}
use Rattle.dc.proofs.inner.luma_values.Goals as goal

pub hadamard4-g-requires : goal.hadamard4-g-requires
hadamard4-g-requires c = kept 32768 c.in_places.ensures (places_each 32768 c.args.levels c.requires.1)

pub luma_scaled-requires : goal.luma_scaled-requires
luma_scaled-requires c =
    let placed = places_each 32768 c.args.levels c.requires.1 in
    (c.requires.0, kept 524288 (c.hadamard4-g.ensures ∙ ap (hadamard 4 H4) c.in_places.ensures) (luma_back (in_places c.args.levels) placed))

pub returns : goal.returns
unfolding luma_values
returns c =
    c.luma_scaled.ensures
    ∙ ap (λ (g : List ℤ). luma_scaled c.args.quantizer.qp g) (c.hadamard4-g.ensures ∙ ap (hadamard 4 H4) c.in_places.ensures)
