-- `residual_whole::inner::dc_fits` meets its contract: as many values as blocks. Assumes nothing.
use mathlib.Core.Path.{◌≡◌, ap, ◌∙◌}
use lib.Dec.{eqb}
use lib.ListN.{length}
use Rattle.residual.specs.Entry.{first_wide}
use Rattle.residual_whole.specs.Area.{blocks_of}
use Rattle.residual_whole.specs.Rebuilt.{dc_fits}
use Rattle.residual_whole.proofs.Samples.{length_values}
use Rattle.residual_whole.proofs.inner.dc_fits.Goals as goal

pub returns : goal.returns
unfolding dc_fits
returns c =
    let a = c.args in
    let many : length c.dc_values.new.values ≡ blocks_of a.s = ap length c.dc_values.ensures ∙ length_values a.s c.requires.0 a.quantizer.qp a.levels.now in
    c.all_fit.ensures ∙ (λ i. eqb (first_wide (c.dc_values.ensures i)) (many i))
