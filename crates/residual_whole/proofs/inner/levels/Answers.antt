-- `residual_whole::inner::levels` meets its contract: the blocks coded, then the DC levels in front. Assumes nothing.
use mathlib.Core.Path.{◌≡◌, ap, ◌∙◌}
use Prim.Native.Nat.{ℕ}
use lib.ListN.{length}
use Rattle.dc.specs.Dc.{dc_levels}
use Rattle.residual_whole.specs.Area.{blocks_of}
use Rattle.residual_whole.proofs.Levels.{length_dc, coded_whole}
use Rattle.residual_whole.proofs.inner.levels.Goals as goal

pub returns : goal.returns
returns c =
    let a = c.args in
    let e = c.blocks_to_levels.ensures in
    -- a DC coefficient for each block, and the levels of the coefficients
    let many : length c.blocks_to_levels.new.coefficients ≡ blocks_of a.s = ap length e.coefficients_after.0 ∙ length_dc a.s a.samples.now a.prediction.now in
    let front : c.levels_over.new.dc ≡ dc_levels (blocks_of a.s) a.quantizer.qp c.blocks_to_levels.new.coefficients =
    c.levels_over.ensures ∙ ap (λ (n : ℕ). dc_levels n a.quantizer.qp c.blocks_to_levels.new.coefficients) many in
    coded_whole a.s c.requires.0 a.quantizer.qp a.samples.now a.prediction.now a.levels.now c.requires.4 e.coefficients_after.0 e.levels_after (c.copy.ensures ∙ front)
