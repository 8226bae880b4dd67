-- `dc::inner::levels_over` meets its contract: the count tells the path. Assumes nothing.
use mathlib.Core.Path.{◌∙◌}
use native.Mathlib.Omega.{arith}
use lib.ListN.{length}
use Rattle.dc.specs.Dc.{luma_levels, chroma_levels, dc_levels}
use Rattle.dc.proofs.Levels.{of_sixteen, of_four}
use Rattle.dc.proofs.inner.levels_over.Goals as goal

pub returns-then-dc-eq16 : goal.returns-then-dc-eq16
unfolding dc_levels
returns-then-dc-eq16 c = c.luma_levels.ensures ∙ of_sixteen (length c.args.dc.now) _ (chroma_levels c.args.quantizer.qp c.args.dc.now) (omega arith)

pub returns-else-dc-eq16 : goal.returns-else-dc-eq16
unfolding dc_levels
returns-else-dc-eq16 c = c.chroma_levels.ensures ∙ of_four (length c.args.dc.now) (luma_levels c.args.quantizer.qp c.args.dc.now) _ (λ e. omega arith)
