-- `dc::inner::values_over` meets its contract: the count tells the path. Assumes nothing.
use borrow.Author.Rules.{rules}
use mathlib.Core.Path.{◌≡◌, ap, ◌∙◌}
use native.Mathlib.Omega.{arith}
use lib.ListN.{length}
use Rattle.dc.specs.Dc.{luma_values, chroma_values, dc_values}
use Rattle.dc.proofs.Levels.{of_sixteen, of_four}
use Rattle.dc.proofs.inner.values_over.Goals as goal

pub returns-then-dc-eq16 : goal.returns-then-dc-eq16
unfolding dc_values
returns-then-dc-eq16 c =
    let same : c.unwrap-levels.result ≡ c.args.dc.now = search rules in
    let made = c.copy.ensures ∙ c.luma_values.ensures ∙ ap (luma_values _) same in
    made ∙ of_sixteen (length c.args.dc.now) _ (chroma_values c.args.quantizer.qp c.args.dc.now) (omega arith)

pub returns-else-dc-eq16 : goal.returns-else-dc-eq16
unfolding dc_values
returns-else-dc-eq16 c =
    let same : c.unwrap-levels-else-dc-eq16.result ≡ c.args.dc.now = search rules in
    let made = c.copy-else-dc-eq16.ensures ∙ c.chroma_values.ensures ∙ ap (chroma_values _) same in
    made ∙ of_four (length c.args.dc.now) (luma_values c.args.quantizer.qp c.args.dc.now) _ (λ e. omega arith)
