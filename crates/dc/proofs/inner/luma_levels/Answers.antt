-- `dc::inner::luma_levels` meets its contract: through H, a level for each place, the zigzag. Assumes nothing.
use borrow.Author.Rules.{rules}
use mathlib.Core.Path.{◌≡◌, ap, ◌∙◌}
use native.Mathlib.Omega.{arith}
use lib.ListN.{length}
use Rattle.whole.proofs.Lists.{each_less}
use Rattle.transform.specs.Hadamard.{H4, hadamard}
use Rattle.transform.proofs.Sides.{kept}
use Rattle.residual.specs.Order.{in_zigzag}
use Rattle.dc.specs.Dc.{luma_levels}
use Rattle.dc.proofs.Levels.{luma_around, quantized_is}
use Rattle.dc.proofs.inner.luma_levels.Goals as goal
use Rattle.dc.proofs.inner.luma_levels.Goals.{After-unwrap-w, After-hadamard4-t}

same : (c : After-unwrap-w) → c.unwrap-w.result ≡ c.args.dc.now
same c = search rules

-- sixteen numbers
many : (c : After-hadamard4-t) → length c.hadamard4-t.result ≡ 16
many c = search rules

pub hadamard4-t-requires : goal.hadamard4-t-requires
hadamard4-t-requires c =
    kept 32768 (same (goal.at.hadamard4-t-requires c).After-unwrap-w) (each_less 4080 32768 c.args.dc.now c.requires.2 tt)

pub quantized_dc-requires : goal.quantized_dc-requires
quantized_dc-requires c =
    (c.requires.0, kept 65280 c.hadamard4-t.ensures (luma_around _ (kept 4080 (same (goal.at.quantized_dc-requires c).After-unwrap-w) c.requires.2)), omega (arith, many c.before), omega arith)

pub returns : goal.returns
unfolding luma_levels
returns c =
    c.copy.ensures ∙ c.in_zigzag-ordered.ensures ∙ ap in_zigzag (quantized_is 16 2 c.args.quantizer.qp c.quantized_dc.ensures (many c.before.before.before.before.before.before.before.before) (c.hadamard4-t.ensures ∙ ap (hadamard 4 H4) (same (goal.at.returns c).After-unwrap-w)))
