-- `dc::inner::chroma_levels` meets its contract: through the 2x2 H, and a level for each. Assumes nothing.
use borrow.Author.Rules.{rules}
use mathlib.Core.Path.{◌≡◌, ap, ◌∙◌}
use native.Mathlib.Omega.{arith}
use lib.ListN.{length}
use Rattle.whole.proofs.Lists.{each_less}
use Rattle.transform.specs.Hadamard.{H2, hadamard}
use Rattle.transform.proofs.Sides.{kept}
use Rattle.dc.specs.Dc.{chroma_levels}
use Rattle.dc.proofs.Levels.{chroma_around, quantized_is}
use Rattle.dc.proofs.inner.chroma_levels.Goals as goal
use Rattle.dc.proofs.inner.chroma_levels.Goals.{After-unwrap-w, After-hadamard2-t}

same : (c : After-unwrap-w) → c.unwrap-w.result ≡ c.args.dc.now
same c = search rules

-- four numbers
many : (c : After-hadamard2-t) → length c.hadamard2-t.result ≡ 4
many c = search rules

pub hadamard2-t-requires : goal.hadamard2-t-requires
hadamard2-t-requires c =
    kept 32768 (same (goal.at.hadamard2-t-requires c).After-unwrap-w) (each_less 4080 32768 c.args.dc.now c.requires.2 tt)

pub quantized_dc-requires : goal.quantized_dc-requires
quantized_dc-requires c =
    (c.requires.0, kept 65280 c.hadamard2-t.ensures (chroma_around _ (kept 4080 (same (goal.at.quantized_dc-requires c).After-unwrap-w) c.requires.2)), omega (arith, many c.before), omega arith)

pub returns : goal.returns
unfolding chroma_levels
returns c =
    c.copy.ensures ∙ quantized_is 4 1 c.args.quantizer.qp c.quantized_dc.ensures (many c.before.before.before.before.before.before.before) (c.hadamard2-t.ensures ∙ ap (hadamard 2 H2) (same (goal.at.returns c).After-unwrap-w))
