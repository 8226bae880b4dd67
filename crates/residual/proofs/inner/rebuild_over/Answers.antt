-- `residual::inner::rebuild_over` meets its contract: inverse, then the addition. Assumes nothing.
use mathlib.Core.Path.{sym, ap, subst, ◌∙◌}
use Rattle.whole.specs.Bounds.{Each}
use Rattle.whole.proofs.Lists.{each_less}
use Rattle.transform.specs.Inverse.{inverse}
use Rattle.transform.proofs.Bounds.{inverse_each}
use Rattle.residual.specs.Rebuild.{added, rebuilt_samples}
use Rattle.residual.proofs.inner.rebuild_over.Goals as goal

pub add-requires : goal.add-requires
add-requires c =
    let d = c.args.numbers in
    (c.requires.0, subst (Each 1000000) (sym c.inverse_block.ensures) (each_less 8192 1000000 (inverse d) (inverse_each d c.requires.1) tt))

pub returns : goal.returns
unfolding rebuilt_samples
returns c =
    c.add.ensures ∙ ap (added 16 c.args.samples.now) c.inverse_block.ensures
