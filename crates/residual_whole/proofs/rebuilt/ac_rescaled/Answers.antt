-- `residual_whole::rebuilt::ac_rescaled` meets its contract. Assumes nothing.
use mathlib.Core.Path.{sym, ap, subst, ◌∙◌}
use mathlib.Core.List.{List}
use lib.IntN.{ℤ, pos}
use lib.ListN.{set}
use Rattle.whole.specs.Bounds.{Each}
use Rattle.residual.specs.Order.{in_zigzag}
use Rattle.residual.specs.Rescale.{rescaled}
use Rattle.residual_whole.specs.Rebuilt.{ac_numbers}
use Rattle.residual_whole.proofs.Samples.{places_small}
use Rattle.residual_whole.proofs.rebuilt.ac_rescaled.Goals as goal

pub rescaled-numbers-requires : goal.rescaled-numbers-requires
rescaled-numbers-requires c =
    (c.requires.1, subst (Each 32768) (sym c.ac.ensures) (places_small c.args.s c.args.levels.now c.args.b c.requires.3))

pub returns : goal.returns
unfolding ac_numbers
returns c =
    c.in_zigzag.ensures ∙ ap (λ (l : List ℤ). in_zigzag (set l 0 (pos 0))) (c.rescaled-numbers.ensures ∙ ap (rescaled _) c.ac.ensures)
