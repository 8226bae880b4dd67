-- `residual::inner::placed` meets its contract: the order of the table of steps. Assumes nothing.
use mathlib.Core.Path.{ap, ◌∙◌}
use mathlib.Core.List.{List}
use Prim.Native.Nat.{ℕ}
use lib.ListN.{get_or}
use Rattle.residual.specs.Order.{ordered, in_places}
use Rattle.residual.proofs.inner.placed.Goals as goal

pub returns : goal.returns
unfolding in_places
returns c = c.in_order.ensures ∙ ap (λ (t : List ℕ). ordered 16 (λ k. get_or t k 0) c.args.l.now) c.steps.ensures
