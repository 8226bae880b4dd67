-- `residual::inner::add` meets its contract: a store in each place, of what is made of the sample there. Assumes nothing.
use mathlib.Core.Path.{refl, ap, ◌∙◌}
use Prim.Native.Nat.{ℕ}
use native.Mathlib.Omega.{arith}
use lib.IntN.{pos, ◌+ℤ◌}
use lib.ListN.{get_or}
use mir.Syntax.{w32}
use Rattle.lists.specs.Tab.{tab}
use Rattle.lists.proofs.Stores.{storing_none, storing_more, storing_done, storing_ahead, stores_in_turn}
use Rattle.whole.specs.Clip.{clip}
use Rattle.whole.proofs.Bound.{argument, within}
use Rattle.whole.proofs.Steps.{each_at}
use Rattle.residual.specs.Rebuild.{added}
use Rattle.residual.proofs.inner.add.Goals as goal

pub sample-requires : goal.sample-requires
sample-requires c =
    within (argument w32 (each_at 1000000 c.args.residual c.requires.1 c.loop-place.place) tt)

pub loop-place-preserved : goal.loop-place-preserved
loop-place-preserved c =
    let l = c.loop-place in
    storing_more _ _ _ l.invariant (omega (arith, c.requires.0)) refl
    (c.sample.ensures
    ∙ (λ t. clip 255 (pos (storing_ahead _ _ l.place 0 l.invariant (omega arith) t) +ℤ (argument w32 (each_at 1000000 c.args.residual c.requires.1 l.place) tt).is t)))

pub returns : goal.returns
unfolding added
returns c =
    storing_done _ _ _ c.loop-place.invariant (omega (arith, c.requires.0))
    ∙ stores_in_turn _ c.args.samples.now
    ∙ ap (λ (n : ℕ). tab n (λ place. clip 255 (pos (get_or c.args.samples.now place 0) +ℤ get_or c.args.residual place (pos 0)))) c.requires.0

pub loop-place-init : goal.loop-place-init
loop-place-init c = storing_none _ _ _ _
