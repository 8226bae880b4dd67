-- `block::inner::lacking` meets its contract: place by place the difference of two bytes. Assumes nothing.
use borrow.Author.Rules.{rules}
use lib.IntN.{pos, ◌-ℤ◌}
use lib.ListN.{get_or}
use native.Mathlib.Omega.{arith}
use Rattle.lists.proofs.Made.{made_tab}
use Rattle.whole.specs.Bounds.{Within}
use Rattle.whole.proofs.Lists.{each_from}
use Rattle.block.specs.Block.{residual_of}
use Rattle.block.proofs.Made.{made_each}
use Rattle.block.proofs.inner.lacking.Goals as goal

pub returns : goal.returns
unfolding residual_of
returns c =
    let a = c.args in
    let r = c.from_fn.ensures.items in (
      made_tab _ _ _ 16 (λ k. pos (get_or a.samples.now k 0) -ℤ pos (get_or a.prediction k 0)) (λ k y q h p. search rules) r,
      each_from 255 c.from_fn.result (λ k h. made_each _ _ _ 16 (Within 255) (λ j y q l p. search rules) r k (pos 0) (omega (arith, h, r.long))),
    )
