-- `residual::inner::scale_all` meets its contract: a store in each place, of the number there rescaled. Assumes nothing.
use borrow.Author.Rules.{rules}
use mathlib.Core.Path.{◌≡◌, refl, sym, ap, subst, ◌∙◌}
use mathlib.Core.List.{List}
use Prim.Native.Nat.{ℕ}
use native.Mathlib.Omega.{arith}
use lib.IntN.{ℤ, pos, ◌+ℤ◌, ◌*ℤ◌}
use lib.ListN.{length, get_or}
use mir.Syntax.{w32}
use mir.Val.{SFits, to_z, of_z}
use mir.ValLaws.{to_z-of_z}
use Rattle.lists.proofs.Stores.{Storing, storing_none, storing_more, storing_done, storing_ahead, stores_in_turn}
use Rattle.whole.specs.Notation.{◌>>◌}
use Rattle.residual.specs.Rescale.{Scalable}
use Rattle.residual.proofs.inner.scale_all.Goals as goal

-- no store has gone to the number that is read
number : {v : ℕ → ℤ} {x₀ x : List ℤ} {k : ℕ} → SFits w32 (get_or x k (pos 0)) → Storing (λ i. i) v (length x₀) x₀ x k → to_z w32 (of_z w32 (get_or x k (pos 0))) ≡ get_or x₀ k (pos 0)
number {v} {x₀} {x} {k} fits stored = to_z-of_z w32 (get_or x k (pos 0)) fits ∙ storing_ahead v (length x₀) k (pos 0) stored (omega arith)

pub scaled-requires : goal.scaled-requires
scaled-requires c =
    let k = c.loop-k.k in
    let fits : SFits w32 (get_or c.loop-k.numbers c.loop-k.k (pos 0)) = search rules in (
      subst (λ (z : ℤ). Scalable z (get_or c.args.scale.now k 0)) (sym (number fits c.loop-k.invariant)) (c.requires.1 k (omega arith)),
      c.requires.2,
      c.requires.3,
    )

pub loop-k-preserved : goal.loop-k-preserved
loop-k-preserved c =
    let k = c.loop-k.k in
    let fits : SFits w32 (get_or c.loop-k.numbers c.loop-k.k (pos 0)) = search rules in
    let result : SFits w32 c.scaled.result = search rules in
    storing_more _ _ _ c.loop-k.invariant (omega arith) refl
    (to_z-of_z w32 c.scaled.result result
    ∙ c.scaled.ensures
    ∙ ap (λ (z : ℤ). (z *ℤ pos (get_or c.args.scale.now k 0) +ℤ pos c.args.round) >> c.args.shift) (number fits c.loop-k.invariant))

pub returns : goal.returns
returns c = storing_done _ _ _ c.loop-k.invariant (omega arith) ∙ stores_in_turn _ c.args.numbers.now

pub loop-k-init : goal.loop-k-init
loop-k-init c = storing_none _ _ _ _
