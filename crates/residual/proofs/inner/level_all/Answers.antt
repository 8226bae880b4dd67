-- `residual::inner::level_all` meets its contract: a store in each place, of the level of the number there. Assumes nothing.
use borrow.Author.Rules.{rules}
use mathlib.Core.Path.{◌≡◌, refl, sym, ap, subst, ◌∙◌}
use mathlib.Core.List.{List}
use Prim.Native.Nat.{ℕ, ◌^◌}
use native.Mathlib.Omega.{arith}
use lib.IntN.{ℤ, pos}
use lib.ListN.{length, get_or}
use mir.Syntax.{w32}
use mir.Val.{SFits, to_z, of_z}
use mir.ValLaws.{to_z-of_z}
use Rattle.lists.proofs.Stores.{Storing, storing_none, storing_more, storing_done, storing_ahead, stores_in_turn}
use Rattle.whole.specs.Bounds.{Within}
use Rattle.whole.proofs.Steps.{each_at}
use Rattle.residual.specs.Quantize.{level_by}
use Rattle.residual.proofs.inner.level_all.Goals as goal

-- no store has gone to the number that is read
number : {v : ℕ → ℤ} {x₀ x : List ℤ} {k : ℕ} → SFits w32 (get_or x k (pos 0)) → Storing (λ i. i) v (length x₀) x₀ x k → to_z w32 (of_z w32 (get_or x k (pos 0))) ≡ get_or x₀ k (pos 0)
number {v} {x₀} {x} {k} fits stored = to_z-of_z w32 (get_or x k (pos 0)) fits ∙ storing_ahead v (length x₀) k (pos 0) stored (omega arith)

pub level-requires : goal.level-requires
level-requires c =
    let k = c.loop-k.k in
    let fits : SFits w32 (get_or c.loop-k.numbers c.loop-k.k (pos 0)) = search rules in (
      subst (Within 65280) (sym (number fits c.loop-k.invariant)) (each_at 65280 c.args.numbers.now c.requires.0 k),
      c.requires.2 k (omega arith),
      c.requires.3,
      c.requires.4,
    )

pub loop-k-preserved : goal.loop-k-preserved
loop-k-preserved c =
    let k = c.loop-k.k in
    let fits : SFits w32 (get_or c.loop-k.numbers c.loop-k.k (pos 0)) = search rules in
    let result : SFits w32 c.level.result = search rules in
    storing_more _ _ _ c.loop-k.invariant (omega arith) refl
    (to_z-of_z w32 c.level.result result
    ∙ c.level.ensures
    ∙ ap (level_by (get_or c.args.mf.now k 0) c.args.f (2 ^ c.args.q)) (number fits c.loop-k.invariant))

pub returns : goal.returns
returns c = storing_done _ _ _ c.loop-k.invariant (omega arith) ∙ stores_in_turn _ c.args.numbers.now

pub loop-k-init : goal.loop-k-init
loop-k-init c = storing_none _ _ _ _
