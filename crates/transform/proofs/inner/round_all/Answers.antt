-- `transform::inner::round_all` meets its contract: a store in each place, of what is made of the number there.
-- Assumes nothing.
use mathlib.Core.List.{List, [], ◌∷◌}
use mathlib.Core.Path.{◌≡◌, refl, sym, ap, subst, ◌∙◌}
use Prim.Native.Nat.{ℕ}
use native.Mathlib.Omega.{arith}
use lib.IntN.{ℤ, pos}
use lib.ListN.{length, get_or}
use mir.Syntax.{w32}
use Rattle.lists.proofs.Stores.{Storing, storing_none, storing_more, storing_done, storing_ahead, stores_in_turn}
use Rattle.whole.specs.Bounds.{Within, Each}
use Rattle.whole.proofs.Steps.{Code, inp, num, add, shr, safe, exact, each_at}
use Rattle.transform.specs.Quads.{line, wide}
use Rattle.transform.specs.Inverse.{rounded}
use Rattle.transform.proofs.inner.round_all.Goals as goal

-- the code
abbrev sum : Code
sum = add (inp 0) (num (pos 32))

module _ {x₀ x : List ℤ} {k : ℕ} (each : Each wide x₀) (stored : Storing (λ i. i) (λ place. rounded (line x₀ place)) (length x₀) x₀ x k) where
  -- the number that a turn reads: no store has gone to it
  as_before : get_or x k (pos 0) ≡ line x₀ k
  as_before = storing_ahead _ _ k (pos 0) stored (omega arith)

  small : Each wide (get_or x k (pos 0) ∷ [])
  small = (subst (Within wide) (sym as_before) (each_at wide x₀ each k), tt)

pub loop-value-init : goal.loop-value-init
loop-value-init c = storing_none _ _ _ _

pub overflow_add-value : goal.overflow_add-value
overflow_add-value c = safe w32 wide (get_or c.loop-value.x c.loop-value.value-index (pos 0) ∷ []) (small c.requires c.loop-value.invariant) sum tt

pub loop-value-preserved : goal.loop-value-preserved
loop-value-preserved c =
    storing_more _ _ _ c.loop-value.invariant (omega arith) refl
    (exact w32 wide (get_or c.loop-value.x c.loop-value.value-index (pos 0) ∷ []) (small c.requires c.loop-value.invariant) (shr sum 6) tt ∙ ap rounded (as_before c.requires c.loop-value.invariant))

pub returns : goal.returns
returns c = storing_done _ _ _ c.loop-value.invariant (omega arith) ∙ stores_in_turn _ c.args.x.now
