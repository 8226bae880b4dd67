-- The loop over the modes, as it holds the best so far.
--     Looking: looking_none, looking_more, looking_done
-- Assumes nothing.
use mathlib.Core.Path.{◌≡◌, refl, sym, ap, ◌∙◌}
use mathlib.Core.Bool.{Bool, true, false, cond}
use Prim.Native.Nat.{ℕ, ◌+◌, ◌<◌, ◌≤◌, zero-le}
use native.Mathlib.Omega.{arith}
use borrow.Author.Tests.{lt-ltb}
use lib.Dec.{ltb}
use Rattle.lists.specs.Fold.{fold}
use Rattle.lists.proofs.Fold.{fold_more}
use Rattle.choice.specs.declared.inner.Standing.{Standing}
use Rattle.choice.specs.Choice.{Cost, is, no, Best, nothing, at, better, best_of}
use Rattle.choice.specs.Code.{standing, looked, Small}

both : (c : Bool) (x y : Best) → cond c (standing x) (standing y) ≡ standing (cond c x y)
both true x y = refl
both false x y = refl

looked_is : (m : ℕ) (x : Cost) (b : Best) → Small x → looked m x (standing b) ≡ standing (better m x b)
looked_is m no b u = refl
looked_is m (is d) nothing u = rw (lt-ltb d 4294967295 u)
looked_is m (is d) (at k s) u = both (ltb d s) (at m d) (at k s)

-- after k modes
pub record Looking (n : ℕ) (cost : ℕ → Cost) (b : Standing) (k : ℕ) : Type 0 where
  pub below : k ≤ n
  pub stands : b ≡ standing (best_of k cost)

module _ (n : ℕ) (cost : ℕ → Cost) where
  pub looking_none : {b : Standing} → b ≡ standing nothing → Looking n cost b 0
  unfolding best_of fold
  looking_none e = record { below = zero-le; stands = e }

  pub looking_more : {b c : Standing} {k : ℕ} → Looking n cost b k → k < n → (c ≡ looked k (cost k) b) × Small (cost k) → Looking n cost c (k + 1)
  unfolding best_of
  looking_more {b} {c} {k} h l e = record {
    below = omega arith;
    stands =
        e.0
        ∙ ap (looked k (cost k)) h.stands
        ∙ looked_is k (cost k) (best_of k cost) e.1
        ∙ ap standing (sym (fold_more k (λ m b. better m (cost m) b) nothing));
  }

  pub looking_done : {b : Standing} {k : ℕ} → Looking n cost b k → n ≤ k → b ≡ standing (best_of n cost)
  looking_done {b} {k} h l = let q : k ≡ n = omega (arith, h.below) in h.stands ∙ rw q
