-- The walk over the modes finds the least: a permitted mode, no permitted mode costs less, every lower one costs more.
--     best_is, best_least    over any number of modes and any costs
--     one_least              there is one such mode at most
--     some_best              where a mode is permitted there is a best
--     zero_best              a mode that costs nothing is the best, if no lower one costs nothing: what costs 0 cannot be beaten by a higher number
--     best_same              equal costs have the same best
--     clash, same            a cost is one thing
-- Assumes nothing.
use mathlib.Core.Path.{◌≡◌, refl, ap, subst, ◌∙◌}
use mathlib.Core.Bool.{Bool, true, false, cond}
use Prim.Native.Nat.{ℕ, zero, suc, ◌<◌, ◌≤◌, zero-le}
use native.Mathlib.Nat.{not-suc-le-zero}
use native.Mathlib.Numerals.{add-one}
use native.Mathlib.Omega.{arith}
use borrow.Author.Count.{below_more}
use borrow.Author.Tests.{ltb-true, ltb-false}
use lib.Dec.{ltb}
use Rattle.lists.specs.Fold.{fold}
use Rattle.lists.proofs.Fold.{fold_follow}
use Rattle.choice.specs.Choice.{Cost, is, no, Best, nothing, at, better, best_of, Least}

abbrev pub Good : ℕ → (ℕ → Cost) → Best → Type 0
Good n cost nothing = (j : ℕ) → j < n → cost j ≡ no
Good n cost (at m s) = Least n cost m s

-- what holds of each number below n, and of n
more : (P : ℕ → Type 0) (n : ℕ) → ((j : ℕ) → j < n → P j) → P n → (j : ℕ) → j < suc n → P j
more P n h p j l = below_more P n h p j (rw add-one l)

pub clash : {A : Type 0} {d : ℕ} {x : Cost} → x ≡ is d → x ≡ no → A
clash p q = let z : ◌≡◌ {A = ℕ} 0 1 = cc in absurd (omega arith)

pub same : {d e : ℕ} {x : Cost} → x ≡ is d → x ≡ is e → d ≡ e
same p q = cc

module _ (cost : ℕ → Cost) (n : ℕ) where
  -- mode n is the first that is permitted
  begin : (d : ℕ) → cost n ≡ is d → ((j : ℕ) → j < n → cost j ≡ no) → Least (suc n) cost n d
  begin d e h = record {
    within = omega arith;
    costs = e;
    least = more (λ j. (x : ℕ) → cost j ≡ is x → d ≤ x) n (λ j l x q. clash q (h j l)) (λ x q. omega (arith, same e q));
    lower = λ j l x q. clash q (h j l);
  }

  module _ (m s : ℕ) (h : Least n cost m s) where
    -- mode n isn't permitted, or costs at least as much
    stay : ((x : ℕ) → cost n ≡ is x → s ≤ x) → Least (suc n) cost m s
    stay u = record {
      within = omega (arith, h.within);
      costs = h.costs;
      least = more (λ j. (x : ℕ) → cost j ≡ is x → s ≤ x) n (λ j l x q. h.least j l x q) u;
      lower = h.lower;
    }

    -- mode n costs less
    move : (d : ℕ) → cost n ≡ is d → d < s → Least (suc n) cost n d
    move d e l = record {
      within = omega arith;
      costs = e;
      least = more (λ j. (x : ℕ) → cost j ≡ is x → d ≤ x) n (λ j k x q. omega (arith, h.least j k x q)) (λ x q. omega (arith, same e q));
      lower = λ j k x q. omega (arith, h.least j k x q);
    }

    weigh : (d : ℕ) (b : Bool) → ltb d s ≡ b → cost n ≡ is d → Good (suc n) cost (cond b (at n d) (at m s))
    weigh d true t e = move d e (ltb-true d s t)
    weigh d false t e = stay (λ x q. omega (arith, same e q, ltb-false d s t))

  step : (b : Best) (x : Cost) → cost n ≡ x → Good n cost b → Good (suc n) cost (better n x b)
  step nothing no e h = more (λ j. cost j ≡ no) n h e
  step nothing (is d) e h = begin d e h
  step (at m s) no e h = stay m s h (λ x q. clash q e)
  step (at m s) (is d) e h = weigh m s h d (ltb d s) refl e

pub best_is : (n : ℕ) (cost : ℕ → Cost) → Good n cost (best_of n cost)
unfolding best_of fold
best_is zero cost = λ j l. absurd (not-suc-le-zero l)
best_is (suc n) cost = step cost n (best_of n cost) (cost n) refl (best_is n cost)

pub best_least : (n : ℕ) (cost : ℕ → Cost) (m s : ℕ) → best_of n cost ≡ at m s → Least n cost m s
best_least n cost m s e = subst (Good n cost) e (best_is n cost)

pub one_least : (n : ℕ) (cost : ℕ → Cost) (m s m' s' : ℕ) → Least n cost m s → Least n cost m' s' → (m ≡ m') × (s ≡ s')
one_least n cost m s m' s' h k =
    let a : s ≤ s' = h.least m' k.within s' k.costs in
    let b : s' ≤ s = k.least m h.within s h.costs in
    let l : m < m' → ⊥ = λ q. omega (arith, k.lower m q s h.costs) in
    let r : m' < m → ⊥ = λ q. omega (arith, h.lower m' q s' k.costs) in
    (omega arith, omega arith)

-- costs that are the same below n give the same best
pub best_same : (n : ℕ) (c d : ℕ → Cost) → ((k : ℕ) → k < n → c k ≡ d k) → best_of n c ≡ best_of n d
unfolding best_of
best_same n c d h =
    fold_follow n (λ m b. better m (c m) b) (λ m b. better m (d m) b) nothing
    (λ k l. ap (λ (x : Cost). better k x (fold k (λ m b. better m (d m) b) nothing)) (h k l))

pub some_best : (n : ℕ) (cost : ℕ → Cost) (j d : ℕ) → j < n → cost j ≡ is d → (b : Best) → Good n cost b → (m : ℕ) × (s : ℕ) × (b ≡ at m s) × Least n cost m s
some_best n cost j d l e nothing g = clash e (g j l)
some_best n cost j d l e (at m s) g = (m, s, refl, g)

some : (d : ℕ) → (d ≡ 0 → ⊥) → 0 < d
some zero h = absurd (h refl)
some (suc d) h = omega arith

pub zero_best : (n : ℕ) (cost : ℕ → Cost) (m : ℕ) → m < n → cost m ≡ is 0 → ((j : ℕ) → j < m → cost j ≡ is 0 → ⊥) → best_of n cost ≡ at m 0
zero_best n cost m l e before =
    let w = some_best n cost m 0 l e (best_of n cost) (best_is n cost) in
    let u = one_least n cost w.0 w.1 m 0 w.3 (record {
      within = l;
      costs = e;
      least = λ j k d q. zero-le;
      lower = λ j k d q. some d (λ z. before j k (q ∙ ap is z));
    }) in
    w.2 ∙ (λ i. at (u.0 i) (u.1 i))
