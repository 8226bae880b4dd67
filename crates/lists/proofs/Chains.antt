-- Chains of tests one behind the other.
--     chain_front, chain_behind                      both halves of a chain that passes
--     chain_parts                                    parts that all pass
--     chain_none, chain_one, chain_stop, chain_pass  a loop over the parts: the first that stops decides, or all pass
-- Assumes nothing.
use mathlib.Core.Path.{◌≡◌, refl, sym, ap, ◌∙◌}
use mathlib.Core.List.{List, ◌++◌}
use Prim.Native.Nat.{ℕ, zero, suc, ◌+◌, ◌-◌, ◌<◌}
use native.Mathlib.Numerals.{add-one}
use native.Mathlib.Omega.{arith}
use Rattle.lists.specs.Chain.{Test, Verdict, pass, stop, chain}
use Rattle.lists.specs.Parts.{parts}
use Rattle.lists.proofs.Chain.{pass_not_stop, chain_passed, chain_refused}
use Rattle.lists.proofs.Parts.{parts_split}

module _ {R : Type 0} where
  pub chain_front : (ts us : List (Test R)) → chain (ts ++ us) ≡ pass → chain ts ≡ pass
  chain_front ts us e = by (chain ts) refl
    where
      by : (v : Verdict R) → chain ts ≡ v → chain ts ≡ pass
      by pass q = q
      by (stop r) q = absurd (pass_not_stop (sym e ∙ chain_refused ts us r q))

  pub chain_behind : (ts us : List (Test R)) → chain (ts ++ us) ≡ pass → chain us ≡ pass
  chain_behind ts us e = sym (chain_passed ts us (chain_front ts us e)) ∙ e

  module _ (f : ℕ → List (Test R)) where
    pub chain_none : chain (parts 0 f) ≡ pass
    unfolding parts
    chain_none = refl

    pub chain_one : (k : ℕ) → chain (parts k f) ≡ pass → chain (parts (k + 1) f) ≡ chain (f k)
    unfolding parts
    chain_one k e = rw (add-one k) (chain_passed (parts k f) (f k) e)

    -- the first k + 1 parts and the others
    split : (n k : ℕ) → k < n → parts n f ≡ parts (k + 1) f ++ parts (n - (k + 1)) (λ i. f (k + 1 + i))
    split n k h =
        let z : n ≡ k + 1 + (n - (k + 1)) = omega arith in
        ap (λ (i : ℕ). parts i f) z ∙ parts_split (k + 1) (n - (k + 1)) f

    pub chain_stop : (n k : ℕ) (r : R) → k < n → chain (parts k f) ≡ pass → chain (f k) ≡ stop r → chain (parts n f) ≡ stop r
    chain_stop n k r h e q =
        ap chain (split n k h) ∙ chain_refused (parts (k + 1) f) (parts (n - (k + 1)) (λ i. f (k + 1 + i))) r (chain_one k e ∙ q)

    pub chain_pass : (n k : ℕ) → k < n → chain (parts n f) ≡ pass → chain (f k) ≡ pass
    unfolding parts
    chain_pass n k h e =
        chain_behind (parts k f) (f k)
        (rw (add-one k) at (chain_front (parts (k + 1) f) (parts (n - (k + 1)) (λ i. f (k + 1 + i))) (ap chain (sym (split n k h)) ∙ e)))

  pub chain_parts : (n : ℕ) (f : ℕ → List (Test R)) → ((k : ℕ) → k < n → chain (f k) ≡ pass) → chain (parts n f) ≡ pass
  unfolding parts
  chain_parts zero f h = refl
  chain_parts (suc n) f h = chain_passed (parts n f) (f n) (chain_parts n f (λ k l. h k (omega arith))) ∙ h n (omega arith)
