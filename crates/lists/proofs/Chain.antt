-- The law of a chain of tests: refused exactly if a test fails and all before it pass, passed exactly if all pass.
--     chain_exactly_if
--     pass_not_stop, same_stop        verdicts that are the same
--     chain_passed, chain_refused     a chain behind a chain
--     scan_none, scan_found           what the test of a scan comes to, behind a chain that passes
--     written_passed, written_refused, holds_new     what an output holds at exit, by the verdict
-- Assumes nothing.
use mathlib.Core.Path.{◌≡◌, refl, sym, ap, ◌∙◌}
use mathlib.Core.Bool.{Bool, true, false, cond}
use mathlib.Core.Logic.{inl, inr}
use mathlib.Core.List.{List, [], ◌∷◌, ◌++◌}
use Prim.Native.Nat.{ℕ, ◌<◌}
use native.Mathlib.Omega.{arith}
use borrow.Author.Tests.{eq-eqb, ne_eqb}
use Rattle.lists.specs.Chain.{Test, scan_test, Verdict, pass, stop, chain, written, AllPass, RefusedWith, ExactlyIf}

module _ {R : Type 0} where
  pub pass_not_stop : {r : R} → pass ≡ stop r → ⊥
  pass_not_stop e = let z : ◌≡◌ {A = ℕ} 0 1 = cc in omega arith

  pub same_stop : {r s : R} → stop r ≡ stop s → r ≡ s
  same_stop e = cc

  passed_if : (ts : List (Test R)) → AllPass ts → chain ts ≡ pass
  passed_if [] h = refl
  passed_if (t ∷ ts) h = rw h.0 (passed_if ts h.1)

  refused_if : (ts : List (Test R)) (r : R) → RefusedWith ts r → chain ts ≡ stop r
  refused_if [] r h = absurd h
  refused_if (t ∷ ts) r (inl h) = rw (h.0, h.1)
  refused_if (t ∷ ts) r (inr h) = rw h.0 (refused_if ts r h.1)

  -- the first test's two cases
  passed_only : (ts : List (Test R)) → chain ts ≡ pass → AllPass ts
  passed_only [] e = tt
  passed_only (t ∷ ts) e = by (passed_only ts) t.passes refl e
    where
      by : (chain ts ≡ pass → AllPass ts) → (b : Bool) → t.passes ≡ b → cond b (chain ts) (stop t.refusal) ≡ pass → AllPass (t ∷ ts)
      by rest true p q = (p, rest q)
      by rest false p q = absurd (pass_not_stop (sym q))

  refused_only : (ts : List (Test R)) (r : R) → chain ts ≡ stop r → RefusedWith ts r
  refused_only [] r e = pass_not_stop e
  refused_only (t ∷ ts) r e = by (refused_only ts r) t.passes refl e
    where
      by : (chain ts ≡ stop r → RefusedWith ts r) → (b : Bool) → t.passes ≡ b → cond b (chain ts) (stop t.refusal) ≡ stop r → RefusedWith (t ∷ ts) r
      by rest true p q = inr (p, rest q)
      by rest false p q = inl (p, same_stop (sym q))

  -- a chain behind a chain
  pub chain_passed : (ts us : List (Test R)) → chain ts ≡ pass → chain (ts ++ us) ≡ chain us
  chain_passed [] us e = refl
  chain_passed (t ∷ ts) us e = let h = passed_only (t ∷ ts) e in rw h.0 (chain_passed ts us (passed_if ts h.1))

  pub chain_refused : (ts us : List (Test R)) (r : R) → chain ts ≡ stop r → chain (ts ++ us) ≡ stop r
  chain_refused [] us r e = absurd (pass_not_stop e)
  chain_refused (t ∷ ts) us r e = by (chain_refused ts us r) (refused_only (t ∷ ts) r e)
    where
      by : (chain ts ≡ stop r → chain (ts ++ us) ≡ stop r) → RefusedWith (t ∷ ts) r → chain (t ∷ (ts ++ us)) ≡ stop r
      by rest (inl h) = rw (h.0, h.1)
      by rest (inr h) = rw h.0 (rest (refused_if ts r h.1))

  pub chain_exactly_if : (ts : List (Test R)) → ExactlyIf ts (chain ts)
  chain_exactly_if ts = record {
    passes = (passed_only ts, passed_if ts);
    refuses = λ r. (refused_only ts r, refused_if ts r);
  }

  -- a scan behind a chain that passes: none found before the end, or this one
  module _ (ts : List (Test R)) (passed : chain ts ≡ pass) (n found : ℕ) (refusalAt : ℕ → R) (rest : List (Test R)) where
    pub scan_none : found ≡ n → chain (ts ++ (scan_test n found refusalAt ∷ rest)) ≡ chain rest
    scan_none e = chain_passed ts (scan_test n found refusalAt ∷ rest) passed ∙ rw (eq-eqb found n e)

    pub scan_found : found < n → chain (ts ++ (scan_test n found refusalAt ∷ rest)) ≡ stop (refusalAt found)
    scan_found l =
        let z : (found ≡ n → ⊥) = λ e. omega arith in
        chain_passed ts (scan_test n found refusalAt ∷ rest) passed ∙ rw (ne_eqb found n z)

  -- what an output holds at exit
  module _ {A : Type 0} {v : Verdict R} where
    pub written_passed : {new after : A} (old : A) → v ≡ pass → after ≡ new → after ≡ written v new old
    written_passed {new} old e made = made ∙ ap (λ (w : Verdict R). written w new old) (sym e)

    pub written_refused : {old : A} {r : R} (new : A) → v ≡ stop r → old ≡ written v new old
    written_refused {old} new e = ap (λ (w : Verdict R). written w new old) (sym e)

    pub holds_new : {new after : A} (old : A) → v ≡ pass → after ≡ written v new old → after ≡ new
    holds_new {new} old e wrote = wrote ∙ ap (λ (w : Verdict R). written w new old) e
