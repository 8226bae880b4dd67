-- Laws of the first offence.
--     first_before, first_passes, first_le, first_is, first_none     none before; this one; no later than the end; nothing else
--     found_some, found_none, found_ends, found_at, found_end     a place that was looked for, and back
--     first_found                                    what the library's `find` over a range finds
--     Searching: searching_none, searching_more, searching_here, searching_done     a loop over k that leaves at the first
-- Assumes nothing.
use mathlib.Core.Path.{◌≡◌, refl, sym, ap, ◌∙◌}
use mathlib.Core.Bool.{Bool, true, false, cond, not}
use mathlib.Core.Logic.{⊎_elim}
use Prim.Native.Nat.{ℕ, zero, suc, ◌+◌, ◌<◌, ◌≤◌, zero-le}
use native.Mathlib.Nat.{not-suc-le-zero, le_of_suc-le-suc, eq-or-lt_of_le}
use native.Mathlib.Omega.{arith}
use borrow.Author.Count.{below_more}
use borrow.Author.Tests.{ltb-true, ltb-false, lt-ltb, eq-eqb, ne_eqb}
use Rattle.std.proofs.lemmas.Bool.{le-ltb}
use lib.Dec.{eqb, ltb}
use Rattle.std.specs.Option.{is_some, MatchOption}
use Rattle.std.proofs.Common.{Option, Some, None}
use Rattle.lists.specs.First.{first, found}

clash : {b : Bool} → b ≡ true → b ≡ false → ⊥
clash t f = let z : ◌≡◌ {A = ℕ} 0 1 = cc in omega arith

-- ---- a place that was looked for below n

module _ (n k : ℕ) where
  some_case : (b : Bool) → ltb k n ≡ b → {p : ℕ} → cond b (Some k) None ≡ Some p → (p ≡ k) × (k < n)
  some_case true e h = (cc, ltb-true k n e)
  some_case false e h = absurd cc

  none_case : (b : Bool) → ltb k n ≡ b → cond b (Some k) None ≡ None → n ≤ k
  none_case true e h = absurd cc
  none_case false e h = let l = ltb-false k n e in omega arith

  pub found_some : {p : ℕ} → found n k ≡ Some p → (p ≡ k) × (k < n)
  unfolding found
  found_some h = some_case (ltb k n) refl h

  pub found_none : found n k ≡ None → n ≤ k
  unfolding found
  found_none h = none_case (ltb k n) refl h

  pub found_at : k < n → found n k ≡ Some k
  unfolding found
  found_at h = rw (lt-ltb k n h)

  ends_case : (t b : Bool) → ltb k n ≡ t → k ≤ n → is_some (cond t (Some k) None) ≡ not b → b ≡ eqb k n
  ends_case true true e h q = absurd (clash refl q)
  ends_case true false e h q = let l = ltb-true k n e in sym (ne_eqb k n (λ z. omega arith))
  ends_case false true e h q = let l = ltb-false k n e in sym (eq-eqb k n (omega arith))
  ends_case false false e h q = absurd (clash q refl)

  -- that none was found, as the library's `is_none` tells it, is that the search ended at n
  pub found_ends : k ≤ n → {b : Bool} {o : Option ℕ} → o ≡ found n k → is_some o ≡ not b → b ≡ eqb k n
  unfolding found
  found_ends h {b} looked e = ends_case (ltb k n) b refl h (ap is_some (sym looked) ∙ e)

  pub found_end : n ≤ k → found n k ≡ None
  unfolding found
  found_end h = rw (le-ltb k n h)

module _ (p : ℕ → Bool) where
  pub first_le : (n : ℕ) → first n p ≤ n
  unfolding first
  first_le zero = omega arith
  first_le (suc n) = by_case (ltb (first n p) n) (p n) (first n p) (first_le n)
    where
      by_case : (t q : Bool) (f : ℕ) → f ≤ n → cond t f (cond q n (suc n)) ≤ suc n
      by_case true q f h = omega arith
      by_case false true f h = omega arith
      by_case false false f h = omega arith

  module _ (n : ℕ) where
    before_case : (t q : Bool) → ltb (first n p) n ≡ t → p n ≡ q → ((i : ℕ) → i < first n p → p i ≡ false)
        → (i : ℕ) → i < cond t (first n p) (cond q n (suc n)) → p i ≡ false
    before_case true q e h all i l = all i l
    before_case false true e h all i l = all i (omega (arith, ltb-false (first n p) n e))
    before_case false false e h all i l =
        ⊎_elim (λ (z : i ≡ n). rw z h) (λ (lt : i < n). all i (omega (arith, ltb-false (first n p) n e))) (eq-or-lt_of_le (le_of_suc-le-suc l))

    passes_case : (t q : Bool) → ltb (first n p) n ≡ t → p n ≡ q → (first n p < n → p (first n p) ≡ true)
        → cond t (first n p) (cond q n (suc n)) < suc n → p (cond t (first n p) (cond q n (suc n))) ≡ true
    passes_case true q e h all l = all (ltb-true (first n p) n e)
    passes_case false true e h all l = h
    passes_case false false e h all l = absurd (omega arith)

  -- none before it passes
  pub first_before : (n i : ℕ) → i < first n p → p i ≡ false
  unfolding first
  first_before zero i l = absurd (not-suc-le-zero l)
  first_before (suc n) i l = before_case n (ltb (first n p) n) (p n) refl refl (first_before n) i l

  -- and this one does, where there is one
  pub first_passes : (n : ℕ) → first n p < n → p (first n p) ≡ true
  unfolding first
  first_passes zero l = absurd (not-suc-le-zero l)
  first_passes (suc n) l = passes_case n (ltb (first n p) n) (p n) refl refl (first_passes n) l

  -- nothing else is the first
  pub first_is : (n i : ℕ) → i < n → ((j : ℕ) → j < i → p j ≡ false) → p i ≡ true → first n p ≡ i
  first_is n i l none here =
      let late : (i < first n p → ⊥) = λ h. clash here (first_before n i h) in
      let soon : (first n p < i → ⊥) = λ h. clash (first_passes n (omega arith)) (none (first n p) h) in
      omega arith

  -- where no number passes it is the end
  pub first_none : (n : ℕ) → ((k : ℕ) → k < n → p k ≡ false) → first n p ≡ n
  first_none n none =
      let soon : (first n p < n → ⊥) = λ h. clash (first_passes n h) (none (first n p) h) in
      omega (arith, first_le n)

  -- what the library's `find` over a range finds
  pub first_found : (n : ℕ) (r : Option ℕ) → MatchOption r ((k : ℕ) → 0 ≤ k → k < n → p k ≡ false) (λ i. (0 ≤ i) × (i < n) × (p i ≡ true) × ((k : ℕ) → 0 ≤ k → k < i → p k ≡ false))
      → r ≡ found n (first n p)
  first_found n None h = let end = first_none n (λ k l. h k zero-le l) in sym (found_end n (first n p) (omega arith))
  first_found n (Some i) h =
      let is = first_is n i h.1 (λ j l. h.3 j zero-le l) h.2 in
      ap Some (sym is) ∙ sym (found_at n (first n p) (omega (arith, h.1)))

  -- ---- a loop that leaves at the first

  -- none below k passes
  pub record Searching (n k : ℕ) : Type 0 where
    pub below : k ≤ n
    pub none : (j : ℕ) → j < k → p j ≡ false

  pub searching_none : (n : ℕ) → Searching n 0
  searching_none n = record { below = zero-le; none = λ j h. absurd (not-suc-le-zero h) }

  pub searching_more : {n k : ℕ} → Searching n k → k < n → p k ≡ false → Searching n (k + 1)
  searching_more {n} {k} s l e = record { below = omega arith; none = below_more (λ j. p j ≡ false) k s.none e }

  pub searching_here : {n k : ℕ} → Searching n k → k < n → p k ≡ true → first n p ≡ k
  searching_here {n} {k} s l e = first_is n k l s.none e

  pub searching_done : {n k : ℕ} → Searching n k → n ≤ k → first n p ≡ n
  searching_done {n} {k} s l = first_none n (λ j h. s.none j (omega arith))
