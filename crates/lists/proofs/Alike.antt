-- Steps over a list whose places have numbers. A step from `lo` to `hi` writes the places whose numbers lie there, and what it writes
-- follows from the places that it sees: from nothing that stood in its own places. Such steps compose, so what holds of one turn holds of
-- a loop of turns, and of a loop of loops.
--     Agree, Looks          two lists agree where a step sees; what is made of a list looks only there
--     Step: step_sees, step_by     seeing more; by other numbers
--     step_agree, step_then, step_fold        lists that agreed do so after the step, also in its places; one step behind another; a loop
--     step_choice           a choice between two steps, by a test that looks only at what both see
--     start_forgotten       steps that see nothing at the start, and write every place, end alike from any two lists of the size
-- Assumes nothing.
use mathlib.Core.Path.{◌≡◌, refl, sym, ◌∙◌}
use mathlib.Core.Bool.{Bool, true, false, cond}
use mathlib.Core.List.{List}
use mathlib.Core.Logic.{◌⊎◌, inl, inr}
use Prim.Native.Nat.{ℕ, zero, suc, ◌<◌, ◌≤◌}
use native.Mathlib.Omega.{arith}
use borrow.Author.Tests.{ltb-true, ltb-false}
use lib.Dec.{ltb}
use lib.ListN.{length, get_or}
use lib.Seq.{ext_get_or}
use Rattle.lists.specs.Fold.{fold}

-- `number i` is the number of place i: the places from number lo on, before number hi
abbrev pub Between : (number : ℕ → ℕ) (lo hi i : ℕ) → Type 0
Between number lo hi i = (lo ≤ number i) × (number i < hi)

-- what is seen, and those places
abbrev pub Also : (number : ℕ → ℕ) (sees : ℕ → Type 0) (lo hi i : ℕ) → Type 0
Also number sees lo hi i = sees i ⊎ Between number lo hi i

-- z is read outside a list, and never matters
module _ {A : Type 0} (z : A) (size : ℕ) where
  -- two lists of the size that agree at every place that is seen
  pub record Agree (sees : ℕ → Type 0) (p q : List A) : Type 0 where
    pub this : length p ≡ size
    pub that : length q ≡ size
    pub agree : (i : ℕ) → i < size → sees i → get_or p i z ≡ get_or q i z

  -- what is made of a list is the same for two lists that agree there
  abbrev pub Looks : {B : Type 0} → (sees : ℕ → Type 0) → (List A → B) → Type 0
  Looks sees v = (p q : List A) → Agree sees p q → v p ≡ v q

  pub agree_less : (sees less : ℕ → Type 0) → ((i : ℕ) → i < size → less i → sees i) → (p q : List A) → Agree sees p q → Agree less p q
  agree_less sees less w p q a = record { this = a.this; that = a.that; agree = λ i h s. a.agree i h (w i h s) }

  module _ (number : ℕ → ℕ) where
    pub record Step (sees : ℕ → Type 0) (lo hi : ℕ) (f : List A → List A) : Type 0 where
      pub long : (p : List A) → length (f p) ≡ length p
      pub off : (p : List A) (i : ℕ) → i < size → (Between number lo hi i → ⊥) → get_or (f p) i z ≡ get_or p i z
      pub on : (p q : List A) → Agree sees p q → (i : ℕ) → i < size → Between number lo hi i → get_or (f p) i z ≡ get_or (f q) i z

    pub step_sees : {sees : ℕ → Type 0} (more : ℕ → Type 0) {lo hi : ℕ} {f : List A → List A} → ((i : ℕ) → i < size → sees i → more i) → Step sees lo hi f → Step more lo hi f
    step_sees {sees} more w s = record {
      long = s.long;
      off = s.off;
      on = λ p q a i h b. s.on p q (agree_less more sees w p q a) i h b;
    }

    -- a place is the step's own, or it is not
    own_or_not : {C : Type 0} (lo hi i : ℕ) → (Between number lo hi i → C) → ((Between number lo hi i → ⊥) → C) → C
    own_or_not {C} lo hi i here there = by_case (ltb (number i) lo) (ltb (number i) hi) refl refl
      where
        by_case : (s t : Bool) → ltb (number i) lo ≡ s → ltb (number i) hi ≡ t → C
        by_case true t e d = there (λ b. let n = ltb-true (number i) lo e in absurd (omega (arith, b.0)))
        by_case false true e d = here (ltb-false (number i) lo e, ltb-true (number i) hi d)
        by_case false false e d = there (λ b. let n = ltb-false (number i) hi d in absurd (omega (arith, b.1)))

    pub step_agree : {sees : ℕ → Type 0} {lo hi : ℕ} {f : List A → List A} → Step sees lo hi f → (p q : List A) → Agree sees p q → Agree (Also number sees lo hi) (f p) (f q)
    step_agree {sees} {lo} {hi} {f} s p q a = record {
      this = s.long p ∙ a.this;
      that = s.long q ∙ a.that;
      agree = λ i h v. own_or_not lo hi i (λ b. s.on p q a i h b) (λ n. s.off p i h n ∙ a.agree i h (seen i n v) ∙ sym (s.off q i h n));
    }
      where
        seen : (i : ℕ) → (Between number lo hi i → ⊥) → Also number sees lo hi i → sees i
        seen i n (inl v) = v
        seen i n (inr b) = absurd (n b)

    pub step_then : {sees : ℕ → Type 0} {lo mid hi : ℕ} {f g : List A → List A} → lo ≤ mid → mid ≤ hi
        → Step sees lo mid f → Step (Also number sees lo mid) mid hi g → Step sees lo hi (λ p. g (f p))
    step_then {sees} {lo} {mid} {hi} {f} {g} l m s t = record {
      long = λ p. t.long (f p) ∙ s.long p;
      off = λ p i h n.
          t.off (f p) i h (λ b. n (omega (arith, b.0), b.1))
          ∙ s.off p i h (λ b. n (b.0, omega (arith, b.1)));
      on = λ p q a i h b.
          own_or_not mid hi i (λ c. t.on (f p) (f q) (step_agree s p q a) i h c)
          (λ n.
          t.off (f p) i h n
          ∙ (step_agree s p q a).agree i h (inr (b.0, before i b.1 n))
          ∙ sym (t.off (f q) i h n));
    }
      where
        before : (i : ℕ) → number i < hi → (Between number mid hi i → ⊥) → number i < mid
        before i u n = by_case (ltb (number i) mid) refl
          where
            by_case : (s : Bool) → ltb (number i) mid ≡ s → number i < mid
            by_case true e = ltb-true (number i) mid e
            by_case false e = absurd (n (ltb-false (number i) mid e, u))

    -- turn k goes from `at k` to `at (suc k)`, and may see what the turns before it have written
    pub step_fold : (sees : ℕ → Type 0) (at : ℕ → ℕ) (f : ℕ → List A → List A) (n : ℕ) → ((k : ℕ) → k < n → at k ≤ at (suc k))
        → ((k : ℕ) → k < n → Step (Also number sees (at 0) (at k)) (at k) (at (suc k)) (f k))
        → (at 0 ≤ at n) × Step sees (at 0) (at n) (fold n f)
    unfolding fold
    step_fold sees at f zero rise steps =
        (omega arith, record { long = λ p. refl; off = λ p i h n. refl; on = λ p q a i h b. absurd (omega (arith, b.0, b.1)) })
    step_fold sees at f (suc n) rise steps =
        let s = step_fold sees at f n (λ k h. rise k (omega arith)) (λ k h. steps k (omega arith)) in
        let r = rise n (omega arith) in
        (omega (arith, s.0, r), step_then s.0 r s.1 (steps n (omega arith)))

    pub step_choice : {sees : ℕ → Type 0} {lo hi : ℕ} {f g : List A → List A} (c : List A → Bool) → Looks sees c
        → Step sees lo hi f → Step sees lo hi g → Step sees lo hi (λ p. cond (c p) (f p) (g p))
    step_choice {sees} {lo} {hi} {f} {g} c looks s t = record {
      long = λ p. either_long p (c p);
      off = λ p i h n. either_off p i h n (c p);
      on = λ p q a i h b. either_on p q a i h b (c p) (c q) (looks p q a);
    }
      where
        either_long : (p : List A) (t : Bool) → length (cond t (f p) (g p)) ≡ length p
        either_long p true = s.long p
        either_long p false = t.long p

        either_off : (p : List A) (i : ℕ) → i < size → (Between number lo hi i → ⊥) → (t : Bool) → get_or (cond t (f p) (g p)) i z ≡ get_or p i z
        either_off p i h n true = s.off p i h n
        either_off p i h n false = t.off p i h n

        either_on : (p q : List A) → Agree sees p q → (i : ℕ) → i < size → Between number lo hi i → (t u : Bool) → t ≡ u → get_or (cond t (f p) (g p)) i z ≡ get_or (cond u (f q) (g q)) i z
        either_on p q a i h b true true e = s.on p q a i h b
        either_on p q a i h b false false e = t.on p q a i h b
        either_on p q a i h b true false e = let y : get_or (f p) i z ≡ get_or (g q) i z = cc in y
        either_on p q a i h b false true e = let y : get_or (g p) i z ≡ get_or (f q) i z = cc in y

    -- steps that see nothing, and write every place
    pub start_forgotten : {hi : ℕ} {f : List A → List A} → Step (λ i. ⊥) 0 hi f → ((i : ℕ) → i < size → number i < hi)
        → (p q : List A) → length p ≡ size → length q ≡ size → f p ≡ f q
    start_forgotten {hi} {f} s cover p q hp hq =
        ext_get_or z (f p) (f q) (s.long p ∙ hp ∙ sym hq ∙ sym (s.long q))
        (λ i h.
        let m : i < size = rw (s.long p, hp) at h in
        s.on p q (record { this = hp; that = hq; agree = λ j l v. absurd v }) i m (omega arith, cover i m))

  -- the same step, where other numbers tell the same places
  pub step_by : (number other : ℕ → ℕ) {sees : ℕ → Type 0} {lo hi : ℕ} (lo' hi' : ℕ) {f : List A → List A}
      → ((i : ℕ) → i < size → Between number lo hi i → Between other lo' hi' i)
      → ((i : ℕ) → i < size → Between other lo' hi' i → Between number lo hi i)
      → Step number sees lo hi f → Step other sees lo' hi' f
  step_by number other lo' hi' there back s = record {
    long = s.long;
    off = λ p i h n. s.off p i h (λ b. n (there i h b));
    on = λ p q a i h b. s.on p q a i h (back i h b);
  }
