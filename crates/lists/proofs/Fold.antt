-- Laws of a loop over a state.
--     fold_more, fold_keeps, fold_follow             one more turn; what each turn keeps; a loop that does what another does along its way
--     Folding: folding_none, folding_more, folding_done
-- Assumes nothing.
use mathlib.Core.Path.{◌≡◌, refl, sym, ap, ◌∙◌}
use Prim.Native.Nat.{ℕ, zero, suc, ◌+◌, ◌<◌, ◌≤◌, zero-le}
use native.Mathlib.Numerals.{add-one}
use native.Mathlib.Omega.{arith}
use Rattle.lists.specs.Fold.{fold}

module _ {A : Type 0} where
  pub fold_more : (n : ℕ) (f : ℕ → A → A) (a : A) → fold (n + 1) f a ≡ f n (fold n f a)
  unfolding fold
  fold_more n f a = rw add-one

  -- what holds at the start, and after turn k if before it, holds at the end
  pub fold_keeps : (P : ℕ → A → Type 0) (n : ℕ) (f : ℕ → A → A) (a : A) → P 0 a
      → ((k : ℕ) → k < n → P k (fold k f a) → P (suc k) (f k (fold k f a)))
      → P n (fold n f a)
  unfolding fold
  fold_keeps P zero f a p h = p
  fold_keeps P (suc n) f a p h = h n (omega arith) (fold_keeps P n f a p (λ k l. h k (omega arith)))

  pub fold_follow : (n : ℕ) (f g : ℕ → A → A) (a : A) → ((k : ℕ) → k < n → f k (fold k g a) ≡ g k (fold k g a)) → fold n f a ≡ fold n g a
  unfolding fold
  fold_follow zero f g a h = refl
  fold_follow (suc n) f g a h = ap (f n) (fold_follow n f g a (λ k l. h k (omega arith))) ∙ h n (omega arith)

  -- ---- loops in a loop

  -- ---- a loop over k that takes the state s to f k s

  pub record Folding (n : ℕ) (f : ℕ → A → A) (a s : A) (k : ℕ) : Type 0 where
    pub below : k ≤ n
    pub is : s ≡ fold k f a

  module _ (n : ℕ) (f : ℕ → A → A) (a : A) where
    pub folding_none : Folding n f a a 0
    unfolding fold
    folding_none = record { below = zero-le; is = refl }

    pub folding_more : {s t : A} {k : ℕ} → Folding n f a s k → k < n → t ≡ f k s → Folding n f a t (k + 1)
    folding_more {s} {t} {k} h l e = record { below = omega arith; is = e ∙ ap (f k) h.is ∙ sym (fold_more k f a) }

    pub folding_done : {s : A} {k : ℕ} → Folding n f a s k → n ≤ k → s ≡ fold n f a
    folding_done {s} {k} h l = let q : k ≡ n = omega (arith, h.below) in h.is ∙ rw q
