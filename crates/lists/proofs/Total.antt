-- The loop that adds f k in turn k, each at most b, so that the sum is known to fit.
--     total_same     equal numbers
--     Totalling: totalling_none, totalling_more, totalling_done
--     total_first    a sum from its first term on
--     total_low, term_low     a sum of terms that are at most b; each term is at most the sum
-- Assumes nothing.
use mathlib.Core.Path.{◌≡◌, refl, ◌∙◌}
use mathlib.Core.Logic.{⊎_elim}
use Prim.Native.Nat.{ℕ, zero, suc, ◌+◌, ◌*◌, ◌<◌, ◌≤◌, zero-le}
use native.Mathlib.Nat.{not-suc-le-zero, eq-or-lt_of_le, le_of_suc-le-suc}
use native.Mathlib.Numerals.{add-one}
use native.Mathlib.Omega.{arith}
use Rattle.lists.specs.Total.{total}

pub total_same : (n : ℕ) (f g : ℕ → ℕ) → ((k : ℕ) → k < n → f k ≡ g k) → total n f ≡ total n g
unfolding total
total_same zero f g h = refl
total_same (suc n) f g h = rw (total_same n f g (λ k l. h k (omega arith)), h n (omega arith))

-- a sum from its first term on
pub total_first : (n : ℕ) (f : ℕ → ℕ) → total (suc n) f ≡ f 0 + total n (λ k. f (suc k))
unfolding total
total_first zero f = omega arith
total_first (suc n) f = omega (arith, total_first n f)

pub record Totalling (n : ℕ) (f : ℕ → ℕ) (b sum k : ℕ) : Type 0 where
  pub below : k ≤ n
  pub is : sum ≡ total k f
  pub low : sum ≤ b * k

module _ (n : ℕ) (f : ℕ → ℕ) (b : ℕ) where
  pub totalling_none : Totalling n f b 0 0
  unfolding total
  totalling_none = record { below = zero-le; is = refl; low = zero-le }

  pub totalling_more : {sum k v : ℕ} → Totalling n f b sum k → k < n → v ≡ f k → v ≤ b → Totalling n f b (sum + v) (k + 1)
  unfolding total
  totalling_more {sum} {k} {v} h l e u = record {
    below = omega arith;
    is = rw (add-one, h.is, e);
    low = omega (arith, h.low);
  }

  pub totalling_done : {sum k : ℕ} → Totalling n f b sum k → n ≤ k → sum ≡ total n f
  totalling_done {sum} {k} h l = let q : k ≡ n = omega (arith, h.below) in h.is ∙ rw q

pub total_low : (n : ℕ) (f : ℕ → ℕ) (b : ℕ) → ((k : ℕ) → k < n → f k ≤ b) → total n f ≤ b * n
unfolding total
total_low zero f b h = zero-le
total_low (suc n) f b h = omega (arith, total_low n f b (λ k l. h k (omega arith)), h n (omega arith))

pub term_low : (n : ℕ) (f : ℕ → ℕ) (k : ℕ) → k < n → f k ≤ total n f
unfolding total
term_low zero f k l = absurd (not-suc-le-zero l)
term_low (suc n) f k l =
    ⊎_elim (λ (e : k ≡ n). rw e (omega arith)) (λ (h : k < n). omega (arith, term_low n f k h)) (eq-or-lt_of_le (le_of_suc-le-suc l))
