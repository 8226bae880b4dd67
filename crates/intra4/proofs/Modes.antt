-- Modes are the entries of a list, in the order of their numbers.
--     mode_below        what is permitted has a number below n, where nothing from n on is
--     each_of           what holds of each entry, and of what stands past the end, holds at every number
-- Assumes nothing.
use mathlib.Core.Path.{◌≡◌, refl, sym, ap, ◌∙◌}
use mathlib.Core.Bool.{Bool, true, false, false≢true}
use mathlib.Core.List.{List, [], ◌∷◌}
use Prim.Native.Nat.{ℕ, zero, suc, ◌+◌, ◌-◌, ◌<◌}
use native.Mathlib.Omega.{arith}
use borrow.Author.Tests.{ltb-true, ltb-false}
use lib.Dec.{ltb}
use lib.ListN.{get_or}

-- n + k, which computes at a literal n
abbrev past : ℕ → ℕ → ℕ
past zero k = k
past (suc n) k = suc (past n k)

past_is : (n k : ℕ) → past n k ≡ n + k
past_is zero k = omega arith
past_is (suc n) k = omega (arith, past_is n k)

pub mode_below : (n : ℕ) (p : ℕ → Bool) → ((k : ℕ) → p (past n k) ≡ false) → (m : ℕ) → p m ≡ true → m < n
mode_below n p none m e = by_case (ltb m n) refl
  where
    by_case : (b : Bool) → ltb m n ≡ b → m < n
    by_case true l = ltb-true m n l
    by_case false l = let h = ltb-false m n l in absurd (false≢true (sym (none (m - n)) ∙ ap p (let z : past n (m - n) ≡ m = omega (arith, past_is n (m - n)) in z) ∙ e))

module _ {A : Type 0} (P : A → Type 0) where
  abbrev EachOf : List A → Type 0
  EachOf [] = Unit {0}
  EachOf (x ∷ l) = P x × EachOf l

  pub each_of : (d : A) → P d → (l : List A) → EachOf l → (m : ℕ) → P (get_or l m d)
  each_of d end [] h m = end
  each_of d end (x ∷ l) h zero = h.0
  each_of d end (x ∷ l) h (suc m) = each_of d end l h.1 m
