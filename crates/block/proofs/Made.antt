-- What `array::from_fn` makes of a closure whose every answer has a property, and that stays as it is.
--     made_each     each element has it
-- Assumes nothing.
use mathlib.Core.Path.{◌≡◌, subst}
use mathlib.Core.List.{List}
use mathlib.Core.Logic.{⊎_elim}
use Prim.Native.Nat.{ℕ, zero, suc, ◌+◌, ◌<◌, ◌≤◌, zero-le}
use native.Mathlib.Nat.{eq-or-lt_of_le}
use native.Mathlib.Omega.{arith}
use denote.Param.Members.{Mut, Called}
use lib.ListN.{get_or}
use Rattle.std.specs.Array.{IsFromFnResult, IsFromFnResultFrom}

module _ {F B : Type 0} (g : Mut F (ℕ × Unit {0}) B) (f : F) (ys : List B) (n : ℕ) (P : B → Type 0)
    (answers : (k : ℕ) (y : B) (q : F) → k < n → Called g f (k, tt) y q → (q ≡ f) × P y) where
  each_from : (m i : ℕ) → i + m ≡ n → IsFromFnResultFrom g f ys i m → (k : ℕ) (d : B) → i ≤ k → k < n → P (get_or ys k d)
  each_from zero i e r k d h l = absurd (omega arith)
  each_from (suc m) i e r k d h l =
      let a = answers i r.1 r.0 (omega arith) r.3 in
      let rest : IsFromFnResultFrom g f ys (i + 1) m = subst (λ (q : F). IsFromFnResultFrom g q ys (i + 1) m) a.0 r.4 in
      ⊎_elim
      (λ (z : i ≡ k). rw (← z, r.2.1 d) a.1)
      (λ (lt : i < k). each_from m (i + 1) (omega arith) rest k d (omega arith) l)
      (eq-or-lt_of_le h)

  pub made_each : IsFromFnResult g f ys n → (k : ℕ) (d : B) → k < n → P (get_or ys k d)
  made_each r k d l = each_from n 0 (omega arith) r.each k d zero-le l
