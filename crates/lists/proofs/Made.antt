-- What `array::from_fn` makes of a closure that answers the rule of a place and stays as it is.
--     made_tab     the list of the rule
-- Assumes nothing.
use mathlib.Core.Path.{◌≡◌, sym, subst, ◌∙◌}
use mathlib.Core.List.{List}
use mathlib.Core.Logic.{⊎_elim}
use Prim.Native.Nat.{ℕ, zero, suc, ◌+◌, ◌<◌, ◌≤◌, zero-le}
use native.Mathlib.Nat.{eq-or-lt_of_le}
use native.Mathlib.Omega.{arith}
use denote.Param.Members.{Mut, Called}
use lib.ListN.{get_or}
use Rattle.std.specs.Array.{IsFromFnResult, IsFromFnResultFrom}
use Rattle.lists.specs.Tab.{tab}
use Rattle.lists.proofs.Tab.{tab_of}

module _ {F B : Type 0} (g : Mut F (ℕ × Unit {0}) B) (f : F) (ys : List B) (n : ℕ) (rule : ℕ → B)
    (answers : (k : ℕ) (y : B) (q : F) → k < n → Called g f (k, tt) y q → (q ≡ f) × (y ≡ rule k)) where
  made_from : (m i : ℕ) → i + m ≡ n → IsFromFnResultFrom g f ys i m → (k : ℕ) (d : B) → i ≤ k → k < n → get_or ys k d ≡ rule k
  made_from zero i e r k d h l = absurd (omega arith)
  made_from (suc m) i e r k d h l =
      let a = answers i r.1 r.0 (omega arith) r.3 in
      let rest : IsFromFnResultFrom g f ys (i + 1) m = subst (λ (q : F). IsFromFnResultFrom g q ys (i + 1) m) a.0 r.4 in
      ⊎_elim
      (λ (z : i ≡ k). rw (← z) (r.2.1 d ∙ a.1))
      (λ (lt : i < k). made_from m (i + 1) (omega arith) rest k d (omega arith) l)
      (eq-or-lt_of_le h)

  pub made_tab : IsFromFnResult g f ys n → ys ≡ tab n rule
  made_tab r = sym (tab_of n rule ys (rule 0) r.long (λ k l. sym (made_from n 0 (omega arith) r.each k (rule 0) zero-le l)))
