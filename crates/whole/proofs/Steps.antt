-- Straight-line signed code, reflected: written once more as a `Code`, it is proved not to overflow by one test that the checker computes, and then
-- what the machine computes is the same expression over ℤ. The proof of the test is `tt`.
--     Code: inp, num, add, sub, mul, shr              an expression over the numbers of a list ρ
--     raw, read, ideal, expression                    what the machine computes, with the operands read back from their bits; what it reads back from the
--                                                     result's bits; the same over ℤ; the same for the solver `ring`
--     most, ok, most_of, ok_of                        the largest size of the result; no step overflows. Of numbers up to B, or each up to its own bound
--     safe, exact, sized, safe_of, exact_of, size_of  the last step does not overflow; what is read back is the ideal; its size
--     each_at, Bounded, at_most, bounded_at           the bounds of a list, one for all or one for each, by place
-- Assumes nothing.
use mathlib.Core.Path.{◌≡◌}
use mathlib.Core.List.{List, [], ◌∷◌}
use mathlib.Core.Bool.{Bool, ◌&&◌}
use Prim.Native.Nat.{ℕ, zero, suc, ◌+◌, ◌*◌, ◌^◌, zero-le}
use native.Mathlib.Omega.{arith}
use lib.IntN.{ℤ, pos, nat_abs, ◌+ℤ◌, ◌-ℤ◌, ◌*ℤ◌}
use lib.ListN.{get_or, length}
use lib.Signed.{shr_z}
use lib.Dec.{T, ltb}
use mir.Syntax.{Width}
use mir.Val.{to_z, of_z, SFits, hbits}
use Rattle.lists.proofs.Every.{both_left, both_right}
use Rattle.whole.specs.Bounds.{Within, Each}
use Rattle.whole.proofs.Ring.{Expression, var, con, ◌⊕◌, ◌⊖◌, ◌⊗◌}
use Rattle.whole.proofs.Bound.{Reads, here, literal, plus, minus, times, shift, fits, wrap}

pub data Code : Type 0 where
  inp : ℕ → Code
  num : ℤ → Code
  add : Code → Code → Code
  sub : Code → Code → Code
  mul : Code → Code → Code
  shr : Code → ℕ → Code

module _ (w : Width) (ρ : List ℤ) where
  abbrev pub raw : Code → ℤ
  raw (inp i) = get_or ρ i (pos 0)
  raw (num z) = z
  raw (add a b) = to_z w (of_z w (raw a)) +ℤ to_z w (of_z w (raw b))
  raw (sub a b) = to_z w (of_z w (raw a)) -ℤ to_z w (of_z w (raw b))
  raw (mul a b) = to_z w (of_z w (raw a)) *ℤ to_z w (of_z w (raw b))
  raw (shr a n) = shr_z (to_z w (of_z w (raw a))) (2 ^ n)

abbrev pub read : Width → List ℤ → Code → ℤ
read w ρ e = to_z w (of_z w (raw w ρ e))

abbrev pub ideal : List ℤ → Code → ℤ
ideal ρ (inp i) = get_or ρ i (pos 0)
ideal ρ (num z) = z
ideal ρ (add a b) = ideal ρ a +ℤ ideal ρ b
ideal ρ (sub a b) = ideal ρ a -ℤ ideal ρ b
ideal ρ (mul a b) = ideal ρ a *ℤ ideal ρ b
ideal ρ (shr a n) = shr_z (ideal ρ a) (2 ^ n)

-- ---- the computed test

-- how large the result can be where the i-th variable is at most β i
abbrev pub most_of : (ℕ → ℕ) → Code → ℕ
most_of β (inp i) = β i
most_of β (num z) = nat_abs z
most_of β (add a b) = most_of β a + most_of β b
most_of β (sub a b) = most_of β a + most_of β b
most_of β (mul a b) = most_of β a * most_of β b
most_of β (shr a n) = most_of β a

-- no step overflows
abbrev pub ok_of : Width → (ℕ → ℕ) → Code → Bool
ok_of w β (inp i) = ltb (β i) (2 ^ hbits w)
ok_of w β (num z) = ltb (nat_abs z) (2 ^ hbits w)
ok_of w β (add a b) = ltb (most_of β a + most_of β b) (2 ^ hbits w) && (ok_of w β a && ok_of w β b)
ok_of w β (sub a b) = ltb (most_of β a + most_of β b) (2 ^ hbits w) && (ok_of w β a && ok_of w β b)
ok_of w β (mul a b) = ltb (most_of β a * most_of β b) (2 ^ hbits w) && (ok_of w β a && ok_of w β b)
ok_of w β (shr a n) = ltb (most_of β a) (2 ^ hbits w) && ok_of w β a

-- the same where every variable is at most B
abbrev pub most : ℕ → Code → ℕ
most B e = most_of (λ i. B) e

abbrev pub ok : Width → ℕ → Code → Bool
ok w B e = ok_of w (λ i. B) e

-- ---- the machine's number is the ideal one

pub each_at : (B : ℕ) (l : List ℤ) → Each B l → (i : ℕ) → Within B (get_or l i (pos 0))
each_at B [] h i = record { size = zero-le }
each_at B (z ∷ l) h zero = h.0
each_at B (z ∷ l) h (suc i) = each_at B l h.1 i

-- the test of the last step, and those of its two operands
last : (w : Width) (β : ℕ → ℕ) (e : Code) → T (ok_of w β e) → T (ltb (most_of β e) (2 ^ hbits w))
last w β (inp i) t = t
last w β (num z) t = t
last w β (add a b) t = both_left (ltb (most_of β (add a b)) (2 ^ hbits w)) (ok_of w β a && ok_of w β b) t
last w β (sub a b) t = both_left (ltb (most_of β (sub a b)) (2 ^ hbits w)) (ok_of w β a && ok_of w β b) t
last w β (mul a b) t = both_left (ltb (most_of β (mul a b)) (2 ^ hbits w)) (ok_of w β a && ok_of w β b) t
last w β (shr a n) t = both_left (ltb (most_of β a) (2 ^ hbits w)) (ok_of w β a) t

both : (w : Width) (β : ℕ → ℕ) (a b : Code) (m : ℕ) → T (ltb m (2 ^ hbits w) && (ok_of w β a && ok_of w β b)) → T (ok_of w β a) × T (ok_of w β b)
both w β a b m t =
    let u = both_right (ltb m (2 ^ hbits w)) (ok_of w β a && ok_of w β b) t in
    (both_left (ok_of w β a) (ok_of w β b) u, both_right (ok_of w β a) (ok_of w β b) u)

module _ (w : Width) (β : ℕ → ℕ) (ρ : List ℤ) (h : (i : ℕ) → Within (β i) (get_or ρ i (pos 0))) where
  raws : (e : Code) → T (ok_of w β e) → Reads (most_of β e) (raw w ρ e) (ideal ρ e)
  raws (inp i) t = here (h i)
  raws (num z) t = literal z
  raws (add a b) t =
      let s = both w β a b (most_of β (add a b)) t in
      plus (wrap w (raws a s.0) (last w β a s.0)) (wrap w (raws b s.1) (last w β b s.1))
  raws (sub a b) t =
      let s = both w β a b (most_of β (sub a b)) t in
      minus (wrap w (raws a s.0) (last w β a s.0)) (wrap w (raws b s.1) (last w β b s.1))
  raws (mul a b) t =
      let s = both w β a b (most_of β (mul a b)) t in
      times (wrap w (raws a s.0) (last w β a s.0)) (wrap w (raws b s.1) (last w β b s.1))
  raws (shr a n) t =
      let s = both_right (ltb (most_of β a) (2 ^ hbits w)) (ok_of w β a) t in
      shift (2 ^ n) (wrap w (raws a s) (last w β a s))

  -- the result of the expression's last step fits
  pub safe_of : (e : Code) → T (ok_of w β e) → SFits w (raw w ρ e)
  safe_of e t = fits (raws e t) (last w β e t)

  -- what is read back is the number
  pub exact_of : (e : Code) → T (ok_of w β e) → read w ρ e ≡ ideal ρ e
  exact_of e t = (wrap w (raws e t) (last w β e t)).is

  -- and is no larger than computed
  pub size_of : (e : Code) → T (ok_of w β e) → Within (most_of β e) (ideal ρ e)
  size_of e t = record { size = (raws e t).small }

-- ---- bounds by a list, one for each variable

abbrev pub Bounded : List ℕ → List ℤ → Type 0
Bounded [] ρ = Unit {0}
Bounded (B ∷ Bs) [] = Unit {0}
Bounded (B ∷ Bs) (z ∷ ρ) = Within B z × Bounded Bs ρ

abbrev pub at_most : List ℕ → ℕ → ℕ
at_most Bs i = get_or Bs i 0

pub bounded_at : (Bs : List ℕ) (ρ : List ℤ) → length ρ ≡ length Bs → Bounded Bs ρ → (i : ℕ) → Within (at_most Bs i) (get_or ρ i (pos 0))
bounded_at [] [] e h i = record { size = zero-le }
bounded_at [] (z ∷ ρ) e h i = absurd (omega arith)
bounded_at (B ∷ Bs) [] e h i = absurd (omega arith)
bounded_at (B ∷ Bs) (z ∷ ρ) e h zero = h.0
bounded_at (B ∷ Bs) (z ∷ ρ) e h (suc i) = bounded_at Bs ρ (omega arith) h.1 i

-- ---- one bound for all

module _ (w : Width) (B : ℕ) (ρ : List ℤ) (h : Each B ρ) where
  pub safe : (e : Code) → T (ok w B e) → SFits w (raw w ρ e)
  safe e t = safe_of w (λ i. B) ρ (each_at B ρ h) e t

  pub exact : (e : Code) → T (ok w B e) → read w ρ e ≡ ideal ρ e
  exact e t = exact_of w (λ i. B) ρ (each_at B ρ h) e t

  pub sized : (e : Code) → T (ok w B e) → Within (most B e) (ideal ρ e)
  sized e t = size_of w (λ i. B) ρ (each_at B ρ h) e t

-- for the solver, of code without a shift: `value ρ (expression e)` computes to `ideal ρ e`
abbrev pub expression : Code → Expression
expression (inp i) = var i
expression (num z) = con z
expression (add a b) = expression a ⊕ expression b
expression (sub a b) = expression a ⊖ expression b
expression (mul a b) = expression a ⊗ expression b
expression (shr a n) = expression a
