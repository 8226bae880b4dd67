-- Lists of whole numbers: bounds on each, numbers that are read back from their bits, and several results of straight-line code at once.
--     each_less, each_from, each_tab, each_gather         bounds of a list
--     each_take, each_drop, each_append, each_parts       of its parts, and of what is put together
--     reads: plain                                        numbers read back from their bits are the numbers
--     gather                                              the numbers at a list of places
--     raws_of, ideals, expressions; oks, mosts            a list of `Code`, as `raw`, `ideal`, `expression`, `ok` and `most` of each
--     exacts, sizes                                       each is exact; each is at most M
-- Assumes nothing.
use mathlib.Core.Path.{◌≡◌, refl, sym, subst}
use mathlib.Core.List.{List, [], ◌∷◌, ◌++◌, map}
use mathlib.Core.Bool.{Bool, true, ◌&&◌}
use Prim.Native.Nat.{ℕ, zero, suc, ◌^◌, ◌<◌}
use native.Mathlib.Omega.{arith}
use lib.IntN.{ℤ, pos}
use lib.ListN.{length, get_or, take, drop}
use lib.Dec.{T, ltb, leb}
use mir.Syntax.{Width}
use mir.Val.{to_z, of_z, hbits}
use Rattle.lists.proofs.Every.{both_left, both_right}
use Rattle.lists.specs.Parts.{parts}
use Rattle.lists.specs.Tab.{tab}
use Rattle.lists.proofs.Tab.{length_tab, get_d_tab}
use Rattle.whole.specs.Bounds.{Within, Each}
use Rattle.whole.proofs.Ring.{Expression}
use Rattle.whole.proofs.Bound.{here, wrap, within_less}
use Rattle.whole.proofs.Steps.{Code, raw, ideal, expression, ok, most, each_at, exact, sized}

-- ---- numbers that are read back from their bits

abbrev pub reads : Width → List ℤ → List ℤ
reads w l = map (λ (z : ℤ). to_z w (of_z w z)) l

-- of a list within B that fits the width they are the list
pub plain : (w : Width) (B : ℕ) (l : List ℤ) → Each B l → T (ltb B (2 ^ hbits w)) → reads w l ≡ l
plain w B [] h t = refl
plain w B (z ∷ l) h t = λ i. (wrap w (here h.0) t).is i ∷ plain w B l h.1 t i

pub each_less : (A B : ℕ) (l : List ℤ) → Each A l → T (leb A B) → Each B l
each_less A B [] h t = tt
each_less A B (z ∷ l) h t = (within_less h.0 t, each_less A B l h.1 t)

-- from the bound at each place
pub each_from : (B : ℕ) (l : List ℤ) → ((i : ℕ) → i < length l → Within B (get_or l i (pos 0))) → Each B l
each_from B [] h = tt
each_from B (z ∷ l) h = (h 0 (omega arith), each_from B l (λ i m. h (suc i) (omega arith)))

-- from the bound of its rule
pub each_tab : (B n : ℕ) (f : ℕ → ℤ) → ((k : ℕ) → k < n → Within B (f k)) → Each B (tab n f)
each_tab B n f h =
    each_from B (tab n f)
    (λ i l.
    let m : i < n = rw length_tab at l in
    subst (λ (z : ℤ). Within B z) (sym (get_d_tab n f i (pos 0) m)) (h i m))

-- of parts, and of what is put together
pub each_take : (B n : ℕ) (l : List ℤ) → Each B l → Each B (take n l)
each_take B zero l h = tt
each_take B (suc n) [] h = tt
each_take B (suc n) (z ∷ l) h = (h.0, each_take B n l h.1)

pub each_drop : (B n : ℕ) (l : List ℤ) → Each B l → Each B (drop n l)
each_drop B zero l h = h
each_drop B (suc n) [] h = tt
each_drop B (suc n) (z ∷ l) h = each_drop B n l h.1

pub each_append : (B : ℕ) (l r : List ℤ) → Each B l → Each B r → Each B (l ++ r)
each_append B [] r h k = k
each_append B (z ∷ l) r h k = (h.0, each_append B l r h.1 k)

pub each_parts : (B n : ℕ) (f : ℕ → List ℤ) → ((k : ℕ) → k < n → Each B (f k)) → Each B (parts n f)
unfolding parts
each_parts B zero f h = tt
each_parts B (suc n) f h = each_append B (parts n f) (f n) (each_parts B n f (λ k l. h k (omega arith))) (h n (omega arith))

-- the numbers of l at the places of a list of places
abbrev pub gather : List ℕ → List ℤ → List ℤ
gather is l = map (λ (i : ℕ). get_or l i (pos 0)) is

pub each_gather : (B : ℕ) (is : List ℕ) (l : List ℤ) → Each B l → Each B (gather is l)
each_gather B [] l h = tt
each_gather B (i ∷ is) l h = (each_at B l h i, each_gather B is l h)

-- ---- several results at once

abbrev pub raws_of : Width → List ℤ → List Code → List ℤ
raws_of w ρ es = map (raw w ρ) es

abbrev pub ideals : List ℤ → List Code → List ℤ
ideals ρ es = map (ideal ρ) es

abbrev pub expressions : List Code → List Expression
expressions es = map expression es

abbrev pub all : {A : Type 0} → (A → Bool) → List A → Bool
all p [] = true
all p (x ∷ l) = p x && all p l

abbrev pub oks : Width → ℕ → List Code → Bool
oks w B es = all (ok w B) es

abbrev pub mosts : ℕ → ℕ → List Code → Bool
mosts B M es = all (λ (e : Code). leb (most B e) M) es

module _ (w : Width) (B : ℕ) (ρ : List ℤ) (h : Each B ρ) where
  -- what is read back from each result's bits is the number
  pub exacts : (es : List Code) → T (oks w B es) → reads w (raws_of w ρ es) ≡ ideals ρ es
  exacts [] t = refl
  exacts (e ∷ es) t = λ i. exact w B ρ h e (both_left (ok w B e) (oks w B es) t) i ∷ exacts es (both_right (ok w B e) (oks w B es) t) i

  -- and M is a bound of each
  pub sizes : (M : ℕ) (es : List Code) → T (oks w B es) → T (mosts B M es) → Each M (ideals ρ es)
  sizes M [] t u = tt
  sizes M (e ∷ es) t u = (
    within_less (sized w B ρ h e (both_left (ok w B e) (oks w B es) t)) (both_left (leb (most B e) M) (mosts B M es) u),
    sizes M es (both_right (ok w B e) (oks w B es) t) (both_right (leb (most B e) M) (mosts B M es) u),
  )
