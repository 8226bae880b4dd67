-- A plane as the code computes it.
--     slope_is                  H or V is the difference of two sums of natural numbers
--     rise_small                how far a plane can rise
--     slanted_by                a sample of a plane, by its row and its column
-- Assumes nothing.
use mathlib.Core.Path.{◌≡◌, refl, ap, ◌∙◌}
use mathlib.Core.List.{List, [], ◌∷◌}
use Prim.Native.Nat.{ℕ, zero, suc, ◌+◌, ◌-◌, ◌*◌, ◌/◌, ◌<◌, ◌≤◌}
use native.Mathlib.Omega.{arith}
use lib.IntN.{ℤ, pos, ◌+ℤ◌, ◌-ℤ◌, ◌*ℤ◌}
use lib.ListN.{get_or}
use mir.Syntax.{w32}
use Rattle.lists.specs.Total.{total}
use Rattle.whole.specs.Bounds.{Within}
use Rattle.whole.specs.Clip.{clip}
use Rattle.whole.specs.Notation.{◌>>◌}
use Rattle.whole.specs.Sum.{sum}
use Rattle.whole.proofs.Bound.{within_less}
use Rattle.whole.proofs.Steps.{inp, sub, mul, size_of, at_most, bounded_at}
use Rattle.whole.proofs.Sums.{sum_ext}
use Rattle.whole.proofs.Ring.{ring, var, con, ◌⊕◌, ◌⊖◌, ◌⊗◌}
use Rattle.intra4.specs.Rules.{row_of}
use Rattle.intra4.proofs.Places.{back}
use Rattle.sides.specs.Plane.{slope, slanted}
use Rattle.sides.specs.Code.{rising, falling, rise_of, shown_of}

difference : (h : ℕ) (w f g : ℕ → ℕ) → sum h (λ i. pos (w i) *ℤ (pos (f i) -ℤ pos (g i))) ≡ pos (total h (λ i. w i * f i)) -ℤ pos (total h (λ i. w i * g i))
unfolding total
difference zero w f g = refl
difference (suc h) w f g =
    ap (λ (z : ℤ). z +ℤ pos (w h) *ℤ (pos (f h) -ℤ pos (g h))) (difference h w f g)
    ∙ ring (pos (total h (λ i. w i * f i)) ∷ pos (total h (λ i. w i * g i)) ∷ pos (w h) ∷ pos (f h) ∷ pos (g h) ∷ [])
    ((var 0 ⊖ var 1) ⊕ var 2 ⊗ (var 3 ⊖ var 4)) ((var 0 ⊕ var 2 ⊗ var 3) ⊖ (var 1 ⊕ var 2 ⊗ var 4)) refl

-- what is before the middle, down to the corner, as the code counts it
pub slope_is : (n corner : ℕ) (l : List ℕ) → slope n (row_of (corner ∷ []) l) ≡ pos (rising n l) -ℤ pos (falling n corner l)
unfolding slope rising falling
slope_is n corner l =
    let half = n / 2 in
    sum_ext half
    (λ i. pos (i + 1) *ℤ (pos (get_or l (half + i) 0) -ℤ pos (row_of (corner ∷ []) l (pos half -ℤ pos 2 -ℤ pos i))))
    (λ i. pos (i + 1) *ℤ (pos (get_or l (half + i) 0) -ℤ pos (get_or (corner ∷ l) (half - 1 - i) 0)))
    (λ i h. ap (λ (v : ℕ). pos (i + 1) *ℤ (pos (get_or l (half + i) 0) -ℤ pos v)) (back (corner ∷ l) half 2 i (half - 1 - i) (omega arith)))
    ∙ difference half (λ i. i + 1) (λ i. get_or l (half + i) 0) (λ i. get_or (corner ∷ l) (half - 1 - i) 0)

pub rise_small : (n : ℕ) (b : ℤ) (k : ℕ) → n ≤ 16 → Within 600000 b → k < 16 → Within 20000000 (rise_of n b k)
unfolding rise_of
rise_small n b k h w l =
    let Bs : List ℕ = 600000 ∷ 16 ∷ 8 ∷ [] in
    let ρ : List ℤ = b ∷ pos k ∷ pos (n / 2 - 1) ∷ [] in
    within_less
    (size_of w32 (at_most Bs) ρ (bounded_at Bs ρ refl (w, (record { size = omega arith }, (record { size = omega arith }, tt)))) (mul (inp 0) (sub (inp 1) (inp 2))) tt)
    tt

-- the standard's sum in another order
pub slanted_by : (n : ℕ) (a b c : ℤ) (x y : ℕ) {row rise : ℤ} {v : ℕ} → row ≡ a +ℤ rise_of n c y +ℤ pos 16 → rise ≡ rise_of n b x → v ≡ shown_of row rise
    → v ≡ slanted n a b c x y
unfolding slanted rise_of shown_of
slanted_by n a b c x y p q e =
    e
    ∙ (λ i. shown_of (p i) (q i))
    ∙ ap (λ (z : ℤ). clip 255 (z >> 5))
    (ring (a ∷ b ∷ c ∷ pos x ∷ pos y ∷ pos (n / 2 - 1) ∷ [])
    (((var 0 ⊕ var 2 ⊗ (var 4 ⊖ var 5)) ⊕ con (pos 16)) ⊕ var 1 ⊗ (var 3 ⊖ var 5))
    (((var 0 ⊕ var 1 ⊗ (var 3 ⊖ var 5)) ⊕ var 2 ⊗ (var 4 ⊖ var 5)) ⊕ con (pos 16)) refl)
