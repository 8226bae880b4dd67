-- Laws of the scales.
--     by_class       a number for each class, at the sixteen places
--     scale_small    a scale times a power of two
--     scaled_block   the scaling rule at k = 0: a level times its scale
--     scaled_is      the scaling rule at every k and period, as the code has it
--     scaled_within  how large the scaling rule's numbers are, over k and the period
--     scalable       which products the code can take, by bounds of number and scale
--     scales_of, scales_fit, rescaled_by     the sixteen scales, that the code can take levels times them, and that these are the rescaled numbers
-- Assumes nothing.
use mathlib.Core.Path.{◌≡◌, sym, ap, subst, ◌∙◌}
use mathlib.Core.Bool.{Bool, true, false, not, cond}
use mathlib.Core.List.{List}
use Prim.Native.Nat.{ℕ, ◌-◌, ◌*◌, ◌/◌, ◌^◌, ◌<◌, ◌≤◌, zero-le}
use native.Mathlib.Nat.{mul-le-mul, mul-le-mul_right, le_of_mul-le-mul_left}
use native.Mathlib.Omega.{arith}
use borrow.Author.Tests.{le-leb}
use lib.Dec.{T, leb, leb→le, nleb→lt}
use lib.IntN.{ℤ, pos, ◌+ℤ◌, ◌*ℤ◌, +ℤ_idr}
use lib.ListN.{get_or}
use lib.Pow.{pow_mono, pow_pos, pow-lt, pow-add}
use lib.Signed.{shr_z}
use Rattle.lists.specs.Tab.{tab}
use Rattle.lists.proofs.Tab.{tab_same, get_d_tab}
use Rattle.quantizer.specs.Range.{highest, period_of, remainder_of}
use Rattle.quantizer.specs.Tables.{v_of, of_class, class_at_place}
use Rattle.quantizer.specs.declared.Class.{Class}
use Rattle.quantizer.specs.declared.Class.TheVariants.{A, B, C}
use Rattle.quantizer.proofs.Tables.{of_class_law, v_small}
use Rattle.whole.specs.Bounds.{Within, Each}
use Rattle.whole.proofs.Bound.{abs_mul, shr_within}
use Rattle.whole.proofs.Laws.{*ℤ_assoc, shr_one}
use Rattle.whole.proofs.Steps.{each_at}
use Rattle.residual.specs.Rescale.{scaled_by, Scalable, v_at, rescaled}

-- of a number for each class, those of the places
pub by_class : (f : Class → ℕ) (a b c : ℕ) → a ≡ f A → b ≡ f B → c ≡ f C → tab 16 (λ place. of_class a b c (class_at_place place)) ≡ tab 16 (λ place. f (class_at_place place))
by_class f a b c p q r = (λ i. tab 16 (λ place. of_class (p i) (q i) (r i) (class_at_place place))) ∙ tab_same 16 _ _ (λ place h. of_class_law f (class_at_place place))

pub scale_small : (qp power : ℕ) → power ≤ 8 → (class : Class) → v_of (remainder_of qp) class * 2 ^ power ≤ 7424
scale_small qp power h class = mul-le-mul (v_small (remainder_of qp) (omega arith) class) (pow_mono {i = power} {j = 8} h)

-- x times v, times 2^p, is x times the scale
pub scaled_block : (p v : ℕ) (x : ℤ) → x *ℤ pos (v * 2 ^ p) ≡ scaled_by 0 p (x *ℤ pos v)
unfolding scaled_by
scaled_block p v x =
    let whole : p - 0 ≡ p = omega arith in
    rw (le-leb 0 p zero-le, whole) (sym (*ℤ_assoc x (pos v) (pos (2 ^ p))))

power_parts : (i j : ℕ) → i ≤ j → 2 ^ i * 2 ^ (j - i) ≡ 2 ^ j
power_parts i j h = sym (pow-add 2 i (j - i)) ∙ ap (λ (n : ℕ). 2 ^ n) (omega arith)

-- no shift, and nothing added
unshifted : (z : ℤ) → shr_z (z +ℤ pos 0) 1 ≡ z
unshifted z = shr_one (z +ℤ pos 0) ∙ +ℤ_idr z

-- up by what the period is above k, and down, with a half added, by what it is below
pub scaled_is : (k p v : ℕ) (x : ℤ) → shr_z (x *ℤ pos (v * 2 ^ (p - k)) +ℤ pos (2 ^ (k - p) / 2)) (2 ^ (k - p)) ≡ scaled_by k p (x *ℤ pos v)
unfolding scaled_by
scaled_is k p v x = by (leb k p) (leb→le k p) (nleb→lt k p)
  where
    by : (c : Bool) → (T c → k ≤ p) → (T (not c) → p < k)
        → shr_z (x *ℤ pos (v * 2 ^ (p - k)) +ℤ pos (2 ^ (k - p) / 2)) (2 ^ (k - p))
        ≡ cond c (x *ℤ pos v *ℤ pos (2 ^ (p - k))) (shr_z (x *ℤ pos v +ℤ pos (2 ^ (k - p - 1))) (2 ^ (k - p)))
    by true f g =
        let h = f tt in
        let none : k - p ≡ 0 = omega arith in
        rw none (unshifted (x *ℤ pos (v * 2 ^ (p - k))) ∙ sym (*ℤ_assoc x (pos v) (pos (2 ^ (p - k)))))
    by false f g =
        let h = g tt in
        let none : p - k ≡ 0 = omega arith in
        let one : v * 1 ≡ v = omega arith in
        let half : 2 ^ (k - p) / 2 ≡ 2 ^ (k - p - 1) = omega (arith, power_parts 1 (k - p) (omega arith)) in
        rw (none, one, half)

-- numbers up to M come to N at the most where M * 2^p is no more than 2^k * N
pub scaled_within : (k p M N : ℕ) → M * 2 ^ p ≤ 2 ^ k * N → (x : ℤ) → Within M x → Within N (scaled_by k p x)
unfolding scaled_by
scaled_within k p M N room x w = by (leb k p) (leb→le k p) (nleb→lt k p)
  where
    by : (c : Bool) → (T c → k ≤ p) → (T (not c) → p < k)
        → Within N (cond c (x *ℤ pos (2 ^ (p - k))) (shr_z (x +ℤ pos (2 ^ (k - p - 1))) (2 ^ (k - p))))
    by true f g =
        let h = f tt in
        let split : 2 ^ k * 2 ^ (p - k) ≡ 2 ^ p = power_parts k p h in
        let most : M * 2 ^ (p - k) ≤ N = le_of_mul-le-mul_left {k = 2 ^ k} (omega (arith, ap (λ (n : ℕ). M * n) split)) (pow_pos k) in
        let size = mul-le-mul_right (2 ^ (p - k)) w.size in
        record { size = omega (arith, abs_mul x (pos (2 ^ (p - k)))) }
    by false f g =
        let h = g tt in
        let split : 2 ^ p * 2 ^ (k - p) ≡ 2 ^ k = power_parts p k (omega arith) in
        let most : M ≤ 2 ^ (k - p) * N = le_of_mul-le-mul_left {k = 2 ^ p} (omega (arith, ap (λ (n : ℕ). n * N) split)) (pow_pos p) in
        shr_within (2 ^ (k - p)) N (2 ^ (k - p - 1)) (pow-lt (omega arith)) x (record { size = omega arith })

-- numbers up to M times a scale up to N
pub scalable : (M scale N : ℕ) {x : ℤ} → Within M x → scale ≤ N → T (leb N 29696) → T (leb (M * N) 973078528) → Scalable x scale
scalable M scale N {x} w h low room = record {
  low = omega (arith, leb→le N 29696 low);
  product = record { size = omega (arith, abs_mul x (pos scale), mul-le-mul w.size h, leb→le (M * N) 973078528 room) };
}

abbrev pub scales_of : ℕ → List ℕ
scales_of qp = tab 16 (λ place. v_at qp place * 2 ^ period_of qp)

pub scales_fit : (qp : ℕ) (levels : List ℤ) (place : ℕ) → qp ≤ highest → Each 32768 levels → place < 16
    → Scalable (get_or levels place (pos 0)) (get_or (scales_of qp) place 0)
scales_fit qp levels place h e l =
    subst (Scalable (get_or levels place (pos 0))) (sym (get_d_tab 16 (λ k. v_at qp k * 2 ^ period_of qp) place 0 l))
    (scalable 32768 (v_at qp place * 2 ^ period_of qp) 7424 (each_at 32768 levels e place) (scale_small qp (period_of qp) (omega arith) (class_at_place place)) tt tt)

pub rescaled_by : (qp : ℕ) (levels : List ℤ)
    → tab 16 (λ place. shr_z (get_or levels place (pos 0) *ℤ pos (get_or (scales_of qp) place 0) +ℤ pos 0) 1) ≡ rescaled qp levels
unfolding rescaled
rescaled_by qp levels =
    tab_same 16 _ _
    (λ place l.
    unshifted (get_or levels place (pos 0) *ℤ pos (get_or (scales_of qp) place 0))
    ∙ ap (λ (n : ℕ). get_or levels place (pos 0) *ℤ pos n) (get_d_tab 16 (λ k. v_at qp k * 2 ^ period_of qp) place 0 l)
    ∙ scaled_block (period_of qp) (v_at qp place) (get_or levels place (pos 0)))
