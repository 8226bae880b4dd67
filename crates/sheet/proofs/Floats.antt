-- Whole numbers as doubles, and their quotients.
--     whole                    a whole number of at most 53 digits, cast, is that number exactly
--     divided_rounds           a quotient of two such numbers is the exact fraction, rounded once
--     divided_by_power         and by a power of two it is the fraction itself
-- Assumes nothing.
use mathlib.Core.Path.{◌≡◌, sym, ap, ◌∙◌, subst}
use mathlib.Core.Bool.{Bool, true, false, cond}
use Prim.Native.Nat.{ℕ, suc, ◌+◌, ◌-◌, ◌*◌, ◌^◌, ◌≤◌, ◌<◌}
use native.Mathlib.Nat.{mul-one, mul_assoc, mul-pos, lt_of_lt_of_le}
use native.Mathlib.Omega.{arith}
use lib.Dec.{eqb}
use lib.IntN.{ℤ, pos, negsuc, nat_abs}
use lib.Pow.{pow-add, pow_pos, pow_mono, shl_lt}
use lib.Ieee.{Float, nan, inf, fin, binary64, up, down, round, of_int, div}
use lib.Ieee.Fits.{down_pos}
use lib.Ieee.Exact.{HasValue, round_exact}
use lib.Ieee.Scale.{round_same}
use lib.Ieee.Positive.{first_pos}
use borrow.Author.Tests.{ne_eqb}
use Rattle.whole.specs.Bounds.{Within}
use Rattle.sheet.specs.Code.{longest}
use Rattle.sheet.specs.Means.{divided_once}
use Rattle.sheet.specs.Promises.{is_negative, IsFraction, Converts, rounded_once}

-- a fraction with a power of two below it, of a number of at most 53 digits
over_power : (s : Bool) (n k : ℕ) → n < 9007199254740992 → k ≤ 1074 → HasValue (round binary64 s n (2 ^ k)) s n (2 ^ k)
over_power s n k h l =
    let e : 1074 - k + k ≡ 1074 = omega arith in
    round_exact binary64 s n (2 ^ k) n (1074 - k) (pow_pos k) h
    (lt_of_lt_of_le (shl_lt 53 (1074 - k) h) (pow_mono {i = 53 + (1074 - k)} {j = 2098} (omega arith)))
    (sym (mul_assoc n (2 ^ (1074 - k)) (2 ^ k) ∙ ap (λ (x : ℕ). n * x) (sym (pow-add 2 (1074 - k) k) ∙ ap (λ (x : ℕ). 2 ^ x) e)))

pub whole : (z : ℤ) → Within longest z → Converts z
unfolding of_int
whole (pos n) h = over_power false n 0 (omega arith) (omega arith)
whole (negsuc n) h = over_power true (suc n) 0 (omega arith) (omega arith)

turned : (a b x y : ℕ) → a * x * y * b ≡ a * (b * y * x)
turned a b x y = omega arith

fraction : (s : Bool) (m n a b : ℕ) (e d : ℤ) → 0 < b → m * up e * 1 ≡ a * down e → n * up d * 1 ≡ b * down d
    → cond (eqb n 0) (cond (eqb m 0) nan (inf s)) (round binary64 s (m * up e * down d) (n * up d * down e)) ≡ round binary64 s a b
fraction s m n a b e d h p q =
    let p' : m * up e ≡ a * down e = sym (mul-one _) ∙ p in
    let q' : n * up d ≡ b * down d = sym (mul-one _) ∙ q in
    let z : 0 < n * up d = subst (λ (k : ℕ). 0 < k) (sym q') (mul-pos h (down_pos d)) in
    let n_pos : 0 < n = first_pos n (up d) z in
    simp (ne_eqb n 0 (λ w. omega arith))
    (round_same binary64 s (m * up e * down d) (n * up d * down e) a b (mul-pos z (down_pos e)) h
    (simp (p', q') (turned a b (down e) (down d))))

-- the quotient of two whole numbers is the exact fraction, rounded once
quotient : (x y : Float) (s : Bool) (a b : ℕ) → 0 < b → HasValue x s a 1 → HasValue y false b 1 → div binary64 x y ≡ round binary64 s a b
unfolding div
quotient nan y s a b h p q = absurd p
quotient (inf t) y s a b h p q = absurd p
quotient (fin t m e) nan s a b h p q = absurd q
quotient (fin t m e) (inf u) s a b h p q = absurd q
quotient (fin t m e) (fin true n d) s a b h p q = let z : ◌≡◌ {A = ℕ} 0 1 = cc q.0 in absurd (omega arith)
quotient (fin true m e) (fin false n d) false a b h p q = let z : ◌≡◌ {A = ℕ} 0 1 = cc p.0 in absurd (omega arith)
quotient (fin false m e) (fin false n d) true a b h p q = let z : ◌≡◌ {A = ℕ} 0 1 = cc p.0 in absurd (omega arith)
quotient (fin true m e) (fin false n d) true a b h p q = fraction true m n a b e d h p.1 q.1
quotient (fin false m e) (fin false n d) false a b h p q = fraction false m n a b e d h p.1 q.1

pub divided_rounds : (z : ℤ) (c : ℕ) → Within longest z → c ≤ longest → 0 < c → divided_once z c ≡ rounded_once z c
divided_rounds z c h l p =
    quotient (of_int binary64 z) (of_int binary64 (pos c)) (is_negative z) (nat_abs z) c p (whole z h) (whole (pos c) (record { size = l }))

pub divided_by_power : (z : ℤ) (c k : ℕ) → Within longest z → c ≤ longest → c ≡ 2 ^ k → k ≤ 1074 → IsFraction (divided_once z c) z c
divided_by_power z c k h l e u =
    let p : 0 < c = subst (λ (n : ℕ). 0 < n) (sym e) (pow_pos k) in
    subst (λ (x : Float). IsFraction x z c) (sym (divided_rounds z c h l p))
    (subst (λ (n : ℕ). HasValue (round binary64 (is_negative z) (nat_abs z) n) (is_negative z) (nat_abs z) n) (sym e) (over_power (is_negative z) (nat_abs z) k (omega (arith, h.size)) u))
