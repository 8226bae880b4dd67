-- How far a level is from the number that it stands for, over s = 0, 1, 2: with D the divisor 2^(q+s), no more than two thirds of D and 2^s.
--     quotient_high, quotient_low     a quotient rounded down, with a third of the divisor added first, times the divisor, against the number
--     size_high, size_low             a level's size: a third of D above, two thirds below
--     signed_near, level_near         the signed level, times D, against mf y
--     miss_of, level_misses            the same as a bound
-- Assumes nothing.
use mathlib.Core.Path.{◌≡◌, sym, ◌∙◌}
use Prim.Native.Nat.{ℕ, ◌+◌, ◌-◌, ◌*◌, ◌/◌, ◌^◌, ◌<◌, ◌≤◌}
use native.Mathlib.Nat.{mul-le-mul_left, mul_comm, div-mul-le_self, div-lt_iff_lt-mul}
use native.Mathlib.Omega.{arith}
use lib.IntN.{ℤ, pos, negsuc, nat_abs, ◌-ℤ◌, ◌*ℤ◌}
use lib.Pow.{pow_pos, pow-add}
use Rattle.whole.specs.Bounds.{Within}
use Rattle.whole.proofs.Laws.{Diff, diff_self, diff_neg, diff_minus, diff_mul}
use Rattle.residual.specs.Quantize.{signed, level_by, level_of, f_of, q_of}

-- what a size is divided by
abbrev pub divisor_of : ℕ → ℕ → ℕ
divisor_of s p = 2 ^ (q_of p + s)

-- ---- in natural numbers

-- (x + f) / d rounded down, times d, where f is at most a third of d, and 3 f is at most 2 c short of d
pub quotient_high : (f d x : ℕ) → 3 * f ≤ d → 3 * ((x + f) / d * d) ≤ 3 * x + d
quotient_high f d x h = omega (arith, div-mul-le_self (x + f) d)

pub quotient_low : (f d c x : ℕ) → 0 < d → d ≤ 3 * f + 2 * c → 3 * x + 3 ≤ 3 * ((x + f) / d * d) + (2 * d + 2 * c)
quotient_low f d c x some h =
    let next : x + f < ((x + f) / d + 1) * d = (div-lt_iff_lt-mul {k = d} {x = x + f} {y = (x + f) / d + 1} some).0 (omega arith) in
    omega (arith, next)

module _ (s p : ℕ) where
  -- the divisor is 2^s times 2^q, and what is added is a third of it
  divisor_parts : 2 ^ s * 2 ^ q_of p ≡ divisor_of s p
  divisor_parts = mul_comm (2 ^ s) (2 ^ q_of p) ∙ sym (pow-add 2 (q_of p) s)

  third_high : 3 * (2 ^ s * f_of p) ≤ divisor_of s p
  third_high =
      let third : 3 * f_of p ≤ 2 ^ q_of p = omega arith in
      omega (arith, mul-le-mul_left (2 ^ s) third, divisor_parts)

  third_low : divisor_of s p ≤ 3 * (2 ^ s * f_of p) + 2 * 2 ^ s
  third_low =
      let third : 2 ^ q_of p ≤ 3 * f_of p + 2 = omega arith in
      omega (arith, mul-le-mul_left (2 ^ s) third, divisor_parts)

  module _ (x : ℕ) where
    pub size_high : 3 * ((x + 2 ^ s * f_of p) / divisor_of s p * divisor_of s p) ≤ 3 * x + divisor_of s p
    size_high = quotient_high (2 ^ s * f_of p) (divisor_of s p) x third_high

    pub size_low : 3 * x + 3 ≤ 3 * ((x + 2 ^ s * f_of p) / divisor_of s p * divisor_of s p) + (2 * divisor_of s p + 2 * 2 ^ s)
    size_low = quotient_low (2 ^ s * f_of p) (divisor_of s p) (2 ^ s) x (pow_pos (q_of p + s)) third_low

-- ---- with the sign

-- z is a minus b, which are near each other
near_by : (m : ℕ) {z : ℤ} {a b : ℕ} → Diff z a b → 3 * a + 3 ≤ 3 * b + m → 3 * b + 3 ≤ 3 * a + m → 3 * nat_abs z + 3 ≤ m
near_by m {z = pos n} d h k = omega arith
near_by m {z = negsuc n} d h k = omega arith

-- a size with the sign of y is as near to what y stands for as the size is
pub signed_near : (d mf m : ℕ) (y : ℤ) (size : ℕ) → 3 * (size * d) + 3 ≤ 3 * (nat_abs y * mf) + m → 3 * (nat_abs y * mf) + 3 ≤ 3 * (size * d) + m
    → 3 * nat_abs (pos d *ℤ signed y size -ℤ pos mf *ℤ y) + 3 ≤ m
signed_near d mf m (pos n) size h l =
    near_by m (diff_minus (diff_mul (diff_self (pos d)) (diff_self (pos size))) (diff_mul (diff_self (pos mf)) (diff_self (pos n)))) (omega (arith, h)) (omega (arith, l))
signed_near d mf m (negsuc n) size h l =
    near_by m (diff_minus (diff_mul (diff_self (pos d)) (diff_neg (diff_self (pos size)))) (diff_mul (diff_self (pos mf)) (diff_self (negsuc n)))) (omega (arith, l)) (omega (arith, h))

pub level_near : (s p mf : ℕ) (y : ℤ) → 3 * nat_abs (pos (divisor_of s p) *ℤ level_of s p mf y -ℤ pos mf *ℤ y) + 3 ≤ 2 * divisor_of s p + 2 * 2 ^ s
unfolding level_by
level_near s p mf y =
    signed_near (divisor_of s p) mf (2 * divisor_of s p + 2 * 2 ^ s) y ((nat_abs y * mf + 2 ^ s * f_of p) / divisor_of s p)
    (omega (arith, size_high s p (nat_abs y * mf), pow_pos s, pow_pos (q_of p + s)))
    (size_low s p (nat_abs y * mf))

-- the greatest distance
abbrev pub miss_of : ℕ → ℕ → ℕ
miss_of s p = (2 * divisor_of s p + 2 * 2 ^ s - 3) / 3

pub level_misses : (s p mf : ℕ) (y : ℤ) → Within (miss_of s p) (pos (divisor_of s p) *ℤ level_of s p mf y -ℤ pos mf *ℤ y)
level_misses s p mf y = record { size = omega (arith, level_near s p mf y) }
