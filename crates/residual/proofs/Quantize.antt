-- Laws of the quantizing rule.
--     signed_low, signed_high        the sign by the code's test
--     third_small, multipliers_small what is added, and the sixteen multipliers
--     quantized_by                   a block's levels over these
--     level_within                   how large a level is, over s: the sizes and the multiplier decide, the period does not
-- Assumes nothing.
use mathlib.Core.Path.{◌≡◌, refl, sym, ap, subst, ◌∙◌}
use mathlib.Core.Bool.{true, false}
use mathlib.Core.List.{List}
use Prim.Native.Nat.{ℕ, ◌+◌, ◌*◌, ◌/◌, ◌^◌, ◌<◌, ◌≤◌}
use native.Mathlib.Nat.{mul-le-mul, mul-le-mul_left, mul_comm, div-le_self, div-lt_iff_lt-mul}
use native.Mathlib.Omega.{arith}
use borrow.Author.Differences.{ints}
use lib.Dec.{T, ltb, ltb→lt}
use lib.IntN.{ℤ, pos, negsuc, neg_ℤ, nat_abs, ◌-ℤ◌, +ℤ_idl}
use lib.ListN.{get_or}
use lib.Pow.{pow_mono, pow_pos, pow-add}
use lib.Signed.{lt_z}
use Rattle.lists.specs.Tab.{tab}
use Rattle.lists.proofs.Tab.{tab_same, get_d_tab}
use Rattle.whole.specs.Bounds.{Within}
use Rattle.whole.proofs.Bound.{abs_neg}
use Rattle.transform.specs.Forward.{forward}
use Rattle.quantizer.specs.Range.{period_of, remainder_of}
use Rattle.quantizer.specs.Tables.{class_at_place}
use Rattle.quantizer.proofs.Tables.{mf_small}
use Rattle.residual.specs.Levels.{quantized}
use Rattle.residual.specs.Quantize.{signed, level_by, level_of, f_of, q_of}
use Rattle.residual.specs.Rescale.{mf_at}

pub signed_low : (y : ℤ) (size : ℕ) → lt_z y (pos 0) ≡ true → pos 0 -ℤ pos size ≡ signed y size
signed_low (pos n) size e = absurd (omega (arith, ints))
signed_low (negsuc n) size e = +ℤ_idl (neg_ℤ (pos size))

pub signed_high : (y : ℤ) (size : ℕ) → lt_z y (pos 0) ≡ false → pos size ≡ signed y size
signed_high (pos n) size e = refl
signed_high (negsuc n) size e = absurd (omega (arith, ints))

pub third_small : (p : ℕ) → p ≤ 8 → f_of p ≤ 2796202
third_small p h = omega (arith, pow_mono {i = q_of p} {j = 23} (omega arith))

pub multipliers_small : (qp place : ℕ) → place < 16 → get_or (tab 16 (mf_at qp)) place 0 ≤ 13107
multipliers_small qp place h =
    subst (λ (n : ℕ). n ≤ 13107) (sym (get_d_tab 16 (mf_at qp) place 0 h)) (mf_small (remainder_of qp) (omega arith) (class_at_place place))

-- the rule at s = 0
level_block : (p mf : ℕ) (y : ℤ) → level_by mf (f_of p) (2 ^ q_of p) y ≡ level_of 0 p mf y
level_block p mf y =
    let f : f_of p ≡ 2 ^ 0 * f_of p = omega arith in
    let q : q_of p ≡ q_of p + 0 = omega arith in
    λ i. level_by mf (f i) (2 ^ q i) y

pub quantized_by : (qp : ℕ) (residual : List ℤ)
    → tab 16 (λ place. level_by (get_or (tab 16 (mf_at qp)) place 0) (f_of (period_of qp)) (2 ^ q_of (period_of qp)) (get_or (forward residual) place (pos 0))) ≡ quantized qp residual
unfolding quantized
quantized_by qp residual =
    tab_same 16 _ _
    (λ place h.
    ap (λ (mf : ℕ). level_by mf (f_of (period_of qp)) (2 ^ q_of (period_of qp)) (get_or (forward residual) place (pos 0))) (get_d_tab 16 (mf_at qp) place 0 h)
    ∙ level_block (period_of qp) (mf_at qp place) (get_or (forward residual) place (pos 0)))

-- ---- how large a level is

pub size_signed : (y : ℤ) (size : ℕ) → nat_abs (signed y size) ≡ size
size_signed (pos y) size = refl
size_signed (negsuc y) size = abs_neg (pos size)

-- numbers up to B and a multiplier up to M give levels up to K where B * M is below K * 2^(15+s): at literals the test is `tt`
pub level_within : (s p mf B M K : ℕ) (y : ℤ) → Within B y → mf ≤ M → T (ltb (B * M) (K * 2 ^ (15 + s))) → Within K (level_of s p mf y)
unfolding level_by
level_within s p mf B M K y b m t =
    let product = mul-le-mul b.size m in
    let below = ltb→lt (B * M) (K * 2 ^ (15 + s)) t in
    let grown = mul-le-mul_left K (pow_mono {i = 15 + s} {j = q_of p + s} (omega arith)) in
    let third : 2 ^ s * f_of p ≤ 2 ^ s * 2 ^ q_of p = mul-le-mul_left (2 ^ s) (div-le_self (2 ^ q_of p) 3) in
    let whole : 2 ^ s * 2 ^ q_of p ≡ 2 ^ (q_of p + s) = mul_comm (2 ^ s) (2 ^ q_of p) ∙ sym (pow-add 2 (q_of p) s) in
    let small : (nat_abs y * mf + 2 ^ s * f_of p) / 2 ^ (q_of p + s) < K + 1 =
    (div-lt_iff_lt-mul {k = 2 ^ (q_of p + s)} {x = nat_abs y * mf + 2 ^ s * f_of p} {y = K + 1} (pow_pos (q_of p + s))).1 (omega arith) in
    record { size = omega (arith, size_signed y ((nat_abs y * mf + 2 ^ s * f_of p) / 2 ^ (q_of p + s))) }
