-- A test of a signed number that is read back from its bits; clipping and the absolute value by such tests, which the kit's `ints` reads.
--     plain_lt                                                      a test of a number that is read back from its bits
--     size_low                                                      the absolute value
--     clip_same, clip_clamped, clip_le, clip_nearer                 clipping
-- Assumes nothing.
use mathlib.Core.Path.{◌≡◌, refl, subst}
use mathlib.Core.Bool.{Bool, true, false}
use Prim.Native.Nat.{ℕ, ◌≤◌, zero-le}
use native.Mathlib.Omega.{arith}
use borrow.Author.Differences.{ints}
use lib.Dec.{T}
use lib.IntN.{ℤ, pos, negsuc, nat_abs, ◌-ℤ◌}
use lib.Signed.{lt_z, non_neg}
use mir.Syntax.{Width}
use mir.Val.{to_z, of_z, SFits}
use mir.ValLaws.{to_z-of_z}
use Rattle.std.proofs.lemmas.Bool.Decides.{nat_tests}
use Rattle.std.specs.Int.{int_max, int_min}
use Rattle.whole.specs.Clip.{clip}
use Rattle.whole.proofs.Bound.{abs_up_down, within_by}
use Rattle.whole.proofs.Laws.{diff_self, diff_minus}

-- ---- a test speaks of what is read back from the number's bits

module _ (w : Width) (z : ℤ) (f : SFits w z) where
  pub plain_lt : (y : ℤ) {b : Bool} → lt_z (to_z w (of_z w z)) y ≡ b → lt_z z y ≡ b
  plain_lt y {b} e = subst (λ (v : ℤ). lt_z v y ≡ b) (to_z-of_z w z f) e

-- ---- the absolute value

pub size_low : (z : ℤ) → lt_z z (pos 0) ≡ true → T (non_neg (pos 0 -ℤ z)) × (nat_abs (pos 0 -ℤ z) ≡ nat_abs z)
size_low (pos n) e = absurd (omega (arith, ints))
size_low (negsuc n) e = (tt, omega arith)

-- ---- clipping

module _ (high : ℕ) where
  pub clip_same : (z : ℤ) → lt_z z (pos 0) ≡ false → lt_z (pos high) z ≡ false → clip high z ≡ nat_abs z
  unfolding clip
  clip_same (pos n) e f = omega (arith, ints)
  clip_same (negsuc n) e f = absurd (omega (arith, ints))

  -- as the library's `clamp` says it
  pub clip_clamped : (z : ℤ) → nat_abs (int_max (pos 0) (int_min z (pos high))) ≡ clip high z
  unfolding clip
  clip_clamped (pos n) = grind (arith, nat_tests)
  clip_clamped (negsuc n) = refl

  pub clip_le : (z : ℤ) → clip high z ≤ high
  unfolding clip
  clip_le (pos n) = omega arith
  clip_le (negsuc n) = zero-le

  -- it brings no number farther away from one that lies between the ends
  pub clip_nearer : (z : ℤ) (o : ℕ) → o ≤ high → nat_abs (pos (clip high z) -ℤ pos o) ≤ nat_abs (z -ℤ pos o)
  unfolding clip
  clip_nearer (pos n) o h =
      let far = abs_up_down (pos n -ℤ pos o) in
      let is = (diff_minus (diff_self (pos n)) (diff_self (pos o))).eq in
      (within_by (nat_abs (pos n -ℤ pos o)) (diff_minus (diff_self (pos (clip high (pos n)))) (diff_self (pos o))) (omega arith) (omega arith)).size
  clip_nearer (negsuc n) o h =
      let far = abs_up_down (negsuc n -ℤ pos o) in
      let is = (diff_minus (diff_self (negsuc n)) (diff_self (pos o))).eq in
      (within_by (nat_abs (negsuc n -ℤ pos o)) (diff_minus (diff_self (pos 0)) (diff_self (pos o))) (omega arith) (omega arith)).size
