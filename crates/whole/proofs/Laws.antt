-- Laws of ℤ that the kit lacks. Each is had from natural numbers: a whole number is a difference of two, and what is left is omega's.
--     Diff: diff_self, diff_add, diff_minus, diff_neg, diff_mul     z as the difference p - n, and what the operations make of it
--     same                                                          equal by their differences
--     *ℤ_assoc, *ℤ-+ℤ, +ℤ-*ℤ, neg_mul                               the product's laws
--     shr_one                                                       a shift by no place
-- `up` and `down`, the order as one of natural numbers, and what omega reads of it (`ints`), are the kit's.
-- Assumes nothing.
use mathlib.Core.Path.{◌≡◌, ap}
use Prim.Native.Nat.{ℕ, ◌+◌, ◌*◌}
use native.Mathlib.Omega.{arith}
use borrow.Author.Differences.{up, down, same_in, sum_is_lem, neg_is, product_is}
use lib.IntN.{ℤ, pos, negsuc, neg_ℤ, ◌+ℤ◌, ◌-ℤ◌, ◌*ℤ◌}
use lib.Signed.{shr_z}

-- z is p minus n
pub record Diff (z : ℤ) (p n : ℕ) : Type 0 where
  pub eq : up z + n ≡ p + down z

pub diff_self : (z : ℤ) → Diff z (up z) (down z)
diff_self z = record { eq = omega arith }

diff_self_add : (x y : ℤ) → Diff (x +ℤ y) (up x + up y) (down x + down y)
diff_self_add x y = record { eq = omega (arith, sum_is_lem x y) }

pub diff_add : {x y : ℤ} {p n q m : ℕ} → Diff x p n → Diff y q m → Diff (x +ℤ y) (p + q) (n + m)
diff_add {x} {y} h k = record { eq = omega (arith, (diff_self_add x y).eq) }

pub diff_neg : {x : ℤ} {p n : ℕ} → Diff x p n → Diff (neg_ℤ x) n p
diff_neg {x} h = record { eq = omega (arith, neg_is x) }

pub diff_minus : {x y : ℤ} {p n q m : ℕ} → Diff x p n → Diff y q m → Diff (x -ℤ y) (p + m) (n + q)
diff_minus h k = diff_add h (diff_neg k)

diff_self_mul : (x y : ℤ) → Diff (x *ℤ y) (up x * up y + down x * down y) (up x * down y + down x * up y)
diff_self_mul x y = record { eq = omega (arith, product_is x y) }

pub same : {x y : ℤ} {p n q m : ℕ} → Diff x p n → Diff y q m → p + m ≡ q + n → x ≡ y
same {x} {y} h k e = same_in x y (omega arith)

-- ---- the product's laws
pub diff_mul : {x y : ℤ} {p n q m : ℕ} → Diff x p n → Diff y q m → Diff (x *ℤ y) (p * q + n * m) (p * m + n * q)
diff_mul {x} {y} {p} {n} {q} {m} h k =
    let a : (up x + n) * up y ≡ (p + down x) * up y = ap (λ (t : ℕ). t * up y) h.eq in
    let b : (up x + n) * down y ≡ (p + down x) * down y = ap (λ (t : ℕ). t * down y) h.eq in
    let c : p * (up y + m) ≡ p * (q + down y) = ap (λ (t : ℕ). p * t) k.eq in
    let d : n * (up y + m) ≡ n * (q + down y) = ap (λ (t : ℕ). n * t) k.eq in
    record { eq = omega (arith, (diff_self_mul x y).eq) }

pub *ℤ_assoc : (x y z : ℤ) → (x *ℤ y) *ℤ z ≡ x *ℤ (y *ℤ z)
*ℤ_assoc x y z =
    same (diff_mul (diff_self_mul x y) (diff_self z)) (diff_mul (diff_self x) (diff_self_mul y z)) (omega arith)

pub *ℤ-+ℤ : (x y z : ℤ) → x *ℤ (y +ℤ z) ≡ x *ℤ y +ℤ x *ℤ z
*ℤ-+ℤ x y z =
    same (diff_mul (diff_self x) (diff_self_add y z)) (diff_add (diff_self_mul x y) (diff_self_mul x z)) (omega arith)

pub +ℤ-*ℤ : (x y z : ℤ) → (x +ℤ y) *ℤ z ≡ x *ℤ z +ℤ y *ℤ z
+ℤ-*ℤ x y z =
    same (diff_mul (diff_self_add x y) (diff_self z)) (diff_add (diff_self_mul x z) (diff_self_mul y z)) (omega arith)

pub neg_mul : (x y : ℤ) → neg_ℤ x *ℤ y ≡ neg_ℤ (x *ℤ y)
neg_mul x y = same (diff_mul (diff_neg (diff_self x)) (diff_self y)) (diff_neg (diff_self_mul x y)) (omega arith)

-- a shift by no place
pub shr_one : (x : ℤ) → shr_z x 1 ≡ x
shr_one (pos n) = ap pos (omega arith)
shr_one (negsuc n) = ap negsuc (omega arith)
