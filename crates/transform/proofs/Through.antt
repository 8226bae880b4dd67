-- A line through a matrix: what it looks at, how large it can be, and the products as such lines, over the size n.
--     through_local, through-within, through_grows     `Local` and `Grows` of it; the bound by the sizes of a row's entries, summed
--     around_within                                    the bound of M X M-transposed, by the row's and the column's sums
--     sides, sides_symmetric                           M X M-transposed, and H X H of a symmetric H: each row through it, then each column
-- Assumes nothing.
use mathlib.Core.Path.{◌≡◌, ap, subst}
use Prim.Native.Nat.{ℕ, zero, suc, ◌+◌, ◌*◌, ◌<◌, ◌≤◌, zero-le}
use native.Mathlib.Nat.{mul-le-mul, le_refl}
use native.Mathlib.Omega.{arith}
use lib.Dec.{T, leb, leb→le}
use lib.IntN.{ℤ, nat_abs, ◌*ℤ◌, *ℤ_comm}
use Rattle.lists.specs.Every.{every}
use Rattle.lists.proofs.Every.{every_at}
use Rattle.whole.specs.Bounds.{Within}
use Rattle.whole.specs.Sum.{sum}
use Rattle.whole.proofs.Bound.{abs_add, abs_mul}
use Rattle.whole.proofs.Sums.{sum_ext}
use Rattle.transform.specs.Quads.{through}
use Rattle.transform.specs.Matrix.{Line, Matrix, product, transposed, each_row, each_column}
use Rattle.transform.proofs.Products.{around}
use Rattle.transform.proofs.Squares.{Local, Grows}

-- the sizes of n numbers, summed
abbrev pub reach : ℕ → Line → ℕ
reach zero m = 0
reach (suc n) m = reach n m + nat_abs (m n)

-- that sum is at most `most` in each of n rows: the checker computes it
abbrev pub Reaches : (n most : ℕ) → Matrix → Type 0
Reaches n most M = T (every n (λ row. leb (reach n (M row)) most))

pub sum_within : (n : ℕ) (m x : Line) (B : ℕ) → ((k : ℕ) → k < n → Within B (x k)) → Within (reach n m * B) (sum n (λ k. m k *ℤ x k))
sum_within zero m x B h = record { size = zero-le }
sum_within (suc n) m x B h =
    let rest = sum_within n m x B (λ k l. h k (omega arith)) in
    let last : nat_abs (m n) * nat_abs (x n) ≤ nat_abs (m n) * B = mul-le-mul (le_refl (nat_abs (m n))) (h n (omega arith)).size in
    record { size = omega (arith, abs_add (sum n (λ k. m k *ℤ x k)) (m n *ℤ x n), abs_mul (m n) (x n)) }

module _ (n : ℕ) (M : Matrix) where
  pub through_local : Local n (through n M)
  through_local x y h i l = sum_ext n _ _ (λ k m. ap (λ (z : ℤ). M i k *ℤ z) (h k m))

  pub through_grows : (most : ℕ) → Reaches n most M → (B : ℕ) → Grows n (through n M) B (most * B)
  through_grows most t B x h i l =
      let s = sum_within n (M i) x B h in
      let e = leb→le (reach n (M i)) most (every_at n (λ i. leb (reach n (M i)) most) t i l) in
      let wider : reach n (M i) * B ≤ most * B = mul-le-mul e (le_refl B) in
      record { size = omega arith }

  pub around_within : (X : Matrix) (B : ℕ) → ((i j : ℕ) → i < n → j < n → Within B (X i j)) → (i j : ℕ)
      → Within (reach n (M i) * (reach n (M j) * B)) (around n M X i j)
  around_within X B h i j =
      sum_within n (M i) (λ k. product n X (transposed M) k j) (reach n (M j) * B)
      (λ k l. subst (λ (z : ℤ). Within (reach n (M j) * B) z) (sum_ext n _ _ (λ m b. *ℤ_comm (M j m) (X k m))) (sum_within n (M j) (X k) B (λ m b. h k m l b)))

  module _ (X : Matrix) where
    pub sides : (i j : ℕ) → around n M X i j ≡ each_column (through n M) (each_row (through n M) X) i j
    sides i j = sum_ext n _ _ (λ k h. ap (λ (z : ℤ). M i k *ℤ z) (sum_ext n _ _ (λ l m. *ℤ_comm (X k l) (M j l))))

    pub sides_symmetric : ((i j : ℕ) → i < n → j < n → M i j ≡ M j i) → (i j : ℕ) → i < n → j < n
        → product n M (product n X M) i j ≡ around n M X i j
    sides_symmetric symmetric i j h l = sum_ext n _ _ (λ k m. ap (λ (z : ℤ). M i k *ℤ z) (sum_ext n _ _ (λ a b. ap (λ (z : ℤ). X k a *ℤ z) (symmetric a j b l))))
