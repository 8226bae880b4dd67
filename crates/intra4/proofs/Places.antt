-- Places of a block and of a row.
--     corner_only                              only (3,3) has columns and rows that add up to 6
--     below_diagonal, above_diagonal           what the code's z says of x and y
--     past_at, corner_at                       a row past its corner, and the corner
--     back, two_back, three_back, three_down   the paper's T and S at a difference, as the code counts them
--     z_positive, z_minus_one, z_below         the paper's z of mode 5
--     odd_z, even_z                            what the keys of mode 5, on z and 3 more, say of it
--     even_row, odd_row                        those of mode 7, on y
--     low_even, low_odd, high                  those of mode 8, on its z
-- Assumes nothing.
use mathlib.Core.Path.{◌≡◌, refl, ap, ◌∙◌}
use mathlib.Core.Bool.{Bool, true, false, ◌&&◌}
use mathlib.Core.List.{List, [], ◌∷◌}
use mathlib.Core.Logic.{inl, inr}
use Prim.Native.Nat.{ℕ, zero, suc, ◌+◌, ◌-◌, ◌*◌, ◌/◌, ◌%◌, ◌<◌, ◌≤◌}
use native.Mathlib.Omega.{arith}
use borrow.Author.Tests.{eqb-true}
use lib.Dec.{eqb}
use lib.IntN.{ℤ, pos, negsuc, ◌-ℤ◌}
use lib.ListN.{get_or, take, drop}
use lib.Seq.{get_or-take, get_or-drop}
use types.Run.{OneOf}
use Rattle.whole.proofs.Laws.{Diff, diff_self, diff_minus, same}
use Rattle.intra4.specs.Code.{with_corner}

pub corner_only : (x y : ℕ) → (x + y ≡ 6 → ⊥) → (eqb x 3 && eqb y 3) ≡ false
corner_only x y h = by (eqb x 3) (eqb y 3) refl refl
  where
    by : (a b : Bool) → eqb x 3 ≡ a → eqb y 3 ≡ b → (a && b) ≡ false
    by false b p q = refl
    by true false p q = refl
    by true true p q = absurd (h (omega (arith, eqb-true x 3 p, eqb-true y 3 q)))

module _ (x y : ℕ) where
  pub below_diagonal : x + 3 - y < 3 → x < y
  below_diagonal h = omega arith

  pub above_diagonal : y < 4 → (x + 3 - y ≡ 3 → ⊥) → 3 ≤ x + 3 - y → y < x
  above_diagonal l n h = omega arith

module _ (l : List ℕ) where
  pub past_at : (k : ℕ) → get_or (drop 1 l) k 0 ≡ get_or l (k + 1) 0
  past_at k = let e : 1 + k ≡ k + 1 = omega arith in get_or-drop 1 l k 0 ∙ ap (λ (j : ℕ). get_or l j 0) e

  pub corner_at : get_or (take 1 l) 0 0 ≡ get_or l 0 0
  corner_at = get_or-take 1 l 0 0 (omega arith)

  -- at p minus n
  placed : (z : ℤ) {p n : ℕ} (k : ℕ) → Diff z p n → p + 1 ≡ n + k → with_corner l z ≡ get_or l k 0
  placed (pos j) k d e = past_at j ∙ ap (λ (i : ℕ). get_or l i 0) (omega (arith, d.eq))
  placed (negsuc zero) k d e = corner_at ∙ ap (λ (i : ℕ). get_or l i 0) (omega (arith, d.eq))
  placed (negsuc (suc j)) k d e = absurd (omega (arith, d.eq))

less : (a b : ℕ) → Diff (pos a -ℤ pos b) (a + 0) (0 + b)
less a b = diff_minus (diff_self (pos a)) (diff_self (pos b))

module _ (l : List ℕ) (a b : ℕ) where
  further : (c : ℕ) → Diff (pos a -ℤ pos b -ℤ pos c) (a + 0 + 0) (0 + b + c)
  further c = diff_minus (less a b) (diff_self (pos c))

  pub back : (c k : ℕ) → a + 1 ≡ b + c + k → with_corner l (pos a -ℤ pos b -ℤ pos c) ≡ get_or l k 0
  back c k e = placed l _ k (further c) (omega arith)

  pub two_back : b ≤ a → (with_corner l (pos a -ℤ pos b -ℤ pos 1) ≡ get_or l (a - b) 0) × (with_corner l (pos a -ℤ pos b) ≡ get_or l (a - b + 1) 0)
  two_back h = (back 1 (a - b) (omega arith), placed l _ (a - b + 1) (less a b) (omega arith))

  pub three_back : b < a
      → (with_corner l (pos a -ℤ pos b -ℤ pos 2) ≡ get_or l (a - b - 1) 0)
      × (with_corner l (pos a -ℤ pos b -ℤ pos 1) ≡ get_or l (a - b - 1 + 1) 0)
      × (with_corner l (pos a -ℤ pos b) ≡ get_or l (a - b - 1 + 2) 0)
  three_back h =
      (back 2 (a - b - 1) (omega arith), back 1 (a - b - 1 + 1) (omega arith), placed l _ (a - b - 1 + 2) (less a b) (omega arith))

pub three_down : (l : List ℕ) (a : ℕ) → 2 ≤ a
    → (with_corner l (pos a -ℤ pos 3) ≡ get_or l (a - 2) 0)
    × (with_corner l (pos a -ℤ pos 2) ≡ get_or l (a - 2 + 1) 0)
    × (with_corner l (pos a -ℤ pos 1) ≡ get_or l (a - 2 + 2) 0)
three_down l a h =
    (placed l _ (a - 2) (less a 3) (omega arith), placed l _ (a - 2 + 1) (less a 2) (omega arith), placed l _ (a - 2 + 2) (less a 1) (omega arith))

module _ (x y : ℕ) where
  pub z_positive : y ≤ 2 * x → pos (2 * x) -ℤ pos y ≡ pos (2 * x - y)
  z_positive h = same (less (2 * x) y) (diff_self (pos (2 * x - y))) (omega arith)

  pub z_minus_one : 2 * x + 1 ≡ y → pos (2 * x) -ℤ pos y ≡ negsuc 0
  z_minus_one h = same (less (2 * x) y) (diff_self (negsuc 0)) (omega arith)

  pub z_below : 2 * x + 1 < y → pos (2 * x) -ℤ pos y ≡ negsuc (suc (y - 2 * x - 2))
  z_below h = same (less (2 * x) y) (diff_self (negsuc (suc (y - 2 * x - 2)))) (omega arith)

-- ---- the keys of a match

module _ (x y : ℕ) where
  odd_by : (k : ℕ) → 2 * x + 3 - y ≡ 2 * k + 4 → (y ≤ 2 * x) × ((2 * x - y) % 2 ≡ 0 → ⊥) × (y / 2 < x)
  odd_by k e = (omega arith, λ q. omega arith, omega arith)

  pub odd_z : OneOf (4 ∷ 6 ∷ 8 ∷ []) (2 * x + 3 - y) → (y ≤ 2 * x) × ((2 * x - y) % 2 ≡ 0 → ⊥) × (y / 2 < x)
  odd_z (inl e) = odd_by 0 e
  odd_z (inr (inl e)) = odd_by 1 e
  odd_z (inr (inr e)) = odd_by 2 e

  pub even_z : x < 4 → 2 ≤ 2 * x + 3 - y → (2 * x + 3 - y ≡ 2 → ⊥) → (OneOf (4 ∷ 6 ∷ 8 ∷ []) (2 * x + 3 - y) → ⊥) → (y ≤ 2 * x) × ((2 * x - y) % 2 ≡ 0)
  even_z l h n m =
      let a : 2 * x + 3 - y ≡ 4 → ⊥ = λ e. m (inl e) in
      let b : 2 * x + 3 - y ≡ 6 → ⊥ = λ e. m (inr (inl e)) in
      let c : 2 * x + 3 - y ≡ 8 → ⊥ = λ e. m (inr (inr e)) in
      (omega arith, omega arith)

module _ (y : ℕ) where
  pub even_row : OneOf (0 ∷ 2 ∷ []) y → y % 2 ≡ 0
  even_row (inl e) = rw e
  even_row (inr e) = rw e

  pub odd_row : y < 4 → (OneOf (0 ∷ 2 ∷ []) y → ⊥) → y % 2 ≡ 0 → ⊥
  odd_row l n q =
      let a : y ≡ 0 → ⊥ = λ e. n (inl e) in
      let b : y ≡ 2 → ⊥ = λ e. n (inr e) in
      omega arith

module _ (z : ℕ) where
  pub low_even : OneOf (0 ∷ 2 ∷ 4 ∷ []) z → (z ≤ 4) × (z % 2 ≡ 0)
  low_even (inl e) = (omega arith, omega arith)
  low_even (inr (inl e)) = (omega arith, omega arith)
  low_even (inr (inr e)) = (omega arith, omega arith)

  pub low_odd : OneOf (1 ∷ 3 ∷ []) z → (z ≤ 3) × (z % 2 ≡ 0 → ⊥)
  low_odd (inl e) = (omega arith, λ q. omega arith)
  low_odd (inr e) = (omega arith, λ q. omega arith)

  pub high : (OneOf (0 ∷ 2 ∷ 4 ∷ []) z → ⊥) → (OneOf (1 ∷ 3 ∷ []) z → ⊥) → (z ≡ 5 → ⊥) → 5 < z
  high even odd five =
      let a : z ≡ 0 → ⊥ = λ e. even (inl e) in
      let b : z ≡ 1 → ⊥ = λ e. odd (inl e) in
      let c : z ≡ 2 → ⊥ = λ e. even (inr (inl e)) in
      let d : z ≡ 3 → ⊥ = λ e. odd (inr e) in
      let f : z ≡ 4 → ⊥ = λ e. even (inr (inr e)) in
      omega arith
