-- Products on both sides are linear in what stands between, over the size n, so what is near stays near behind H.
--     between_linear      if Z is a X + b Y at each place, so it is between A and B
--     hadamard_at         the number at a place
--     hadamard_linear     if z is a x + b y at each place, so it is behind H
--     hadamard_near       a z within B of b x at each place: behind H, within n n B
--     twice_near          the same where x came through H itself: then it is s s times what it came from
-- Assumes nothing.
use mathlib.Core.Path.{◌≡◌, refl, sym, ap, subst, ◌∙◌}
use mathlib.Core.List.{List, [], ◌∷◌}
use Prim.Native.Nat.{ℕ, ◌+◌, ◌*◌, ◌/◌, ◌%◌, ◌<◌}
use native.Mathlib.Nat.{mul-le-mul_left}
use native.Mathlib.Omega.{arith}
use lib.Dec.{T}
use lib.IntN.{ℤ, pos, neg_ℤ, ◌+ℤ◌, ◌-ℤ◌, ◌*ℤ◌}
use lib.ListN.{length, get_or}
use Rattle.lists.specs.Tab.{tab, grid}
use Rattle.lists.proofs.Tab.{get_d_tab}
use Rattle.whole.specs.Bounds.{Within}
use Rattle.whole.proofs.Lists.{each_tab}
use Rattle.whole.proofs.Ring.{ring, var, ◌⊕◌, ◌⊖◌, ◌⊗◌, neg}
use Rattle.whole.proofs.Steps.{each_at}
use Rattle.whole.proofs.Sums.{sum_linear}
use Rattle.transform.specs.Hadamard.{hadamard}
use Rattle.transform.specs.Matrix.{Line, Matrix, product, raster}
use Rattle.transform.proofs.Bounds.{units, hadamard_each}
use Rattle.transform.proofs.Carried.{twice_through}
use Rattle.transform.proofs.Products.{Undoes, scaled_at}

pub between_linear : (n : ℕ) (A B X Y Z : Matrix) (a b : ℤ) → ((k l : ℕ) → k < n → l < n → Z k l ≡ a *ℤ X k l +ℤ b *ℤ Y k l)
    → (i j : ℕ) → product n A (product n Z B) i j ≡ a *ℤ product n A (product n X B) i j +ℤ b *ℤ product n A (product n Y B) i j
between_linear n A B X Y Z a b e i j =
    sum_linear n a b _ _ _ (λ k h.
    ap (λ (t : ℤ). A i k *ℤ t)
    (sum_linear n a b _ _ _ (λ l m.
    ap (λ (t : ℤ). t *ℤ B l j) (e k l h m)
    ∙ ring (a ∷ b ∷ X k l ∷ Y k l ∷ B l j ∷ []) ((var 0 ⊗ var 2 ⊕ var 1 ⊗ var 3) ⊗ var 4) (var 0 ⊗ (var 2 ⊗ var 4) ⊕ var 1 ⊗ (var 3 ⊗ var 4)) refl))
    ∙ ring (a ∷ b ∷ product n X B k j ∷ product n Y B k j ∷ A i k ∷ []) (var 4 ⊗ (var 0 ⊗ var 2 ⊕ var 1 ⊗ var 3)) (var 0 ⊗ (var 4 ⊗ var 2) ⊕ var 1 ⊗ (var 4 ⊗ var 3)) refl)

module _ (n : ℕ) (H : Matrix) where
  -- the number in a row and a column below n stands below n n
  place_below : (i j : ℕ) → i < n → j < n → n * i + j < n * n
  place_below i j h l = let m = mul-le-mul_left n h in omega (arith, m)

  pub hadamard_at : (w : List ℤ) (k : ℕ) → k < n * n → get_or (hadamard n H w) k (pos 0) ≡ product n H (product n (raster n w) H) (k / n) (k % n)
  unfolding hadamard grid
  hadamard_at w k h = get_d_tab (n * n) _ k (pos 0) h

  pub hadamard_linear : (a b : ℤ) (x y z : List ℤ) → ((k : ℕ) → k < n * n → get_or z k (pos 0) ≡ a *ℤ get_or x k (pos 0) +ℤ b *ℤ get_or y k (pos 0))
      → (k : ℕ) → k < n * n → get_or (hadamard n H z) k (pos 0) ≡ a *ℤ get_or (hadamard n H x) k (pos 0) +ℤ b *ℤ get_or (hadamard n H y) k (pos 0)
  hadamard_linear a b x y z e k h =
      hadamard_at z k h
      ∙ between_linear n H H (raster n x) (raster n y) (raster n z) a b (λ i j l m. e (n * i + j) (place_below i j l m)) (k / n) (k % n)
      ∙ (λ t. a *ℤ sym (hadamard_at x k h) t +ℤ b *ℤ sym (hadamard_at y k h) t)

  -- ---- what is near stays near; the test of H is `tt`

  module _ (symmetric : (i j : ℕ) → i < n → j < n → H i j ≡ H j i) (t : T (units n H)) (a b : ℤ) (B : ℕ) where
    pub hadamard_near : (x z : List ℤ) → ((k : ℕ) → k < n * n → Within B (a *ℤ get_or z k (pos 0) -ℤ b *ℤ get_or x k (pos 0)))
        → (k : ℕ) → k < n * n → Within (n * (n * B)) (a *ℤ get_or (hadamard n H z) k (pos 0) -ℤ b *ℤ get_or (hadamard n H x) k (pos 0))
    hadamard_near x z h k l =
        let apart : Line = λ k. a *ℤ get_or z k (pos 0) -ℤ b *ℤ get_or x k (pos 0) in
        let all = hadamard_each n H symmetric t B (tab (n * n) apart) (each_tab B (n * n) apart h) in
        subst (λ (d : ℤ). Within (n * (n * B)) d)
        (hadamard_linear a (neg_ℤ b) z x (tab (n * n) apart)
        (λ k l. get_d_tab (n * n) apart k (pos 0) l
        ∙ ring (a ∷ b ∷ get_or z k (pos 0) ∷ get_or x k (pos 0) ∷ []) (var 0 ⊗ var 2 ⊖ var 1 ⊗ var 3) (var 0 ⊗ var 2 ⊕ neg (var 1) ⊗ var 3) refl) k l
        ∙ ring (a ∷ b ∷ get_or (hadamard n H z) k (pos 0) ∷ get_or (hadamard n H x) k (pos 0) ∷ []) (var 0 ⊗ var 2 ⊕ neg (var 1) ⊗ var 3) (var 0 ⊗ var 2 ⊖ var 1 ⊗ var 3) refl)
        (each_at (n * (n * B)) (hadamard n H (tab (n * n) apart)) all k)

    pub twice_near : (s : ℤ) → Undoes n H H s → (w z : List ℤ) → length w ≡ n * n
        → ((k : ℕ) → k < n * n → Within B (a *ℤ get_or z k (pos 0) -ℤ b *ℤ get_or (hadamard n H w) k (pos 0)))
        → (k : ℕ) → k < n * n → Within (n * (n * B)) (a *ℤ get_or (hadamard n H z) k (pos 0) -ℤ b *ℤ ((s *ℤ s) *ℤ get_or w k (pos 0)))
    twice_near s undoes w z long h k l =
        subst (λ (d : ℤ). Within (n * (n * B)) (a *ℤ get_or (hadamard n H z) k (pos 0) -ℤ b *ℤ d))
        (ap (λ (m : List ℤ). get_or m k (pos 0)) (twice_through n H s symmetric undoes w long) ∙ scaled_at (s *ℤ s) w k)
        (hadamard_near (hadamard n H w) z h k l)
