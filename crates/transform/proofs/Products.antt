-- Products of matrices over the size n, and what they undo.
--     product_ext, product_assoc            equal factors; three factors
--     Undoes: undone_line, undone           Q P is s times the unit matrix: then Q takes P x back to s x, and on both sides P X Pᵀ to s s X
--     around_ext, there_and_back            the same of squares in lists
--     agree_line, agree                     where Q is P-transposed by weights: products summed, and those of P's lines, weighted and summed
-- Assumes nothing.
use mathlib.Core.Path.{◌≡◌, refl, sym, ap, ◌∙◌}
use mathlib.Core.List.{List, [], ◌∷◌}
use Prim.Native.Nat.{ℕ, ◌+◌, ◌*◌, ◌<◌}
use lib.IntN.{ℤ, pos, ◌*ℤ◌, *ℤ_comm}
use lib.ListN.{length, get_or, length-map, get_or-map}
use Rattle.whole.specs.Sum.{sum, unit}
use Rattle.whole.proofs.Ring.{ring, var, con, ◌⊗◌}
use Rattle.whole.proofs.Sums.{sum_ext, sum_scale, sum_swap, picked}
use Rattle.transform.specs.Quads.{through}
use Rattle.transform.specs.Carried.{scaled}
use Rattle.transform.specs.Matrix.{Line, Matrix, product, transposed, raster, entries}
use Rattle.transform.proofs.Squares.{entries_at, entries_of}

-- M X M-transposed
abbrev pub around : ℕ → Matrix → Matrix → Matrix
around n M X = product n M (product n X (transposed M))

-- Q P is s times the unit matrix
abbrev pub Undoes : ℕ → Matrix → Matrix → ℤ → Type 0
Undoes n Q P s = (i j : ℕ) → i < n → j < n → product n Q P i j ≡ s *ℤ unit i j

pub scaled_at : (s : ℤ) (l : List ℤ) (k : ℕ) → get_or (scaled s l) k (pos 0) ≡ s *ℤ get_or l k (pos 0)
scaled_at s l k =
    ap (λ (d : ℤ). get_or (scaled s l) k d) (ring (s ∷ []) (con (pos 0)) (var 0 ⊗ con (pos 0)) refl)
    ∙ get_or-map (λ (z : ℤ). s *ℤ z) l k (pos 0)

module _ (n : ℕ) where
  pub product_ext : (A A' B B' : Matrix) (i j : ℕ) → ((k : ℕ) → k < n → A i k ≡ A' i k) → ((k : ℕ) → k < n → B k j ≡ B' k j)
      → product n A B i j ≡ product n A' B' i j
  product_ext A A' B B' i j f g = sum_ext n _ _ (λ k h t. f k h t *ℤ g k h t)

  pub product_assoc : (A B D : Matrix) (i j : ℕ) → product n A (product n B D) i j ≡ product n (product n A B) D i j
  product_assoc A B D i j =
      sum_ext n _ _ (λ k h. sum_scale n (A i k) (λ l. B k l *ℤ D l j))
      ∙ sum_swap n n (λ k l. A i k *ℤ (B k l *ℤ D l j))
      ∙ sum_ext n _ _ (λ l h.
      sum_ext n _ _ (λ k m. ring (A i k ∷ B k l ∷ D l j ∷ []) (var 0 ⊗ (var 1 ⊗ var 2)) (var 2 ⊗ (var 0 ⊗ var 1)) refl)
      ∙ sym (sum_scale n (D l j) (λ k. A i k *ℤ B k l))
      ∙ *ℤ_comm (D l j) (sum n (λ k. A i k *ℤ B k l)))

  -- a row through M, with the factors exchanged
  exchanged : (M : Matrix) (x : Line) (j : ℕ) → sum n (λ k. x k *ℤ M j k) ≡ through n M x j
  exchanged M x j = sum_ext n _ _ (λ k h. *ℤ_comm (x k) (M j k))

  pub around_ext : (M X Y : Matrix) → ((i j : ℕ) → i < n → j < n → X i j ≡ Y i j) → (i j : ℕ) → around n M X i j ≡ around n M Y i j
  around_ext M X Y same i j = sum_ext n _ _ (λ k h. ap (λ (z : ℤ). M i k *ℤ z) (sum_ext n _ _ (λ l m. ap (λ (z : ℤ). z *ℤ M j l) (same k l h m))))

  -- ---- what undoes P in one dimension does so in two

  module _ (Q P : Matrix) (s : ℤ) (undoes : Undoes n Q P s) where
    -- one dimension
    pub undone_line : (x : Line) (i : ℕ) → i < n → through n Q (through n P x) i ≡ s *ℤ x i
    undone_line x i h =
        product_assoc Q P (λ k j. x k) i 0
        ∙ sum_ext n _ _ (λ a l. ap (λ (z : ℤ). z *ℤ x a) (undoes i a h l) ∙ ring (s ∷ unit i a ∷ x a ∷ []) ((var 0 ⊗ var 1) ⊗ var 2) (var 0 ⊗ (var 1 ⊗ var 2)) refl)
        ∙ sym (sum_scale n s (λ a. unit i a *ℤ x a))
        ∙ ap (λ (z : ℤ). s *ℤ z) (picked n i x h)

    pub undone : (X : Matrix) (i j : ℕ) → i < n → j < n → around n Q (around n P X) i j ≡ (s *ℤ s) *ℤ X i j
    undone X i j h l =
        let rows = product n X (transposed P) in
        product_ext Q Q (product n (product n P rows) (transposed Q)) (product n P (product n rows (transposed Q))) i j (λ k m. refl)
        (λ k m. sym (product_assoc P rows (transposed Q) k j))
        ∙ undone_line (λ k. product n rows (transposed Q) k j) i h
        ∙ ap (λ (z : ℤ). s *ℤ z) (exchanged Q (rows i) j ∙ sum_ext n _ _ (λ k m. ap (λ (z : ℤ). Q j k *ℤ z) (exchanged P (X i) k)) ∙ undone_line (X i) j l)
        ∙ ring (s ∷ X i j ∷ []) (var 0 ⊗ (var 0 ⊗ var 1)) ((var 0 ⊗ var 0) ⊗ var 1) refl

    -- and so of squares in lists
    pub there_and_back : (l : List ℤ) → length l ≡ n * n → entries n (around n Q (raster n (entries n (around n P (raster n l))))) ≡ scaled (s *ℤ s) l
    there_and_back l e =
        entries_of n _ (scaled (s *ℤ s) l) (length-map l _ ∙ e) (λ i j h m.
        around_ext Q (raster n (entries n (around n P (raster n l)))) (around n P (raster n l)) (entries_at n (around n P (raster n l))) i j
        ∙ undone (raster n l) i j h m
        ∙ sym (scaled_at (s *ℤ s) l (n * i + j)))

  -- ---- summed products: Q is P-transposed, each column by its weight

  module _ (w : Line) (P : Matrix) (s : ℤ) (undoes : Undoes n (λ i k. P k i *ℤ w k) P s) where
    -- one dimension
    pub agree_line : (x z : Line) → s *ℤ sum n (λ a. x a *ℤ z a) ≡ sum n (λ k. w k *ℤ (through n P x k *ℤ through n P z k))
    agree_line x z =
        sum_scale n s (λ a. x a *ℤ z a)
        ∙ sum_ext n _ _ (λ a h.
        ring (s ∷ x a ∷ z a ∷ []) (var 0 ⊗ (var 1 ⊗ var 2)) (var 1 ⊗ (var 0 ⊗ var 2)) refl
        ∙ ap (λ (y : ℤ). x a *ℤ y) (sym (undone_line (λ i k. P k i *ℤ w k) P s undoes z a h))
        ∙ sum_scale n (x a) (λ k. (P k a *ℤ w k) *ℤ through n P z k))
        ∙ sum_swap n n (λ a k. x a *ℤ ((P k a *ℤ w k) *ℤ through n P z k))
        ∙ sum_ext n _ _ (λ k h.
        sum_ext n _ _ (λ a l. ring (x a ∷ P k a ∷ w k ∷ through n P z k ∷ []) (var 0 ⊗ ((var 1 ⊗ var 2) ⊗ var 3)) ((var 2 ⊗ var 3) ⊗ (var 1 ⊗ var 0)) refl)
        ∙ sym (sum_scale n (w k *ℤ through n P z k) (λ a. P k a *ℤ x a))
        ∙ ring (w k ∷ through n P z k ∷ through n P x k ∷ []) ((var 0 ⊗ var 1) ⊗ var 2) (var 0 ⊗ (var 2 ⊗ var 1)) refl)

    pub agree : (X Z : Matrix) → (s *ℤ s) *ℤ sum n (λ i. sum n (λ j. X i j *ℤ Z i j))
        ≡ sum n (λ k. sum n (λ l. (w k *ℤ w l) *ℤ (around n P X k l *ℤ around n P Z k l)))
    agree X Z =
        let x : Matrix = product n X (transposed P) in
        let z : Matrix = product n Z (transposed P) in
        ring (s ∷ sum n (λ i. sum n (λ j. X i j *ℤ Z i j)) ∷ []) ((var 0 ⊗ var 0) ⊗ var 1) (var 0 ⊗ (var 0 ⊗ var 1)) refl
        ∙ ap (λ (y : ℤ). s *ℤ y)
        (sum_scale n s (λ i. sum n (λ j. X i j *ℤ Z i j))
        ∙ sum_ext n _ _ (λ i h.
        agree_line (X i) (Z i)
        ∙ sum_ext n _ _ (λ l m t. w l *ℤ (sym (exchanged P (X i) l) t *ℤ sym (exchanged P (Z i) l) t)))
        ∙ sum_swap n n (λ i l. w l *ℤ (x i l *ℤ z i l))
        ∙ sum_ext n _ _ (λ l h. sym (sum_scale n (w l) (λ i. x i l *ℤ z i l))))
        ∙ sum_scale n s (λ l. w l *ℤ sum n (λ i. x i l *ℤ z i l))
        ∙ sum_ext n _ _ (λ l h.
        ring (s ∷ w l ∷ sum n (λ i. x i l *ℤ z i l) ∷ []) (var 0 ⊗ (var 1 ⊗ var 2)) (var 1 ⊗ (var 0 ⊗ var 2)) refl
        ∙ ap (λ (y : ℤ). w l *ℤ y) (agree_line (λ i. x i l) (λ i. z i l))
        ∙ sum_scale n (w l) (λ k. w k *ℤ (around n P X k l *ℤ around n P Z k l)))
        ∙ sum_swap n n (λ l k. w l *ℤ (w k *ℤ (around n P X k l *ℤ around n P Z k l)))
        ∙ sum_ext n _ _ (λ k h. sum_ext n _ _ (λ l m.
        ring (w l ∷ w k ∷ (around n P X k l *ℤ around n P Z k l) ∷ []) (var 0 ⊗ (var 1 ⊗ var 2)) ((var 1 ⊗ var 0) ⊗ var 2) refl))
