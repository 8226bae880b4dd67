-- Laws of squares with rows and columns exchanged, over the size n and for elements of any kind.
--     turned_place                             the place that a place is exchanged with
--     turned_grid, turned_at, length_turned   a square by its rule; what stands where; n * n elements
--     placewise                               each element by a rule of its place that does not tell rows from columns
--     sixteen_turned                          sixteen different numbers, by evaluation
-- Assumes nothing.
use mathlib.Core.Path.{◌≡◌, refl, sym, ap, ◌∙◌}
use mathlib.Core.List.{List, [], ◌∷◌}
use Prim.Native.Nat.{ℕ, ◌+◌, ◌*◌, ◌/◌, ◌%◌, ◌<◌}
use native.Mathlib.Nat.{mul_comm}
use native.Mathlib.Omega.{arith}
use lib.Arith.{digits_lt}
use lib.ListN.{length, get_or}
use Rattle.lists.specs.Tab.{tab, grid, turned}
use Rattle.lists.proofs.Tab.{row_below, column_below, length_tab, get_d_tab, tab_same, get_d_grid, grid_same}

abbrev pub turned_place : ℕ → ℕ → ℕ
turned_place n k = n * (k % n) + k / n

module _ (n : ℕ) where
  turned_below : (k : ℕ) → k < n * n → turned_place n k < n * n
  turned_below k h = omega (arith, mul_comm n (k % n), digits_lt (column_below n k h) (row_below n k h))

  module _ {A : Type 0} (blank : A) where
    pub turned_grid : (rule : ℕ → ℕ → A) → turned blank n (grid n rule) ≡ grid n (λ x y. rule y x)
    unfolding turned
    turned_grid rule = grid_same n _ _ (λ x y h k. get_d_grid n rule y x blank k h)

    pub turned_at : (l : List A) (x y : ℕ) (d : A) → x < n → y < n → get_or (turned blank n l) (n * y + x) d ≡ get_or l (n * x + y) blank
    unfolding turned
    turned_at l x y d h k = get_d_grid n (λ x y. get_or l (n * x + y) blank) x y d h k

    pub length_turned : (l : List A) → length (turned blank n l) ≡ n * n
    unfolding turned grid
    length_turned l = length_tab (n * n) _

    turned_place_law : (l : List A) (k : ℕ) (d : A) → k < n * n → get_or (turned blank n l) k d ≡ get_or l (turned_place n k) blank
    unfolding turned grid
    turned_place_law l k d h = get_d_tab (n * n) _ k d h

  module _ {A B : Type 0} (blank : A) (none : B) (f : ℕ → A → B) where
    -- f of each element of a square and its place
    abbrev by_place : List A → List B
    by_place l = tab (n * n) (λ k. f k (get_or l k blank))

    pub placewise : ((k : ℕ) → k < n * n → (a : A) → f k a ≡ f (turned_place n k) a) → (l : List A) → by_place (turned blank n l) ≡ turned none n (by_place l)
    unfolding turned grid
    placewise even l = tab_same (n * n) _ _ (λ k h.
        ap (f k) (turned_place_law blank l k blank h)
        ∙ even k h (get_or l (turned_place n k) blank)
        ∙ sym (get_d_tab (n * n) (λ k. f k (get_or l k blank)) (turned_place n k) none (turned_below k h)))

pub sixteen_turned : turned {A = ℕ} 0 4 (1 ∷ 2 ∷ 3 ∷ 4 ∷ 5 ∷ 6 ∷ 7 ∷ 8 ∷ 9 ∷ 10 ∷ 11 ∷ 12 ∷ 13 ∷ 14 ∷ 15 ∷ 16 ∷ [])
    ≡ 1 ∷ 5 ∷ 9 ∷ 13 ∷ 2 ∷ 6 ∷ 10 ∷ 14 ∷ 3 ∷ 7 ∷ 11 ∷ 15 ∷ 4 ∷ 8 ∷ 12 ∷ 16 ∷ []
unfolding turned grid tab
sixteen_turned = refl
