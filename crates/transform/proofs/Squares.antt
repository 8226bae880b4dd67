-- Squares of n rows and n columns: as matrices, and in lists row by row.
--     entries_at, length_entries, entries_same, entries_of a matrix's list: its elements, its length; of equal matrices; of a list's own matrix
--     entries_each, raster_within                          bounds
--     Local, Grows                                         a function of a line looks at n numbers only; how large its results can be
--     turned_each, by_row_each, both_sides_law                  rows and columns exchanged, and f of each row: twice both is f of each row and column
-- Assumes nothing.
use mathlib.Core.Path.{◌≡◌, ap, ◌∙◌}
use mathlib.Core.List.{List}
use Prim.Native.Nat.{ℕ, ◌+◌, ◌*◌, ◌/◌, ◌%◌, ◌<◌}
use native.Mathlib.Nat.{div-add-mod}
use lib.IntN.{ℤ, pos}
use lib.ListN.{length, get_or}
use Rattle.lists.specs.Tab.{grid, turned}
use Rattle.lists.proofs.Tab.{row_below, column_below, length_tab, get_d_tab, tab_of, get_d_grid, grid_same}
use Rattle.whole.specs.Bounds.{Within, Each}
use Rattle.whole.proofs.Steps.{each_at}
use Rattle.whole.proofs.Lists.{each_from}
use Rattle.transform.specs.Quads.{by_row}
use Rattle.transform.specs.Matrix.{Line, Matrix, transposed, each_row, each_column, raster, entries}

-- f looks at the first n numbers only
abbrev pub Local : ℕ → (Line → Line) → Type 0
Local n f = (x y : Line) → ((k : ℕ) → k < n → x k ≡ y k) → (i : ℕ) → i < n → f x i ≡ f y i

-- of n numbers within B f makes numbers within M
abbrev pub Grows : ℕ → (Line → Line) → ℕ → ℕ → Type 0
Grows n f B M = (x : Line) → ((k : ℕ) → k < n → Within B (x k)) → (i : ℕ) → i < n → Within M (f x i)

module _ (n : ℕ) where
  -- ---- a matrix and its list

  pub entries_at : (A : Matrix) (i j : ℕ) → i < n → j < n → raster n (entries n A) i j ≡ A i j
  entries_at A i j h l = get_d_grid n (transposed A) j i (pos 0) l h

  pub length_entries : (A : Matrix) → length (entries n A) ≡ n * n
  unfolding grid
  length_entries A = length_tab (n * n) _

  pub entries_same : (A B : Matrix) → ((i j : ℕ) → i < n → j < n → A i j ≡ B i j) → entries n A ≡ entries n B
  entries_same A B h = grid_same n (transposed A) (transposed B) (λ column row a b. h row column b a)

  pub entries_of : (A : Matrix) (l : List ℤ) → length l ≡ n * n → ((i j : ℕ) → i < n → j < n → A i j ≡ raster n l i j) → entries n A ≡ l
  unfolding grid
  entries_of A l e h =
      tab_of (n * n) _ l (pos 0) e
      (λ k lt. h (k / n) (k % n) (row_below n k lt) (column_below n k lt) ∙ ap (λ (m : ℕ). get_or l m (pos 0)) (div-add-mod k n))

  -- ---- bounds

  pub entries_each : (B : ℕ) (A : Matrix) → ((i j : ℕ) → i < n → j < n → Within B (A i j)) → Each B (entries n A)
  unfolding grid
  entries_each B A h =
      each_from B (entries n A)
      (λ k l.
      let m : k < n * n = rw length_entries at l in
      rw (get_d_tab (n * n) (λ place. A (place / n) (place % n)) k (pos 0) m) (h (k / n) (k % n) (row_below n k m) (column_below n k m)))

  pub raster_within : (B : ℕ) (l : List ℤ) → Each B l → (i j : ℕ) → Within B (raster n l i j)
  raster_within B l h i j = each_at B l h (n * i + j)

  pub turned_each : (B : ℕ) (l : List ℤ) → Each B l → Each B (turned (pos 0) n l)
  unfolding turned grid
  turned_each B l h = entries_each B _ (λ i j a b. raster_within B l h j i)

  pub by_row_each : (f : Line → Line) (B M : ℕ) → Grows n f B M → (l : List ℤ) → Each B l → Each M (by_row n f l)
  unfolding by_row
  by_row_each f B M g l h = entries_each M _ (λ i j a b. g (raster n l i) (λ k m. raster_within B l h i k) j b)

  -- ---- f of each row, then of each column

  pub both_sides_law : (f : Line → Line) → Local n f → (l : List ℤ)
      → turned (pos 0) n (by_row n f (turned (pos 0) n (by_row n f l))) ≡ entries n (each_column f (each_row f (raster n l)))
  unfolding turned grid by_row
  both_sides_law f local l = entries_same _ _ (λ i j a b.
      let rows = each_row f (raster n l) in
      let across = transposed (raster n (entries n rows)) in
      entries_at (each_row f (raster n (entries n across))) j i b a
      ∙ local _ _ (λ k c. entries_at across j k b c ∙ entries_at rows k j c b) i a)
