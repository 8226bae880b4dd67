-- Squares of n rows and n columns that are written over, line by line: first each row, then each column.
--     ByRows, ByColumns                a loop over the rows, and one over the columns, that writes f of each over it
--     rows_done, columns_done          what the loops leave
--     rows_columns                     both, one after the other
--     columns_each, line_within        bounds: of f of each column; of the line that a turn reads
-- Assumes nothing.
use mathlib.Core.Path.{◌≡◌, sym, ap, subst, ◌∙◌}
use mathlib.Core.List.{List}
use Prim.Native.Nat.{ℕ, ◌+◌, ◌*◌, ◌<◌, ◌≤◌}
use native.Mathlib.Omega.{arith}
use lib.IntN.{ℤ, pos}
use lib.ListN.{length, get_or}
use Rattle.lists.proofs.Stores.{Striding, striding_done}
use Rattle.whole.specs.Bounds.{Within, Each}
use Rattle.whole.proofs.Steps.{each_at}
use Rattle.transform.specs.Quads.{by_row}
use Rattle.transform.specs.Matrix.{Line, each_row, each_column, raster, entries}
use Rattle.transform.proofs.Squares.{Local, Grows, entries_at, entries_same, entries_of, entries_each, raster_within}

module _ (n : ℕ) where
  -- ---- what the loops leave

  module _ (f : Line → Line) where
    abbrev pub ByRows : List ℤ → List ℤ → ℕ → Type 0
    ByRows = Striding n n (λ k. n * k) 1 (pos 0) f

    abbrev pub ByColumns : List ℤ → List ℤ → ℕ → Type 0
    ByColumns = Striding n n (λ k. k) n (pos 0) f

    module _ (d x : List ℤ) (k : ℕ) (l : n ≤ k) where
      -- line i, whose elements stand at the places p: what f makes of it
      line_done : (first : ℕ → ℕ) (step : ℕ) → Striding n n first step (pos 0) f d x k → (i : ℕ) (p : ℕ → ℕ) → ((j : ℕ) → p j ≡ first i + step * j)
          → (j : ℕ) → i < n → j < n → f (λ j. get_or d (p j) (pos 0)) j ≡ get_or x (p j) (pos 0)
      line_done first step h i p at j a b =
          (λ t. f (λ j. get_or d (at j t) (pos 0)) j)
          ∙ sym (striding_done n n first step (pos 0) f h l i j a b)
          ∙ sym (ap (λ (q : ℕ). get_or x q (pos 0)) (at j))

      module _ (long : length d ≡ n * n) where
        pub rows_done : ByRows d x k → x ≡ by_row n f d
        unfolding by_row
        rows_done h =
            sym (entries_of n (each_row f (raster n d)) x (h.long ∙ long)
            (λ i j a b. line_done (λ k. n * k) 1 h i (λ j. n * i + j) (λ j. omega arith) j a b))

        pub columns_done : ByColumns d x k → x ≡ entries n (each_column f (raster n d))
        columns_done h =
            sym (entries_of n (each_column f (raster n d)) x (h.long ∙ long)
            (λ i j a b. line_done (λ k. k) n h j (λ i. n * i + j) (λ i. omega arith) i b a))

    pub rows_columns : Local n f → (d : List ℤ) → entries n (each_column f (raster n (by_row n f d))) ≡ entries n (each_column f (each_row f (raster n d)))
    unfolding by_row
    rows_columns local d = entries_same n _ _ (λ i j a b. local _ _ (λ k c. entries_at n (each_row f (raster n d)) k j c b) i a)

  -- ---- bounds

  pub columns_each : (f : Line → Line) (B M : ℕ) → Grows n f B M → (l : List ℤ) → Each B l → Each M (entries n (each_column f (raster n l)))
  columns_each f B M g l h = entries_each n M _ (λ i j a b. g (λ k. raster n l k j) (λ k c. raster_within n B l h k j) i a)

  -- the line that a turn reads is as it was
  pub line_within : (first : ℕ → ℕ) (step : ℕ) (f : Line → Line) (B : ℕ) {d x : List ℤ} {k : ℕ} → Each B d → Striding n n first step (pos 0) f d x k → k < n
      → (j : ℕ) → j < n → Within B (get_or x (first k + step * j) (pos 0))
  line_within first step f B {d} {x} {k} h s l j b = subst (Within B) (sym (s.kept k j (omega arith) l b)) (each_at B d h (first k + step * j))
