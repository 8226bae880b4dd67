-- The code's way over both sides of a block: rows, exchanged, rows, exchanged.
--     kept                               the bound of an equal list
--     forward_around, hadamard_around    the definitions as M X M-transposed
--     rows_fit, columns_fit, both_ways   what the code makes of sixteen numbers is that, and fits
--     rounded_inverse                    the inverse's last step
--     length_forward, length_hadamard
-- Assumes nothing.
use mathlib.Core.Path.{◌≡◌, refl, sym, ap, subst, ◌∙◌}
use mathlib.Core.List.{List, []}
use Prim.Native.Nat.{ℕ, ◌*◌, ◌<◌}
use lib.IntN.{ℤ, pos}
use lib.ListN.{length, get_or}
use Rattle.lists.specs.Tab.{tab, grid}
use Rattle.lists.proofs.Tab.{length_tab, get_d_tab, tab_same}
use Rattle.whole.specs.Bounds.{Each}
use Rattle.whole.proofs.Bound.{within_less}
use Rattle.whole.proofs.Lists.{each_less}
use Rattle.whole.proofs.Sums.{same_below}
use Rattle.transform.specs.Quads.{line, matrix, rows_of, through, wide}
use Rattle.transform.specs.Forward.{C, forward, forward_by}
use Rattle.transform.specs.Hadamard.{H4, H2, hadamard}
use Rattle.transform.specs.Inverse.{back, inverse, rounded}
use Rattle.transform.specs.Matrix.{Matrix, transposed, each_row, each_column, raster, entries}
use Rattle.transform.proofs.Products.{around}
use Rattle.transform.proofs.Squares.{entries_same, raster_within}
use Rattle.transform.proofs.Rows.{EachRow, held_at, row_each, stepped}
use Rattle.transform.proofs.Through.{Reaches, through_local, through_grows, sides, sides_symmetric}

-- ---- bounds

pub kept : (B : ℕ) {l d : List ℤ} → l ≡ d → Each B d → Each B l
kept B e h = subst (λ (z : List ℤ). Each B z) (sym e) h

-- ---- each row and then each column

-- M X M-transposed is each row through M, then each column
both_sides : (M : Matrix) (x : List ℤ) → forward_by 4 M x ≡ entries 4 (each_column (through 4 M) (each_row (through 4 M) (raster 4 x)))
both_sides M x = entries_same 4 _ _ (λ i j h l. sides 4 M (raster 4 x) i j)

-- the code's way through a matrix that reaches sixfold at the most: rows m of x, then r in each row, then exchanged, and the same again
module _ (M : Matrix) (sixfold : Reaches 4 6 M) (x : List ℤ) (small : Each 32768 x) (m : List (List ℤ)) (is : m ≡ rows_of 4 (raster 4 x)) where
  pub rows_fit : (i : ℕ) → i < 4 → Each wide (get_or m i [])
  rows_fit i l = row_each (raster 4 x) is wide (λ i j a b. raster_within 4 wide x (each_less 32768 wide x small tt) i j) i l

  module _ (r : List (List ℤ)) (rows : EachRow (through 4 M) m r) (t : List (List ℤ)) (columns : t ≡ rows_of 4 (transposed (matrix r))) where
    once : (i j : ℕ) → i < 4 → j < 4 → matrix r i j ≡ each_row (through 4 M) (raster 4 x) i j
    once = stepped (raster 4 x) is (through 4 M) (through_local 4 M) r rows

    pub columns_fit : (i : ℕ) → i < 4 → Each wide (get_or t i [])
    columns_fit i l =
        row_each (transposed (matrix r)) columns wide
        (λ i j a b.
        rw (once j i b a) (within_less (through_grows 4 M 6 sixfold 32768 (raster 4 x j) (λ k c. raster_within 4 32768 x small j k) i a) tt))
        i l

    pub both_ways : (r' t' : List (List ℤ)) → EachRow (through 4 M) t r' → t' ≡ rows_of 4 (transposed (matrix r')) → entries 4 (matrix t') ≡ forward_by 4 M x
    both_ways r' t' rows' exchanged =
        entries_same 4 (matrix t') _
        (λ i j h l.
        ap (λ (rows : List (List ℤ)). matrix rows i j) exchanged
        ∙ held_at (transposed (matrix r')) i j h l
        ∙ stepped (transposed (matrix r)) columns (through 4 M) (through_local 4 M) r' rows' j i l h
        ∙ through_local 4 M _ _ (λ k c. once k j c l) i h)
        ∙ sym (both_sides M x)

-- ---- the products

pub forward_around : (x : List ℤ) → forward x ≡ entries 4 (around 4 C (raster 4 x))
unfolding forward
forward_around x = refl

pub H4_symmetric : (i j : ℕ) → i < 4 → j < 4 → H4 i j ≡ H4 j i
H4_symmetric = same_below 4 H4 (transposed H4) tt

pub H2_symmetric : (i j : ℕ) → i < 2 → j < 2 → H2 i j ≡ H2 j i
H2_symmetric = same_below 2 H2 (transposed H2) tt

module _ (n : ℕ) (H : Matrix) (symmetric : (i j : ℕ) → i < n → j < n → H i j ≡ H j i) (w : List ℤ) where
  pub hadamard_around : hadamard n H w ≡ entries n (around n H (raster n w))
  unfolding hadamard
  hadamard_around = entries_same n _ _ (sides_symmetric n H (raster n w) symmetric)

-- the inverse's last step
pub rounded_inverse : (d : List ℤ) {r l : List ℤ} → r ≡ tab 16 (λ place. rounded (line l place)) → l ≡ entries 4 (each_column back (each_row back (raster 4 d))) → r ≡ inverse d
unfolding inverse grid
rounded_inverse d {r} {l} e g =
    e
    ∙ tab_same 16 _ _ (λ k h. ap rounded (ap (λ (z : List ℤ). line z k) g ∙ get_d_tab 16 _ k (pos 0) h))

-- ---- lengths

pub length_forward : (x : List ℤ) → length (forward x) ≡ 16
unfolding forward grid
length_forward x = length_tab 16 _

pub length_hadamard : (n : ℕ) (H : Matrix) (w : List ℤ) → length (hadamard n H w) ≡ n * n
unfolding hadamard grid
length_hadamard n H w = length_tab (n * n) _
