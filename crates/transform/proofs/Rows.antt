-- Rows of four in the code, and from its four rows to the block.
--     inverse_line                              the inverse's code, reflected
--     row_through, square_through              code over ℤ whose normal form is a matrix's: the row through it, and all of the 2x2
--     back_local, back_grows                   the inverse's sums look at four numbers, and are four times as large at the most
--     held_at, row_each                        what stands in the rows of a matrix, and how large it is
--     EachRow, four_rows, stepped              rows that are f of a matrix's rows
-- Assumes nothing.
use mathlib.Core.Path.{◌≡◌, ap, ◌∙◌}
use mathlib.Core.List.{List, [], ◌∷◌}
use Prim.Native.Nat.{ℕ, zero, suc, ◌+◌, ◌*◌, ◌<◌}
use native.Mathlib.Omega.{arith}
use lib.Dec.{T}
use lib.IntN.{ℤ, pos}
use lib.ListN.{get_or}
use mir.Syntax.{w32}
use Rattle.lists.specs.Tab.{tab, grid}
use Rattle.lists.proofs.Tab.{get_d_tab}
use Rattle.whole.specs.Bounds.{Within, Each}
use Rattle.whole.proofs.Ring.{Expression, var, con, ◌⊕◌, ◌⊗◌, values, normals, rings}
use Rattle.whole.proofs.Steps.{Code, inp, add, sub, shr, each_at}
use Rattle.whole.proofs.Lists.{oks, mosts, sizes, each_tab}
use Rattle.transform.specs.Quads.{line, matrix, rows_of, through}
use Rattle.transform.specs.Hadamard.{hadamard}
use Rattle.transform.specs.Inverse.{butterfly, back}
use Rattle.transform.specs.Matrix.{Line, Matrix, each_row}
use Rattle.transform.proofs.Squares.{Local, Grows}

-- ---- the code of the inverse

abbrev pub even_sum : Code
even_sum = add (inp 0) (inp 2)

abbrev pub even_difference : Code
even_difference = sub (inp 0) (inp 2)

abbrev pub odd_difference : Code
odd_difference = sub (shr (inp 1) 1) (inp 3)

abbrev pub odd_sum : Code
odd_sum = add (inp 1) (shr (inp 3) 1)

abbrev pub inverse_line : List Code
inverse_line = add even_sum odd_sum ∷ add even_difference odd_difference ∷ sub even_difference odd_difference ∷ sub even_sum odd_sum ∷ []

-- ---- the matrices' rows, for the solver

abbrev sum_expression : ℕ → (ℕ → Expression) → Expression
sum_expression zero f = con (pos 0)
sum_expression (suc n) f = sum_expression n f ⊕ f n

abbrev through_expression : Matrix → ℕ → Expression
through_expression M place = sum_expression 4 (λ k. con (M place k) ⊗ var k)

abbrev pub through_expressions : Matrix → List Expression
through_expressions M = through_expression M 0 ∷ through_expression M 1 ∷ through_expression M 2 ∷ through_expression M 3 ∷ []

pub row_through : (M : Matrix) (code : List Expression) (v : List ℤ) → normals code ≡ normals (through_expressions M) → values v code ≡ tab 4 (through 4 M (line v))
unfolding tab
row_through M code v e = rings v code (through_expressions M) e

-- the entry of H W H in a row and a column, of two rows and two columns
abbrev square_expression : Matrix → ℕ → ℕ → Expression
square_expression H i j = sum_expression 2 (λ k. con (H i k) ⊗ sum_expression 2 (λ l. var (2 * k + l) ⊗ con (H l j)))

abbrev pub square_expressions : Matrix → List Expression
square_expressions H = square_expression H 0 0 ∷ square_expression H 0 1 ∷ square_expression H 1 0 ∷ square_expression H 1 1 ∷ []

pub square_through : (H : Matrix) (code : List Expression) (w : List ℤ) → normals code ≡ normals (square_expressions H) → values w code ≡ hadamard 2 H w
unfolding hadamard grid tab
square_through H code w e = rings w code (square_expressions H) e

-- ---- four numbers

pub back_local : Local 4 back
back_local x y h i l =
    ap (λ (z : List ℤ). get_or z i (pos 0))
    (λ t. butterfly (h 0 (omega arith) t) (h 1 (omega arith) t) (h 2 (omega arith) t) (h 3 (omega arith) t))

pub back_grows : (B M : ℕ) → T (oks w32 B inverse_line) → T (mosts B M inverse_line) → Grows 4 back B M
back_grows B M t u x h i l =
    each_at M (butterfly (x 0) (x 1) (x 2) (x 3))
    (sizes w32 B (x 0 ∷ x 1 ∷ x 2 ∷ x 3 ∷ []) (h 0 (omega arith), (h 1 (omega arith), (h 2 (omega arith), (h 3 (omega arith), tt)))) M inverse_line t u) i

-- ---- four rows of four

pub held_at : (A : Matrix) (i j : ℕ) → i < 4 → j < 4 → matrix (rows_of 4 A) i j ≡ A i j
held_at A i j h l =
    ap (λ (r : List ℤ). get_or r j (pos 0)) (get_d_tab 4 (λ row. tab 4 (A row)) i [] h) ∙ get_d_tab 4 (A i) j (pos 0) l

-- the rows of r are f of those of m
abbrev pub EachRow : (Line → Line) → List (List ℤ) → List (List ℤ) → Type 0
EachRow f m r = (i : ℕ) → i < 4 → get_or r i [] ≡ tab 4 (f (line (get_or m i [])))

-- row by row
pub four_rows : (f : Line → Line) (m r : List (List ℤ)) → get_or r 0 [] ≡ tab 4 (f (line (get_or m 0 []))) → get_or r 1 [] ≡ tab 4 (f (line (get_or m 1 [])))
    → get_or r 2 [] ≡ tab 4 (f (line (get_or m 2 []))) → get_or r 3 [] ≡ tab 4 (f (line (get_or m 3 []))) → EachRow f m r
four_rows f m r a b c d zero h = a
four_rows f m r a b c d (suc zero) h = b
four_rows f m r a b c d (suc (suc zero)) h = c
four_rows f m r a b c d (suc (suc (suc zero))) h = d
four_rows f m r a b c d (suc (suc (suc (suc k)))) h = absurd (omega arith)

module _ (A : Matrix) {m : List (List ℤ)} (is : m ≡ rows_of 4 A) where
  -- the bound of a row
  pub row_each : (B : ℕ) → ((i j : ℕ) → i < 4 → j < 4 → Within B (A i j)) → (i : ℕ) → i < 4 → Each B (get_or m i [])
  row_each B h i l =
      let e : get_or m i [] ≡ tab 4 (A i) = ap (λ (rows : List (List ℤ)). get_or rows i []) is ∙ get_d_tab 4 (λ row. tab 4 (A row)) i [] l in
      rw e (each_tab B 4 (A i) (λ j k. h i j l k))

  -- f of each row
  pub stepped : (f : Line → Line) → Local 4 f → (r : List (List ℤ)) → EachRow f m r → (i j : ℕ) → i < 4 → j < 4 → matrix r i j ≡ each_row f A i j
  stepped f local r rows i j h l =
      ap (λ (row : List ℤ). get_or row j (pos 0)) (rows i h)
      ∙ get_d_tab 4 (f (line (get_or m i []))) j (pos 0) l
      ∙ local _ _ (λ k q. ap (λ (rows : List (List ℤ)). matrix rows i k) is ∙ held_at A i k h q) j l
