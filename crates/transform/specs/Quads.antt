-- How the code holds sixteen numbers: four rows of four. Assumes nothing.
use Rattle.std.specs.Prelude.{List, [], ℕ, ℤ, pos, ◌*ℤ◌, get_or}
use Rattle.lists.specs.Tab.{tab}
use Rattle.whole.specs.Sum.{sum}
use Rattle.transform.specs.Matrix.{Line, Matrix, each_row, raster, entries}

-- the matrix whose rows are held
abbrev pub matrix : List (List ℤ) → Matrix
matrix rows = λ row column. get_or (get_or rows row []) column (pos 0)

-- and the rows that hold a matrix of n rows and n columns
abbrev pub rows_of : ℕ → Matrix → List (List ℤ)
rows_of n A = tab n (λ row. tab n (A row))

-- the number at each place of a list
abbrev pub line : List ℤ → Line
line l = λ place. get_or l place (pos 0)

-- a square of n rows in a list with f of each row
unfoldable pub by_row : ℕ → (Line → Line) → List ℤ → List ℤ
by_row n f l = entries n (each_row f (raster n l))

-- a row times each row of M
abbrev pub through : ℕ → Matrix → Line → Line
through n M x = λ place. sum n (λ k. M place k *ℤ x k)

-- a bound on what the code hands round inside: sums of a few such numbers fit 32 bits
abbrev pub wide : ℕ
wide = 100000000
