-- Matrices of whole numbers, by their entries, over the size (01, "Transform, quantizer, rescaling"). Assumes nothing.
use Rattle.std.specs.Prelude.{List, ℕ, ◌+◌, ◌*◌, ℤ, pos, ◌*ℤ◌, get_or}
use Rattle.lists.specs.Tab.{grid}
use Rattle.whole.specs.Sum.{sum}

-- the numbers of a row or a column, by their place
abbrev pub Line : Type 0
Line = ℕ → ℤ

-- the entry in a row and a column
abbrev pub Matrix : Type 0
Matrix = ℕ → Line

-- the product of two matrices of n rows and n columns
abbrev pub product : ℕ → Matrix → Matrix → Matrix
product n A B = λ row column. sum n (λ k. A row k *ℤ B k column)

abbrev pub transposed : Matrix → Matrix
transposed A = λ row column. A column row

-- f of each row, and of each column
abbrev pub each_row : (Line → Line) → Matrix → Matrix
each_row f A = λ row column. f (A row) column

abbrev pub each_column : (Line → Line) → Matrix → Matrix
each_column f A = λ row column. f (transposed A column) row

-- the matrix whose rows of n stand in a list, one behind the other
abbrev pub raster : ℕ → List ℤ → Matrix
raster n l = λ row column. get_or l (n * row + column) (pos 0)

-- and the list of a matrix of n rows and n columns: its entries in raster order, for which `grid` takes the column first
abbrev pub entries : ℕ → Matrix → List ℤ
entries n A = grid n (transposed A)
