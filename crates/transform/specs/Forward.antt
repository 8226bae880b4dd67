-- "Y = C X C-transposed" (01, "Transform, quantizer, rescaling"). Assumes nothing.
use Rattle.std.specs.Prelude.{List, [], ◌∷◌, ℕ, ℤ, pos}
use Rattle.whole.specs.Notation.{minus}
use Rattle.transform.specs.Matrix.{Matrix, product, transposed, raster, entries}

-- "C has rows (1,1,1,1), (2,1,-1,-2), (1,-1,-1,1), (1,-2,2,-1)."
abbrev pub C : Matrix
C =
    raster 4
    (pos 1 ∷ pos 1 ∷ pos 1 ∷ pos 1
    ∷ pos 2 ∷ pos 1 ∷ minus 1 ∷ minus 2
    ∷ pos 1 ∷ minus 1 ∷ minus 1 ∷ pos 1
    ∷ pos 1 ∷ minus 2 ∷ pos 2 ∷ minus 1 ∷ [])

-- the coefficients of n by n residuals by a matrix
abbrev pub forward_by : (n : ℕ) → Matrix → List ℤ → List ℤ
forward_by n M x = entries n (product n M (product n (raster n x) (transposed M)))

-- those of a block's sixteen residuals
unfoldable pub forward : List ℤ → List ℤ
forward x = forward_by 4 C x
