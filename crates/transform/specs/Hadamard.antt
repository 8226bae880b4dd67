-- "T=HWH is not halved", "g=HZH" (01, "Transform, quantizer, rescaling": luma DC, chroma DC; ITU-T H.264, 8.5.10 and 8.5.11).
-- Assumes nothing.
use Rattle.std.specs.Prelude.{List, [], ◌∷◌, ℕ, ℤ, pos}
use Rattle.whole.specs.Notation.{minus}
use Rattle.transform.specs.Matrix.{Matrix, product, raster, entries}

-- "H has rows (1,1,1,1), (1,1,-1,-1), (1,-1,-1,1), (1,-1,1,-1)."
abbrev pub H4 : Matrix
H4 =
    raster 4
    (pos 1 ∷ pos 1 ∷ pos 1 ∷ pos 1
    ∷ pos 1 ∷ pos 1 ∷ minus 1 ∷ minus 1
    ∷ pos 1 ∷ minus 1 ∷ minus 1 ∷ pos 1
    ∷ pos 1 ∷ minus 1 ∷ pos 1 ∷ minus 1 ∷ [])

-- "Chroma DC: 2x2 with rows (1,1), (1,-1)"
abbrev pub H2 : Matrix
H2 =
    raster 2
    (pos 1 ∷ pos 1
    ∷ pos 1 ∷ minus 1 ∷ [])

-- n rows and n columns of DC values through H
unfoldable pub hadamard : ℕ → Matrix → List ℤ → List ℤ
hadamard n H w = entries n (product n H (product n (raster n w) H))
