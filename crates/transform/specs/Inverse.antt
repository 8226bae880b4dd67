-- "Inverse, each row first, then each column" (01, "Transform, quantizer, rescaling"; ITU-T H.264, 8.5.12.2). Assumes nothing.
use Rattle.std.specs.Prelude.{List, [], ◌∷◌, ℕ, ℤ, pos, ◌+ℤ◌, ◌-ℤ◌, get_or}
use Rattle.whole.specs.Notation.{◌>>◌}
use Rattle.transform.specs.Matrix.{Line, each_row, each_column, raster, entries}

-- "shifts round down"
abbrev pub half : ℤ → ℤ
half z = z >> 1

-- "from w0..w3 make e=w0+w2, g=w0-w2, k=(w1>>1)-w3, m=w1+(w3>>1), giving e+m, g+k, g-k, e-m"
abbrev pub butterfly : ℤ → ℤ → ℤ → ℤ → List ℤ
butterfly w0 w1 w2 w3 =
    let e = w0 +ℤ w2 in
    let g = w0 -ℤ w2 in
    let k = half w1 -ℤ w3 in
    let m = w1 +ℤ half w3 in
    (e +ℤ m) ∷ (g +ℤ k) ∷ (g -ℤ k) ∷ (e -ℤ m) ∷ []

-- the same of a row or a column
abbrev pub back : Line → Line
back w = λ place. get_or (butterfly (w 0) (w 1) (w 2) (w 3)) place (pos 0)

-- "Residual = (value+32)>>6"
abbrev pub rounded : ℤ → ℤ
rounded z = (z +ℤ pos 32) >> 6

-- the residuals of n by n rescaled coefficients, by what is made of a row or a column
abbrev pub inverse_by : (n : ℕ) → (Line → Line) → List ℤ → List ℤ
inverse_by n line d = entries n (λ row column. rounded (each_column line (each_row line (raster n d)) row column))

-- those of a block's sixteen
unfoldable pub inverse : List ℤ → List ℤ
inverse d = inverse_by 4 back d
