-- The worked block of Richardson's H.264 white paper on transform and quantization, at QP 10, by evaluation. Assumes nothing.
use mathlib.Core.Path.{◌≡◌, refl}
use mathlib.Core.List.{List, [], ◌∷◌}
use lib.IntN.{ℤ, pos, negsuc}
use Rattle.lists.specs.Tab.{tab, grid}
use Rattle.transform.specs.Forward.{forward}
use Rattle.transform.specs.Inverse.{inverse}

-- the residuals X
abbrev pub residual : List ℤ
residual =
    pos 5 ∷ pos 11 ∷ pos 8 ∷ pos 10
    ∷ pos 9 ∷ pos 8 ∷ pos 4 ∷ pos 12
    ∷ pos 1 ∷ pos 10 ∷ pos 11 ∷ pos 4
    ∷ pos 19 ∷ pos 6 ∷ pos 15 ∷ pos 7 ∷ []

-- their coefficients Y
abbrev pub coefficients : List ℤ
coefficients =
    pos 140 ∷ negsuc 0 ∷ negsuc 5 ∷ pos 7
    ∷ negsuc 18 ∷ negsuc 38 ∷ pos 7 ∷ negsuc 91
    ∷ pos 22 ∷ pos 17 ∷ pos 8 ∷ pos 31
    ∷ negsuc 26 ∷ negsuc 31 ∷ negsuc 58 ∷ negsuc 20 ∷ []

-- Y quantized and rescaled
abbrev pub rescaled : List ℤ
rescaled =
    pos 544 ∷ pos 0 ∷ negsuc 31 ∷ pos 0
    ∷ negsuc 39 ∷ negsuc 99 ∷ pos 0 ∷ negsuc 249
    ∷ pos 96 ∷ pos 40 ∷ pos 32 ∷ pos 80
    ∷ negsuc 79 ∷ negsuc 49 ∷ negsuc 199 ∷ negsuc 49 ∷ []

-- and the residuals that come back
abbrev pub rebuilt : List ℤ
rebuilt =
    pos 4 ∷ pos 13 ∷ pos 8 ∷ pos 10
    ∷ pos 8 ∷ pos 8 ∷ pos 4 ∷ pos 12
    ∷ pos 1 ∷ pos 10 ∷ pos 10 ∷ pos 3
    ∷ pos 18 ∷ pos 5 ∷ pos 14 ∷ pos 7 ∷ []

pub richardson : (forward residual ≡ coefficients) × (inverse rescaled ≡ rebuilt)
unfolding forward inverse grid tab
richardson = (refl, refl)
