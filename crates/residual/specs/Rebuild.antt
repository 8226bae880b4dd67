-- From levels to samples (01, "Transform, quantizer, rescaling"; ITU-T H.264, 8.5.12 and 8.5.14). Assumes nothing.
use Rattle.std.specs.Prelude.{List, ◌∷◌, ℕ, ℤ, pos, ◌+ℤ◌, get_or, set}
use Rattle.lists.specs.Tab.{tab}
use Rattle.whole.specs.Clip.{clip}
use Rattle.transform.specs.Inverse.{inverse}
use Rattle.residual.specs.Order.{in_places}
use Rattle.residual.specs.Rescale.{rescaled}

-- "sample = prediction + residual, clipped to 0..255", of n samples
unfoldable pub added : (n : ℕ) → List ℕ → List ℤ → List ℕ
added n prediction residual = tab n (λ place. clip 255 (pos (get_or prediction place 0) +ℤ get_or residual place (pos 0)))

-- the samples of a prediction and of sixteen rescaled numbers in raster order
unfoldable pub rebuilt_samples : List ℕ → List ℤ → List ℕ
rebuilt_samples prediction d = added 16 prediction (inverse d)

-- sixteen levels in zigzag order, rescaled, in raster order
abbrev pub rescaled_of : ℕ → List ℤ → List ℤ
rescaled_of qp levels = rescaled qp (in_places levels)

-- "A block whose DC comes this way is rebuilt from that rescaled DC and 15 AC levels."
abbrev pub rescaled_with_dc : ℕ → ℤ → List ℤ → List ℤ
rescaled_with_dc qp dc ac = set (rescaled_of qp (pos 0 ∷ ac)) 0 dc
