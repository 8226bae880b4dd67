-- From residual to levels (01, "Transform, quantizer, rescaling"). Assumes nothing.
use Rattle.std.specs.Prelude.{List, ℕ, ℤ, pos, get_or}
use Rattle.lists.specs.Tab.{tab}
use Rattle.transform.specs.Forward.{forward}
use Rattle.quantizer.specs.Range.{period_of}
use Rattle.residual.specs.Order.{in_zigzag}
use Rattle.residual.specs.Quantize.{level_of}
use Rattle.residual.specs.Rescale.{mf_at}

-- the levels of a block's sixteen residuals, in raster order
unfoldable pub quantized : ℕ → List ℤ → List ℤ
quantized qp residual = tab 16 (λ place. level_of 0 (period_of qp) (mf_at qp place) (get_or (forward residual) place (pos 0)))

-- and in the order of the levels
abbrev pub levels_of : ℕ → List ℤ → List ℤ
levels_of qp residual = in_zigzag (quantized qp residual)
