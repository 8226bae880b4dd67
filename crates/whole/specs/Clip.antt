-- "clipped to 0..255", "clipped to 0..51" (01, "Transform, quantizer, rescaling"). Assumes nothing.
use Rattle.std.specs.Prelude.{ℕ, min, ℤ, pos, negsuc}

-- z clipped to 0..high
unfoldable pub clip : ℕ → ℤ → ℕ
clip high (pos n) = min n high
clip high (negsuc n) = 0
