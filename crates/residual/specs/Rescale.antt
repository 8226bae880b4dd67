-- "Rescaled d = level*V*2^p" (01, "Transform, quantizer, rescaling"; ITU-T H.264, 8.5.12.1). Assumes nothing.
use Rattle.std.specs.Prelude.{cond, List, ℕ, ◌-◌, ◌^◌, ◌≤◌, leb, ℤ, pos, ◌+ℤ◌, ◌*ℤ◌, get_or}
use Rattle.lists.specs.Tab.{tab}
use Rattle.whole.specs.Bounds.{Within}
use Rattle.whole.specs.Notation.{◌>>◌}
use Rattle.quantizer.specs.Range.{period_of, remainder_of}
use Rattle.quantizer.specs.Tables.{mf_of, v_of, class_at_place}

-- the one scaling rule: k = 0 for a block, x*2^p; k = 2 for luma DC, "p>=2: g*Va*2^(p-2); p<2: (g*Va+2^(1-p))>>(2-p)"
unfoldable pub scaled_by : ℕ → ℕ → ℤ → ℤ
scaled_by k p x = cond (leb k p) (x *ℤ pos (2 ^ (p - k))) ((x +ℤ pos (2 ^ (k - p - 1))) >> (k - p))

-- numbers whose product the code can take: luma DC's 524288 times 29 * 2^6 is the largest
pub record Scalable (x : ℤ) (scale : ℕ) : Type 0 where
  pub low : scale ≤ 29696
  pub product : Within 973078528 (x *ℤ pos scale)

-- MF and V at a raster place, by its class
abbrev pub mf_at : ℕ → ℕ → ℕ
mf_at qp place = mf_of (remainder_of qp) (class_at_place place)

abbrev pub v_at : ℕ → ℕ → ℕ
v_at qp place = v_of (remainder_of qp) (class_at_place place)

-- the rescaled numbers of sixteen levels, both in raster order
unfoldable pub rescaled : ℕ → List ℤ → List ℤ
rescaled qp levels = tab 16 (λ place. scaled_by 0 (period_of qp) (get_or levels place (pos 0) *ℤ pos (v_at qp place)))
