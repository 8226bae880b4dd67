-- The DC paths (01, "Transform, quantizer, rescaling": "Luma DC", "Chroma DC"; ITU-T H.264, 8.5.10 and 8.5.11). Assumes nothing.
use Rattle.std.specs.Prelude.{cond, ◌||◌, List, ℕ, ◌^◌, T, eqb, ℤ, pos, ◌*ℤ◌, get_or}
use Rattle.lists.specs.Tab.{tab}
use Rattle.whole.specs.Notation.{◌>>◌}
use Rattle.transform.specs.Forward.{forward}
use Rattle.transform.specs.Hadamard.{H4, H2, hadamard}
use Rattle.quantizer.specs.Range.{period_of, remainder_of}
use Rattle.quantizer.specs.Tables.{mf_of, v_of}
use Rattle.quantizer.specs.declared.Class.TheVariants.{A}
use Rattle.residual.specs.Order.{in_zigzag, in_places}
use Rattle.residual.specs.Quantize.{level_of}
use Rattle.residual.specs.Rescale.{scaled_by}

-- "MFa", "Va": a DC coefficient stands at row 0, column 0, which is of class a
abbrev pub mf_a : ℕ → ℕ
mf_a qp = mf_of (remainder_of qp) A

abbrev pub v_a : ℕ → ℕ
v_a qp = v_of (remainder_of qp) A

-- the DC coefficients of n blocks of residuals: coefficient 0 of each
abbrev pub dc_of : ℕ → (ℕ → List ℤ) → List ℤ
dc_of n blocks = tab n (λ k. get_or (forward (blocks k)) 0 (pos 0))

-- the levels of n numbers T by the one quantizing rule: s = 2, "(|T|*MFa+4f)/2^(q+2)"; s = 1, "(|T|*MFa+2f)/2^(q+1)"
unfoldable pub quantized_dc : ℕ → ℕ → ℕ → List ℤ → List ℤ
quantized_dc n s qp t = tab n (λ k. level_of s (period_of qp) (mf_a qp) (get_or t k (pos 0)))

-- ---- luma: sixteen values in raster order, sixteen levels in zigzag order

-- "T=HWH is not halved; size (|T|*MFa+4f)/2^(q+2)." "DC levels are in zigzag order too"
unfoldable pub luma_levels : ℕ → List ℤ → List ℤ
luma_levels qp dc = in_zigzag (quantized_dc 16 2 qp (hadamard 4 H4 dc))

-- "Back: g=HZH; p>=2: g*Va*2^(p-2); p<2: (g*Va+2^(1-p))>>(2-p)": the one scaling rule at k = 2
unfoldable pub luma_scaled : ℕ → List ℤ → List ℤ
luma_scaled qp g = tab 16 (λ k. scaled_by 2 (period_of qp) (get_or g k (pos 0) *ℤ pos (v_a qp)))

unfoldable pub luma_values : ℕ → List ℤ → List ℤ
luma_values qp levels = luma_scaled qp (hadamard 4 H4 (in_places levels))

-- ---- chroma: four values and four levels, both in raster order

-- "size (|T|*MFa+2f)/2^(q+1)"
unfoldable pub chroma_levels : ℕ → List ℤ → List ℤ
chroma_levels qp dc = quantized_dc 4 1 qp (hadamard 2 H2 dc)

-- "back (g*Va*2^p)>>1"
unfoldable pub chroma_scaled : ℕ → List ℤ → List ℤ
chroma_scaled qp g = tab 4 (λ k. (get_or g k (pos 0) *ℤ pos (v_a qp) *ℤ pos (2 ^ period_of qp)) >> 1)

unfoldable pub chroma_values : ℕ → List ℤ → List ℤ
chroma_values qp levels = chroma_scaled qp (hadamard 2 H2 levels)

-- ---- either: the count of the values tells luma's sixteen from chroma's four

abbrev pub DcCount : ℕ → Type 0
DcCount n = T (eqb n 16 || eqb n 4)

-- the levels of n DC values by their DC path, and the values of n DC levels
unfoldable pub dc_levels : (n qp : ℕ) → List ℤ → List ℤ
dc_levels n qp dc = cond (eqb n 16) (luma_levels qp dc) (chroma_levels qp dc)

unfoldable pub dc_values : (n qp : ℕ) → List ℤ → List ℤ
dc_values n qp levels = cond (eqb n 16) (luma_values qp levels) (chroma_values qp levels)

-- n values in the order of their levels
abbrev pub by_level : ℕ → List ℤ → List ℤ
by_level n values = cond (eqb n 16) (in_zigzag values) values
