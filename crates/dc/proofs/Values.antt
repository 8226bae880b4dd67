-- Laws of the DC values.
--     products_fit                      that the code can take numbers times the scale of class a, over the power of two
--     luma_back, chroma_back            g of levels of 16 bits
--     scaled_by_law                         n numbers rescaled by a rule
--     chroma_shift, chroma_values_length       chroma's plain shift, and that its values are four
--     dc_values_length, by_level_length as many values as levels, of either path
-- Assumes nothing.
use mathlib.Core.Path.{◌≡◌, sym, ap, ◌∙◌}
use mathlib.Core.List.{List}
use Prim.Native.Nat.{ℕ, ◌*◌, ◌^◌, ◌<◌, ◌≤◌}
use native.Mathlib.Nat.{mul-le-mul}
use native.Mathlib.Omega.{arith}
use lib.Dec.{T, leb}
use lib.IntN.{ℤ, pos, ◌+ℤ◌, ◌*ℤ◌, +ℤ_idr}
use lib.ListN.{length, get_or, replicate, get_or-replicate}
use lib.Pow.{pow_mono}
use lib.Signed.{shr_z}
use Rattle.lists.specs.Tab.{tab}
use Rattle.lists.proofs.Tab.{tab_same, length_tab}
use Rattle.whole.specs.Bounds.{Each}
use Rattle.whole.proofs.Laws.{*ℤ_assoc}
use Rattle.whole.proofs.Steps.{each_at}
use Rattle.transform.specs.Hadamard.{H4, H2, hadamard}
use Rattle.transform.proofs.Bounds.{hadamard4_each, hadamard2_each}
use Rattle.quantizer.specs.Range.{remainder_of}
use Rattle.quantizer.specs.declared.Class.TheVariants.{A}
use Rattle.quantizer.proofs.Tables.{v_small}
use Rattle.residual.specs.Rescale.{Scalable}
use Rattle.residual.proofs.Rescale.{scalable}
use Rattle.residual.proofs.Order.{length_zigzag}
use Rattle.dc.specs.Dc.{DcCount, v_a, luma_scaled, luma_values, chroma_scaled, chroma_values, dc_values, by_level}
use Rattle.dc.proofs.Levels.{by_count}

-- ---- bounds

-- numbers within B and a power up to m
pub products_fit : (B m n qp power : ℕ) (g : List ℤ) {scale : ℕ} → scale ≡ v_a qp * 2 ^ power → power ≤ m → Each B g
    → T (leb (29 * 2 ^ m) 29696) → T (leb (B * (29 * 2 ^ m)) 973078528)
    → (k : ℕ) → k < n → Scalable (get_or g k (pos 0)) (get_or (replicate n scale) k 0)
products_fit B m n qp power g {scale} e h b low room k l =
    rw (get_or-replicate n k scale 0 l, e)
    (scalable B (v_a qp * 2 ^ power) (29 * 2 ^ m) (each_at B g b k) (mul-le-mul (v_small (remainder_of qp) (omega arith) A) (pow_mono {i = power} {j = m} h)) low room)

pub luma_back : (levels : List ℤ) → Each 32768 levels → Each 524288 (hadamard 4 H4 levels)
luma_back levels h = hadamard4_each 32768 levels h

pub chroma_back : (levels : List ℤ) → Each 32768 levels → Each 131072 (hadamard 2 H2 levels)
chroma_back levels h = hadamard2_each 32768 levels h

-- ---- n numbers rescaled by one scale, as the code has them: each by a rule that scale, what is added and the shift meet

pub scaled_by_law : (n qp power round shift : ℕ) (g : List ℤ) (rule : ℤ → ℤ) {scale added down : ℕ} {r : List ℤ}
    → r ≡ tab (length g) (λ k. shr_z (get_or g k (pos 0) *ℤ pos (get_or (replicate n scale) k 0) +ℤ pos added) (2 ^ down))
    → length g ≡ n
    → scale ≡ v_a qp * 2 ^ power
    → added ≡ round
    → down ≡ shift
    → ((x : ℤ) → shr_z (x *ℤ pos (v_a qp * 2 ^ power) +ℤ pos round) (2 ^ shift) ≡ rule x)
    → r ≡ tab n (λ k. rule (get_or g k (pos 0)))
scaled_by_law n qp power round shift g rule {scale} {added} {down} made long e a d h =
    made
    ∙ (λ i. tab (long i) (λ k. shr_z (get_or g k (pos 0) *ℤ pos (get_or (replicate n scale) k 0) +ℤ pos (a i)) (2 ^ d i)))
    ∙ tab_same n _ _ (λ k l.
    ap (λ (m : ℕ). shr_z (get_or g k (pos 0) *ℤ pos m +ℤ pos round) (2 ^ shift)) (get_or-replicate n k scale 0 l ∙ e)
    ∙ h (get_or g k (pos 0)))

-- ---- chroma

pub chroma_shift : (v p : ℕ) (x : ℤ) → shr_z (x *ℤ pos (v * 2 ^ p) +ℤ pos 0) (2 ^ 1) ≡ shr_z (x *ℤ pos v *ℤ pos (2 ^ p)) 2
chroma_shift v p x = ap (λ (z : ℤ). shr_z z 2) (+ℤ_idr (x *ℤ pos (v * 2 ^ p)) ∙ sym (*ℤ_assoc x (pos v) (pos (2 ^ p))))

pub chroma_values_length : (qp : ℕ) (levels : List ℤ) → length (chroma_values qp levels) ≡ 4
unfolding chroma_values chroma_scaled
chroma_values_length qp levels = length_tab 4 _

pub dc_values_length : (n : ℕ) → DcCount n → (qp : ℕ) (levels : List ℤ) → length (dc_values n qp levels) ≡ n
unfolding dc_values luma_values luma_scaled
dc_values_length n one qp levels = by_count (λ k. length (dc_values k qp levels) ≡ k) (length_tab 16 _) (chroma_values_length qp levels) n one

-- also in the order of their levels
pub by_level_length : (n : ℕ) → DcCount n → (qp : ℕ) (levels : List ℤ) → length (by_level n (dc_values n qp levels)) ≡ n
unfolding dc_values
by_level_length n one qp levels = by_count (λ k. length (by_level k (dc_values k qp levels)) ≡ k) (length_zigzag (luma_values qp levels)) (chroma_values_length qp levels) n one
