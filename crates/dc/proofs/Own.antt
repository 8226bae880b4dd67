-- The DC coder's own levels rescale into 16 bits, for every quantizer and DC values within 4080: luma within 25088, chroma within 19968.
--     own_back_near            own levels through H, times the divisor, against n n MFa times the DC value that they stand for
--     most_back, own_back_within   so how large what comes through H is, over the size and s
--     own_dc_in_range, own_chroma_dc_in_range                the values that own levels come back as
--     own_dc_fits, own_chroma_dc_fits                        so RANGE finds none
--     own_dc_accepted, own_chroma_dc_accepted                and `luma_dc_values` and `chroma_dc_values` accept them
--     own_test_idle                                          and a test of that in the luma coder, as document 01 had with 7 OWN, never refuses
-- Assumes nothing.
use mathlib.Core.Path.{◌≡◌, refl, sym, ap, subst, ◌∙◌}
use mathlib.Core.List.{List, [], ◌∷◌, ◌++◌}
use Prim.Native.Nat.{ℕ, ◌+◌, ◌*◌, ◌/◌, ◌^◌, ◌<◌, ◌≤◌}
use native.Mathlib.Nat.{mul-le-mul_right, mul-le-mul_left, le-div_iff_mul-le}
use native.Mathlib.Omega.{arith}
use lib.Dec.{T, leb, leb→le}
use lib.IntN.{ℤ, pos, nat_abs, ◌+ℤ◌, ◌-ℤ◌, ◌*ℤ◌, +ℤ_idr, -ℤ-+ℤ_cancel}
use lib.ListN.{length, get_or}
use lib.Pow.{pow_pos}
use lib.Signed.{shr_z}
use Rattle.lists.specs.Chain.{scan_test, Verdict, chain, pass, stop}
use Rattle.lists.specs.Every.{every}
use Rattle.lists.proofs.Chain.{chain_refused, scan_none}
use Rattle.lists.proofs.Every.{every_at}
use Rattle.lists.proofs.Tab.{get_d_tab, length_tab}
use Rattle.whole.specs.Bounds.{Within, Each}
use Rattle.whole.proofs.Bound.{abs_add, abs_mul, shr_within}
use Rattle.whole.proofs.Lists.{each_from, each_tab, each_less}
use Rattle.whole.proofs.Steps.{each_at}
use Rattle.transform.specs.Hadamard.{H4, H2, hadamard}
use Rattle.transform.specs.Matrix.{Matrix}
use Rattle.transform.proofs.Bounds.{units}
use Rattle.transform.proofs.Carried.{H4_undoes, H2_undoes}
use Rattle.transform.proofs.Linear as linear
use Rattle.transform.proofs.Products.{Undoes}
use Rattle.transform.proofs.Sides.{length_hadamard, H4_symmetric, H2_symmetric}
use Rattle.quantizer.specs.Range.{highest, period_of}
use Rattle.refusal.specs.declared.Refusal.{Refusal}
use Rattle.residual.specs.Entry.{first_wide}
use Rattle.residual.specs.Order.{in_zigzag}
use Rattle.residual.specs.Quantize.{level_of, q_of}
use Rattle.residual.proofs.Distance.{divisor_of, miss_of, level_misses}
use Rattle.residual.proofs.Entry.{wide_none}
use Rattle.residual.proofs.Order.{length_zigzag, places_again, in_zigzag_each}
use Rattle.residual.proofs.Rescale.{scaled_within}
use Rattle.dc.specs.Dc.{mf_a, v_a, quantized_dc, luma_levels, luma_scaled, luma_values, chroma_levels, chroma_scaled, chroma_values}
use Rattle.dc.specs.Entry.{luma_levels_tests, luma_values_tests, chroma_levels_tests, chroma_values_tests}
use Rattle.dc.proofs.Entry.{codable, dc_values_fine}
use Rattle.dc.proofs.Levels.{luma_levels_each, luma_levels_length, chroma_levels_each, chroma_levels_length}
use Rattle.dc.proofs.Values.{chroma_values_length}

-- the largest number of own levels that came through H
abbrev pub most_back : (n s qp : ℕ) → ℕ
most_back n s qp = n * n * (miss_of s (period_of qp) + mf_a qp * 4080) / divisor_of s (period_of qp)

-- d g is within e of m x: then d times the size of g is at most e and m times that of x
near_size : (d m e B : ℕ) (g x : ℤ) → Within e (pos d *ℤ g -ℤ pos m *ℤ x) → Within B x → nat_abs g * d ≤ e + m * B
near_size d m e B g x near small =
    let again : nat_abs (pos d *ℤ g -ℤ pos m *ℤ x +ℤ pos m *ℤ x) ≡ nat_abs (pos d *ℤ g) = ap nat_abs (-ℤ-+ℤ_cancel (pos d *ℤ g) (pos m *ℤ x)) in
    omega (arith, again, abs_add (pos d *ℤ g -ℤ pos m *ℤ x) (pos m *ℤ x), abs_mul (pos d) g, abs_mul (pos m) x, mul-le-mul_left m small.size, near.size)

module _ (n : ℕ) (H : Matrix) (symmetric : (i j : ℕ) → i < n → j < n → H i j ≡ H j i) (t : T (units n H))
    (undoes : Undoes n H H (pos n)) (s qp : ℕ) (w : List ℤ) (long : length w ≡ n * n) where
  own : List ℤ
  own = quantized_dc (n * n) s qp (hadamard n H w)

  own_at : (k : ℕ) → k < n * n → get_or own k (pos 0) ≡ level_of s (period_of qp) (mf_a qp) (get_or (hadamard n H w) k (pos 0))
  unfolding own quantized_dc
  own_at k h = get_d_tab (n * n) (λ k. level_of s (period_of qp) (mf_a qp) (get_or (hadamard n H w) k (pos 0))) k (pos 0) h

  pub own_back_near : (k : ℕ) → k < n * n
      → Within (n * (n * miss_of s (period_of qp)))
      (pos (divisor_of s (period_of qp)) *ℤ get_or (hadamard n H (quantized_dc (n * n) s qp (hadamard n H w))) k (pos 0) -ℤ pos (mf_a qp) *ℤ (pos (n * n) *ℤ get_or w k (pos 0)))
  unfolding own
  own_back_near k h =
      linear.twice_near n H symmetric t (pos (divisor_of s (period_of qp))) (pos (mf_a qp)) (miss_of s (period_of qp)) (pos n) undoes w own long
      (λ k h. subst (λ (z : ℤ). Within (miss_of s (period_of qp)) (pos (divisor_of s (period_of qp)) *ℤ z -ℤ pos (mf_a qp) *ℤ get_or (hadamard n H w) k (pos 0))) (sym (own_at k h))
      (level_misses s (period_of qp) (mf_a qp) (get_or (hadamard n H w) k (pos 0)))) k h

  module _ (small : Each 4080 w) where
    pub own_back_within : Each (most_back n s qp) (hadamard n H (quantized_dc (n * n) s qp (hadamard n H w)))
    own_back_within =
        let g = hadamard n H (quantized_dc (n * n) s qp (hadamard n H w)) in
        each_from (most_back n s qp) g (λ k l.
        let h : k < n * n = omega (arith, length_hadamard n H (quantized_dc (n * n) s qp (hadamard n H w))) in
        let size = near_size (divisor_of s (period_of qp)) (mf_a qp) (n * (n * miss_of s (period_of qp))) (n * n * 4080) (get_or g k (pos 0)) (pos (n * n) *ℤ get_or w k (pos 0)) (own_back_near k h)
        (record { size = omega (arith, abs_mul (pos (n * n)) (get_or w k (pos 0)), mul-le-mul_left (n * n) (each_at 4080 w small k).size) }) in
        record { size = (le-div_iff_mul-le {k = divisor_of s (period_of qp)} (pow_pos (q_of (period_of qp) + s))).1 (omega (arith, size)) })

-- ---- for every quantizer: the checker computes how large, over all 52

-- the largest g times Va, times 2^p, is at most 2^s B
module _ (n s B : ℕ) (t : T (every 52 (λ qp. leb (most_back n s qp * v_a qp * 2 ^ period_of qp) (2 ^ s * B)))) (qp : ℕ) (legal : qp ≤ highest) where
  room : most_back n s qp * v_a qp * 2 ^ period_of qp ≤ 2 ^ s * B
  room = leb→le _ _ (every_at 52 (λ qp. leb (most_back n s qp * v_a qp * 2 ^ period_of qp) (2 ^ s * B)) t qp (omega arith))

-- a number through H, times Va
times_scale : (M v : ℕ) (g : List ℤ) (k : ℕ) → Each M g → Within (M * v) (get_or g k (pos 0) *ℤ pos v)
times_scale M v g k h = record { size = omega (arith, abs_mul (get_or g k (pos 0)) (pos v), mul-le-mul_right v (each_at M g h k).size) }

-- ---- luma

module _ (qp : ℕ) (legal : qp ≤ highest) (dc : List ℤ) (long : length dc ≡ 16) (small : Each 4080 dc) where
  luma_again : luma_values qp (luma_levels qp dc) ≡ luma_scaled qp (hadamard 4 H4 (quantized_dc 16 2 qp (hadamard 4 H4 dc)))
  unfolding luma_values luma_levels quantized_dc
  luma_again = ap (λ (z : List ℤ). luma_scaled qp (hadamard 4 H4 z)) (places_again (quantized_dc 16 2 qp (hadamard 4 H4 dc)) (length_tab 16 _))

  luma_scaled_each : (g : List ℤ) → Each (most_back 4 2 qp) g → Each 25088 (luma_scaled qp g)
  unfolding luma_scaled
  luma_scaled_each g h =
      each_tab 25088 16 _ (λ k l.
      scaled_within 2 (period_of qp) (most_back 4 2 qp * v_a qp) 25088 (room 4 2 25088 tt qp legal) (get_or g k (pos 0) *ℤ pos (v_a qp)) (times_scale (most_back 4 2 qp) (v_a qp) g k h))

  pub own_dc_in_range : Each 25088 (luma_values qp (luma_levels qp dc))
  own_dc_in_range =
      subst (Each 25088) (sym luma_again)
      (luma_scaled_each (hadamard 4 H4 (quantized_dc 16 2 qp (hadamard 4 H4 dc)))
      (own_back_within 4 H4 H4_symmetric tt H4_undoes 2 qp dc long small))

  -- none lies outside -32768..32767
  pub own_dc_fits : first_wide (in_zigzag (luma_values qp (luma_levels qp dc))) ≡ 16
  own_dc_fits =
      let values = luma_values qp (luma_levels qp dc) in
      wide_none (in_zigzag values) (in_zigzag_each 32767 values (each_less 25088 32767 values own_dc_in_range tt)) ∙ length_zigzag values

-- so `luma_dc_values` accepts what the luma coder makes wherever its own tests pass
pub own_dc_accepted : (qp : ℕ) (dc out back : List ℤ) → chain (luma_levels_tests qp dc out) ≡ pass → length back ≡ 16 → chain (luma_values_tests qp (luma_levels qp dc) back) ≡ pass
own_dc_accepted qp dc out back passed room =
    let given = codable 16 qp dc out passed in
    let levels = luma_levels qp dc in
    let narrow = wide_none levels (each_less 6528 32767 levels (luma_levels_each qp dc given.small) tt) ∙ luma_levels_length qp dc in
    dc_values_fine 16 qp levels back (first_wide (in_zigzag (luma_values qp levels))) (luma_levels_length qp dc) room given.legal narrow
    (own_dc_fits qp given.legal dc given.long given.small)

-- and a test of that behind the luma coder's own would never fail, whatever it refused with
pub own_test_idle : (qp : ℕ) (dc out : List ℤ) (r : Refusal)
    → chain (luma_levels_tests qp dc out ++ (scan_test 16 (first_wide (in_zigzag (luma_values qp (luma_levels qp dc)))) (λ k. r) ∷ [])) ≡ chain (luma_levels_tests qp dc out)
own_test_idle qp dc out r = by (chain (luma_levels_tests qp dc out)) refl
  where
    by : (v : Verdict Refusal) → chain (luma_levels_tests qp dc out) ≡ v
        → chain (luma_levels_tests qp dc out ++ (scan_test 16 (first_wide (in_zigzag (luma_values qp (luma_levels qp dc)))) (λ k. r) ∷ [])) ≡ v
    by (stop q) e = chain_refused (luma_levels_tests qp dc out) (scan_test 16 (first_wide (in_zigzag (luma_values qp (luma_levels qp dc)))) (λ k. r) ∷ []) q e
    by pass e =
        let given = codable 16 qp dc out e in
        scan_none (luma_levels_tests qp dc out) e 16 (first_wide (in_zigzag (luma_values qp (luma_levels qp dc)))) (λ k. r) [] (own_dc_fits qp given.legal dc given.long given.small)

-- ---- chroma

module _ (qp : ℕ) (legal : qp ≤ highest) (dc : List ℤ) (long : length dc ≡ 4) (small : Each 4080 dc) where
  chroma_scaled_each : (g : List ℤ) → Each (most_back 2 1 qp) g → Each 19968 (chroma_scaled qp g)
  unfolding chroma_scaled
  chroma_scaled_each g h =
      each_tab 19968 4 _ (λ k l.
      let x = get_or g k (pos 0) *ℤ pos (v_a qp) *ℤ pos (2 ^ period_of qp) in
      let size = mul-le-mul_right (2 ^ period_of qp) (times_scale (most_back 2 1 qp) (v_a qp) g k h).size in
      let most = room 2 1 19968 tt qp legal in
      subst (λ (z : ℤ). Within 19968 (shr_z z 2)) (+ℤ_idr (get_or g k (pos 0) *ℤ pos (v_a qp) *ℤ pos (2 ^ period_of qp)))
      (shr_within 2 19968 0 (omega arith) x (record { size = omega (arith, size, most, abs_mul (get_or g k (pos 0) *ℤ pos (v_a qp)) (pos (2 ^ period_of qp))) })))

  pub own_chroma_dc_in_range : Each 19968 (chroma_values qp (chroma_levels qp dc))
  unfolding chroma_values chroma_levels
  own_chroma_dc_in_range =
      chroma_scaled_each (hadamard 2 H2 (quantized_dc 4 1 qp (hadamard 2 H2 dc)))
      (own_back_within 2 H2 H2_symmetric tt H2_undoes 1 qp dc long small)

  pub own_chroma_dc_fits : first_wide (chroma_values qp (chroma_levels qp dc)) ≡ 4
  own_chroma_dc_fits =
      let values = chroma_values qp (chroma_levels qp dc) in
      wide_none values (each_less 19968 32767 values own_chroma_dc_in_range tt) ∙ chroma_values_length qp (chroma_levels qp dc)

pub own_chroma_dc_accepted : (qp : ℕ) (dc out back : List ℤ) → chain (chroma_levels_tests qp dc out) ≡ pass → length back ≡ 4
    → chain (chroma_values_tests qp (chroma_levels qp dc) back) ≡ pass
own_chroma_dc_accepted qp dc out back passed room =
    let given = codable 4 qp dc out passed in
    let levels = chroma_levels qp dc in
    let narrow = wide_none levels (each_less 3264 32767 levels (chroma_levels_each qp dc given.small) tt) ∙ chroma_levels_length qp dc in
    dc_values_fine 4 qp levels back (first_wide (chroma_values qp levels)) (chroma_levels_length qp dc) room given.legal narrow
    (own_chroma_dc_fits qp given.legal dc given.long given.small)
