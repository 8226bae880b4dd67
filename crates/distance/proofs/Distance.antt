-- How far a rebuilt sample can be off, for the very definitions that the contracts of `rebuild` and `code_block` cite.
--     residual_near                   of a residual block: what comes back at each place
--     rebuilt_clipped                 a rebuilt sample is the number before the clip, clipped
--     distance                        of an original and any prediction, before the clip and after it
--     coded_near, coded_left_near     of a coded block, whose prediction is the chosen one, and of what a call leaves that writes it
-- Assumes nothing.
use mathlib.Core.Path.{◌≡◌, refl, sym, ap, subst, ◌∙◌}
use mathlib.Core.List.{List, [], ◌∷◌}
use Prim.Native.Nat.{ℕ, ◌+◌, ◌*◌, ◌/◌, ◌%◌, ◌^◌, ◌<◌, ◌≤◌}
use native.Mathlib.Nat.{div-add-mod, le_trans, mul-le-mul_left}
use native.Mathlib.Omega.{arith}
use lib.IntN.{ℤ, pos, nat_abs, ◌+ℤ◌, ◌-ℤ◌, ◌*ℤ◌}
use lib.ListN.{get_or}
use Rattle.lists.specs.Chain.{Verdict, pass, written}
use Rattle.lists.specs.Bytes.{Bytes}
use Rattle.lists.proofs.Chain.{holds_new}
use Rattle.lists.proofs.Tab.{get_d_tab}
use Rattle.whole.specs.Bounds.{Within, Each}
use Rattle.whole.specs.Clip.{clip}
use Rattle.whole.proofs.Bound.{abs_mul, here, literal, plus, times}
use Rattle.whole.proofs.Order.{clip_nearer}
use Rattle.whole.proofs.Ring.{ring, var, con, ◌⊕◌, ◌⊖◌, ◌⊗◌}
use Rattle.refusal.specs.declared.Refusal.{Refusal}
use Rattle.quantizer.specs.Range.{period_of, remainder_of}
use Rattle.quantizer.specs.Tables.{v_of, class_at_place}
use Rattle.quantizer.specs.declared.Class.TheVariants.{A, B, C}
use Rattle.intra4.specs.Samples.{mask}
use Rattle.intra4.specs.Choice.{chosen}
use Rattle.intra4.proofs.Bytes.{best_bytes}
use Rattle.transform.specs.Forward.{forward}
use Rattle.transform.specs.Inverse.{inverse}
use Rattle.transform.specs.Matrix.{Matrix, raster}
use Rattle.transform.proofs.Bounds.{forward_within}
use Rattle.residual.specs.Levels.{quantized, levels_of}
use Rattle.residual.specs.Quantize.{level_of}
use Rattle.residual.specs.Rebuild.{added, rescaled_of, rebuilt_samples}
use Rattle.residual.specs.Rescale.{scaled_by, mf_at, v_at, rescaled}
use Rattle.residual.proofs.Own.{own_numbers}
use Rattle.block.specs.Block.{residual_of, prediction_of, coded_samples}
use Rattle.block.proofs.Laws.{residual_small}
use Rattle.distance.specs.Distance.{promise_of, numbers_sent, unclipped_at, rebuilt_at, distance_at, Near}
use Rattle.distance.proofs.Coefficient.{number_scale, share_scale, unit_scale, error_of, table_part, number_near, tables_small}
use Rattle.distance.proofs.Unrounded.{Basis, both_sides, inverse_near, both_sides_within, both_sides_linear, shares_of, shares_back}

-- ---- a residual block

-- 384 times a number, from the same in the scale of the errors, over the period: P is 2^p. The roundings' 137 and the tables' part take 384
divided : (n a b c P ta tb tc : ℕ)
    → number_scale * 256 * n ≤ number_scale * 137 + (16 * (400 * (a * (65536 * P)) + ta) + 24 * (400 * (c * (65536 * P)) + tc) + 9 * (400 * (b * (65536 * P)) + tb))
    → 2 * (16 * ta + 24 * tc + 9 * tb) ≤ 357 * unit_scale
    → 384 * n ≤ (16 * a + 24 * c + 9 * b) * P + 384
divided n a b c P ta tb tc h t = omega arith

module _ (qp : ℕ) (x : List ℤ) where
  -- a rescaled number that the decoder has, by its coefficient
  number_at : (place : ℕ) → place < 16
      → get_or (rescaled_of qp (levels_of qp x)) place (pos 0) ≡ scaled_by 0 (period_of qp) (level_of 0 (period_of qp) (mf_at qp place) (get_or (forward x) place (pos 0)) *ℤ pos (v_at qp place))
  unfolding quantized rescaled
  number_at place h =
      ap (λ (l : List ℤ). get_or l place (pos 0)) (own_numbers qp x)
      ∙ get_d_tab 16 (λ k. scaled_by 0 (period_of qp) (get_or (quantized qp x) k (pos 0) *ℤ pos (v_at qp k))) place (pos 0) h
      ∙ ap (λ (l : ℤ). scaled_by 0 (period_of qp) (l *ℤ pos (v_at qp place)))
      (get_d_tab 16 (λ k. level_of 0 (period_of qp) (mf_at qp k) (get_or (forward x) k (pos 0))) place (pos 0) h)

  -- the rescaled numbers against the coefficients' shares
  errors : Matrix
  errors = λ k l. pos number_scale *ℤ raster 4 (rescaled_of qp (levels_of qp x)) k l -ℤ pos share_scale *ℤ shares_of (forward x) k l

  module _ (small : Each 255 x) where
    errors_within : (k l : ℕ) → k < 4 → l < 4 → Within (error_of (remainder_of qp) (period_of qp) (class_at_place (4 * k + l))) (errors k l)
    unfolding errors
    errors_within k l a b =
        let place = 4 * k + l in
        let h : 4 * k + l < 16 = omega arith in
        subst
        (λ (d : ℤ). Within (error_of (remainder_of qp) (period_of qp) (class_at_place place)) (pos number_scale *ℤ d -ℤ pos share_scale *ℤ shares_of (forward x) k l))
        (sym (number_at place h))
        (number_near (class_at_place place) (remainder_of qp) (period_of qp) (get_or (forward x) place (pos 0)) (forward_within x small place h))

    pub residual_near : (place : ℕ) → place < 16 → 384 * nat_abs (get_or (inverse (rescaled_of qp (levels_of qp x))) place (pos 0) -ℤ get_or x place (pos 0)) ≤ promise_of qp
    unfolding errors
    residual_near place h =
        let r = remainder_of qp in
        let p = period_of qp in
        let i = place / 4 in
        let j = place % 4 in
        let d = rescaled_of qp (levels_of qp x) in
        let back = get_or (inverse (rescaled_of qp (levels_of qp x))) place (pos 0) in
        let own = get_or x place (pos 0) in
        let unrounded = both_sides Basis (raster 4 (rescaled_of qp (levels_of qp x))) (place / 4) (place % 4) in
        let again : raster 4 x i j ≡ own = ap (λ (k : ℕ). get_or x k (pos 0)) (div-add-mod place 4) in
        let through : both_sides Basis errors i j ≡ pos number_scale *ℤ unrounded -ℤ pos share_scale *ℤ (pos 1600 *ℤ own) =
        both_sides_linear Basis (raster 4 d) (shares_of (forward x)) (pos number_scale) (pos share_scale) i j
        ∙ ap (λ (z : ℤ). pos number_scale *ℤ unrounded -ℤ pos share_scale *ℤ z) (shares_back x i j (omega arith) (omega arith) ∙ ap (λ (z : ℤ). pos 1600 *ℤ z) again) in
        let is : pos (number_scale * 256) *ℤ (back -ℤ own) ≡ pos number_scale *ℤ (pos 256 *ℤ back -ℤ unrounded) +ℤ both_sides Basis errors i j =
        ring (back ∷ own ∷ unrounded ∷ [])
        (con (pos (number_scale * 256)) ⊗ (var 0 ⊖ var 1))
        (con (pos number_scale) ⊗ (con (pos 256) ⊗ var 0 ⊖ var 2) ⊕ (con (pos number_scale) ⊗ var 2 ⊖ con (pos share_scale) ⊗ (con (pos 1600) ⊗ var 1))) refl
        ∙ ap (λ (z : ℤ). pos number_scale *ℤ (pos 256 *ℤ back -ℤ unrounded) +ℤ z) (sym through) in
        let found =
        plus
        (times (literal (pos number_scale)) (here (inverse_near d place h)))
        (here (both_sides_within (error_of r p) errors errors_within i j (omega arith) (omega arith))) in
        divided (nat_abs (back -ℤ own)) (v_of r A) (v_of r B) (v_of r C) (2 ^ p) (table_part r A) (table_part r B) (table_part r C)
        (subst (λ (n : ℕ). n ≤ number_scale * 137 + (16 * error_of r p A + 24 * error_of r p C + 9 * error_of r p B)) (ap nat_abs (sym is) ∙ abs_mul (pos (number_scale * 256)) (back -ℤ own)) found.small)
        (tables_small r (omega arith))

-- ---- samples

pub rebuilt_clipped : (prediction : List ℕ) (d : List ℤ) (place : ℕ) → place < 16 → rebuilt_at prediction d place ≡ pos (clip 255 (unclipped_at prediction d place))
unfolding rebuilt_samples added
rebuilt_clipped prediction d place h = ap pos (get_d_tab 16 (λ k. clip 255 (unclipped_at prediction d k)) place 0 h)

residual_at : (original prediction : List ℕ) (place : ℕ) → place < 16 → get_or (residual_of original prediction) place (pos 0) ≡ pos (get_or original place 0) -ℤ pos (get_or prediction place 0)
unfolding residual_of
residual_at original prediction place h = get_d_tab 16 (λ k. pos (get_or original k 0) -ℤ pos (get_or prediction k 0)) place (pos 0) h

pub distance : (qp : ℕ) (original prediction : List ℕ) → Bytes original → Bytes prediction → (place : ℕ) → place < 16 → Near qp original prediction place
distance qp original prediction own near place h =
    let o = get_or original place 0 in
    let b = get_or prediction place 0 in
    let back = get_or (inverse (numbers_sent qp original prediction)) place (pos 0) in
    let raw = unclipped_at prediction (numbers_sent qp original prediction) place in
    let byte = own.byte place in
    let is : back -ℤ get_or (residual_of original prediction) place (pos 0) ≡ raw -ℤ pos o =
    ap (λ (z : ℤ). back -ℤ z) (residual_at original prediction place h) ∙ ring (back ∷ pos o ∷ pos b ∷ []) (var 0 ⊖ (var 1 ⊖ var 2)) ((var 2 ⊕ var 0) ⊖ var 1) refl in
    let first : 384 * nat_abs (raw -ℤ pos o) ≤ promise_of qp =
    subst (λ (z : ℤ). 384 * nat_abs z ≤ promise_of qp) is (residual_near qp (residual_of original prediction) (residual_small original prediction own near) place h) in
    record {
      before = first;
      after =
          subst (λ (z : ℤ). 384 * nat_abs (z -ℤ pos o) ≤ promise_of qp) (sym (rebuilt_clipped prediction (numbers_sent qp original prediction) place h))
          (le_trans (mul-le-mul_left 384 (clip_nearer 255 raw o (omega arith))) first);
    }

-- a coded block, from the prediction that is chosen for it
pub coded_near : (qp flags : ℕ) (neighbours samples : List ℕ) → Bytes neighbours → Bytes samples
    → (place : ℕ) → place < 16 → 384 * distance_at samples place (pos (get_or (coded_samples qp (mask neighbours flags) samples) place 0)) ≤ promise_of qp
coded_near qp flags neighbours samples near own place h =
    (distance qp samples (prediction_of (mask neighbours flags) samples) own (best_bytes neighbours flags near (chosen (mask neighbours flags) samples)) place h).after

-- and what a call leaves that writes it where all tests pass
pub coded_left_near : (qp flags : ℕ) (neighbours samples before : List ℕ) → Bytes neighbours → Bytes samples
    → {v : Verdict Refusal} {after : List ℕ} → v ≡ pass → after ≡ written v (coded_samples qp (mask neighbours flags) samples) before
    → (place : ℕ) → place < 16 → 384 * distance_at samples place (pos (get_or after place 0)) ≤ promise_of qp
coded_left_near qp flags neighbours samples before near own passed wrote place h =
    subst (λ (l : List ℕ). 384 * distance_at samples place (pos (get_or l place 0)) ≤ promise_of qp) (sym (holds_new before passed wrote))
    (coded_near qp flags neighbours samples near own place h)
