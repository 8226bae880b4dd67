-- What the coder gives fits 16 bits and rescales into 16 bits.
--     own_levels_in_range     any residual in range, any quantizer: levels up to 1632, rescaled numbers up to 25978
--     own_numbers             levels in zigzag order rescale to what those in raster order do
--     own_numbers_fit         so RANGE finds none
--     own_levels_pass         and `rebuild` accepts them
--     ac_numbers_law, ac_fit, own_ac_pass     levels 1 to 15 with any DC of 16 bits: the block's own numbers, place 0 replaced; RANGE finds none;
--                             and `rebuild_with_dc` accepts them
-- Assumes nothing.
use mathlib.Core.Path.{◌≡◌, refl, sym, ap, subst, ◌∙◌}
use mathlib.Core.Bool.{true}
use mathlib.Core.List.{List, [], ◌∷◌}
use Prim.Native.Nat.{ℕ, zero, suc, ◌+◌, ◌*◌, ◌/◌, ◌^◌, ◌<◌, ◌≤◌}
use native.Mathlib.Nat.{mul-le-mul, mul-le-mul_left, div-mul-le_self}
use native.Mathlib.Omega.{arith}
use lib.Dec.{T, ltb, leb, ltb→lt, leb→le}
use lib.IntN.{ℤ, pos, nat_abs, ◌*ℤ◌}
use lib.ListN.{length, get_or, drop, set, length-drop}
use lib.Pow.{pow-add}
use Rattle.lists.specs.Tab.{tab}
use Rattle.lists.specs.Chain.{chain, pass}
use Rattle.lists.proofs.Chain.{chain_passed}
use Rattle.lists.proofs.Every.{every_at}
use Rattle.lists.proofs.Tab.{get_d_tab, length_tab}
use Rattle.whole.specs.Bounds.{Within, Each}
use Rattle.whole.specs.Notation.{minus}
use Rattle.whole.specs.Range.{inside}
use Rattle.whole.proofs.Bound.{abs_mul}
use Rattle.whole.proofs.Lists.{each_tab, each_less, each_drop}
use Rattle.whole.proofs.Range.{within_inside, all_inside}
use Rattle.whole.proofs.Steps.{each_at}
use Rattle.transform.specs.Forward.{forward}
use Rattle.transform.proofs.Bounds.{most_of, forward_within}
use Rattle.quantizer.specs.Range.{highest, period_of, remainder_of}
use Rattle.quantizer.specs.Tables.{mf_of, v_of, class_at_place, zigzag_of}
use Rattle.quantizer.specs.declared.Class.{Class}
use Rattle.quantizer.specs.declared.Class.TheVariants as class
use Rattle.quantizer.proofs.Tables.{v_small}
use Rattle.residual.specs.Levels.{quantized, levels_of}
use Rattle.residual.specs.Quantize.{level_by, level_of, f_of, q_of}
use Rattle.residual.specs.Rescale.{scaled_by, mf_at, v_at, rescaled}
use Rattle.residual.proofs.Quantize.{third_small, level_within, size_signed}
use Rattle.residual.specs.Entry.{rebuild_tests, with_dc_tests, level_tests, range_test, first_wide}
use Rattle.residual.specs.Order.{in_zigzag, in_places}
use Rattle.residual.specs.Rebuild.{rescaled_of, rescaled_with_dc}
use Rattle.residual.proofs.Entry.{wide_none, lent_fine, levels_fine, range_fine}
use Rattle.residual.proofs.Order.{length_zigzag, places_again, in_zigzag_each}
use Rattle.residual.proofs.Rescale.{scaled_block}

-- ---- by class: the greatest multiplier, and the greatest product of MF and V

abbrev mf_most : Class → ℕ
mf_most class.A = 13107
mf_most class.B = 5243
mf_most class.C = 8066

abbrev product_most : Class → ℕ
product_most class.A = 131076
product_most class.B = 83897
product_most class.C = 104864

-- at all six remainders: the checker computes both
most : (c : Class) (r : ℕ) → r < 6 → (mf_of r c ≤ mf_most c) × (mf_of r c * v_of r c ≤ product_most c)
most class.A r h = (leb→le _ _ (every_at 6 (λ i. leb (mf_of i class.A) 13107) tt r h), leb→le _ _ (every_at 6 (λ i. leb (mf_of i class.A * v_of i class.A) 131076) tt r h))
most class.B r h = (leb→le _ _ (every_at 6 (λ i. leb (mf_of i class.B) 5243) tt r h), leb→le _ _ (every_at 6 (λ i. leb (mf_of i class.B * v_of i class.B) 83897) tt r h))
most class.C r h = (leb→le _ _ (every_at 6 (λ i. leb (mf_of i class.C) 8066) tt r h), leb→le _ _ (every_at 6 (λ i. leb (mf_of i class.C * v_of i class.C) 104864) tt r h))

-- ---- a level

level_own : (c : Class) (r p : ℕ) (y : ℤ) → r < 6 → Within (most_of c) y → Within 1632 (level_of 0 p (mf_of r c) y)
level_own class.A r p y h w = level_within 0 p (mf_of r class.A) 4080 13107 1632 y w (most class.A r h).0 tt
level_own class.B r p y h w = level_within 0 p (mf_of r class.B) 9180 5243 1632 y w (most class.B r h).0 tt
level_own class.C r p y h w = level_within 0 p (mf_of r class.C) 6120 8066 1632 y w (most class.C r h).0 tt

-- ---- a rescaled level

-- the size times its scale, at 2^15 times the scale: no more than |Y| * MF * V and a third
scaled_size : (p y mf v Y K : ℕ) → p ≤ 8 → y ≤ Y → mf * v ≤ K → v ≤ 29 → T (ltb (Y * K + 81089858) (25979 * 32768)) → (y * mf + 2 ^ 0 * f_of p) / 2 ^ (q_of p + 0) * (v * 2 ^ p) ≤ 25978
scaled_size p y mf v Y K small a b d t =
    let size = (y * mf + 2 ^ 0 * f_of p) / 2 ^ (q_of p + 0) in
    let split : 2 ^ (q_of p + 0) ≡ 32768 * 2 ^ p = ap (λ (k : ℕ). 2 ^ k) (let z : q_of p + 0 ≡ 15 + p = omega arith in z) ∙ pow-add 2 15 p in
    let whole : (y * mf + 2 ^ 0 * f_of p) / 2 ^ (q_of p + 0) * (32768 * 2 ^ p) ≤ y * mf + 2 ^ 0 * f_of p =
    subst (λ (n : ℕ). (y * mf + 2 ^ 0 * f_of p) / 2 ^ (q_of p + 0) * n ≤ y * mf + 2 ^ 0 * f_of p) split (div-mul-le_self (y * mf + 2 ^ 0 * f_of p) (2 ^ (q_of p + 0))) in
    let times = mul-le-mul_left v whole in
    let product = mul-le-mul a b in
    let third = mul-le-mul d (third_small p small) in
    omega (arith, times, product, third, ltb→lt (Y * K + 81089858) (25979 * 32768) t)

rescaled_size : (c : Class) (r p y : ℕ) → r < 6 → p ≤ 8 → y ≤ most_of c → (y * mf_of r c + 2 ^ 0 * f_of p) / 2 ^ (q_of p + 0) * (v_of r c * 2 ^ p) ≤ 25978
rescaled_size class.A r p y h k l = scaled_size p y (mf_of r class.A) (v_of r class.A) 4080 131076 k l (most class.A r h).1 (v_small r h class.A) tt
rescaled_size class.B r p y h k l = scaled_size p y (mf_of r class.B) (v_of r class.B) 9180 83897 k l (most class.B r h).1 (v_small r h class.B) tt
rescaled_size class.C r p y h k l = scaled_size p y (mf_of r class.C) (v_of r class.C) 6120 104864 k l (most class.C r h).1 (v_small r h class.C) tt

rescaled_own : (c : Class) (r p : ℕ) (y : ℤ) → r < 6 → p ≤ 8 → Within (most_of c) y → Within 25978 (scaled_by 0 p (level_of 0 p (mf_of r c) y *ℤ pos (v_of r c)))
unfolding level_by
rescaled_own c r p y h k w =
    let level = level_of 0 p (mf_of r c) y in
    subst (λ (z : ℤ). Within 25978 z) (scaled_block p (v_of r c) level)
    (record { size = rw (abs_mul level (pos (v_of r c * 2 ^ p)), size_signed y ((nat_abs y * mf_of r c + 2 ^ 0 * f_of p) / 2 ^ (q_of p + 0))) (rescaled_size c r p (nat_abs y) h k w.size) })

-- ---- a block

-- two lists of levels that differ in the first only rescale alike but for place 0, where the DC then stands
other_levels : (qp : ℕ) (l : List ℤ) → length l ≡ 16 → (dc : ℤ) → rescaled_with_dc qp dc (drop 1 l) ≡ set (rescaled_of qp l) 0 dc
unfolding rescaled in_places tab
other_levels qp [] e dc = absurd (omega arith)
other_levels qp (z ∷ l) e dc = refl

-- numbers of 16 bits in raster order are so in the order of the levels
zigzag_inside : (d : List ℤ) → ((k : ℕ) → inside (minus 32768) (pos 32767) (get_or d k (pos 0)) ≡ true) → first_wide (in_zigzag d) ≡ 16
unfolding in_zigzag
zigzag_inside d h =
    all_inside (minus 32768) (pos 32767) (in_zigzag d)
    (λ step l.
    ap (inside (minus 32768) (pos 32767)) (get_d_tab 16 (λ k. get_or d (zigzag_of k) (pos 0)) step (pos 0) (omega (arith, length_zigzag d)))
    ∙ h (zigzag_of step))
    ∙ length_zigzag d

-- with a DC of 16 bits in the first place
set_inside : (d : List ℤ) (dc : ℤ) → inside (minus 32768) (pos 32767) dc ≡ true → Each 32767 d → (k : ℕ) → inside (minus 32768) (pos 32767) (get_or (set d 0 dc) k (pos 0)) ≡ true
set_inside [] dc e h k = within_inside (minus 32768) (pos 32767) 32767 tt tt (get_or [] k (pos 0)) (each_at 32767 [] tt k)
set_inside (z ∷ d) dc e h zero = e
set_inside (z ∷ d) dc e h (suc k) = within_inside (minus 32768) (pos 32767) 32767 tt tt (get_or d k (pos 0)) (each_at 32767 d h.1 k)

module _ (qp : ℕ) (x : List ℤ) where
  pub length_quantized : length (quantized qp x) ≡ 16
  unfolding quantized
  length_quantized = length_tab 16 _

  -- the levels as they are sent come back to their places
  pub own_numbers : rescaled_of qp (levels_of qp x) ≡ rescaled qp (quantized qp x)
  own_numbers = ap (rescaled qp) (places_again (quantized qp x) length_quantized)

module _ (qp : ℕ) (legal : qp ≤ highest) (x : List ℤ) (small : Each 255 x) where
  at_place : (place : ℕ) → place < 16 → get_or (quantized qp x) place (pos 0) ≡ level_of 0 (period_of qp) (mf_at qp place) (get_or (forward x) place (pos 0))
  unfolding quantized
  at_place place h = get_d_tab 16 (λ k. level_of 0 (period_of qp) (mf_at qp k) (get_or (forward x) k (pos 0))) place (pos 0) h

  quantized_each : Each 1632 (quantized qp x)
  unfolding quantized
  quantized_each = each_tab 1632 16 _ (λ place h. level_own (class_at_place place) (remainder_of qp) (period_of qp) (get_or (forward x) place (pos 0)) (omega arith) (forward_within x small place h))

  rescaled_each : Each 25978 (rescaled qp (quantized qp x))
  unfolding rescaled
  rescaled_each =
      each_tab 25978 16 _
      (λ place h.
      subst (λ (l : ℤ). Within 25978 (scaled_by 0 (period_of qp) (l *ℤ pos (v_at qp place)))) (sym (at_place place h))
      (rescaled_own (class_at_place place) (remainder_of qp) (period_of qp) (get_or (forward x) place (pos 0)) (omega arith) (omega arith) (forward_within x small place h)))

  pub record OwnInRange : Type 0 where
    pub levels : Each 1632 (levels_of qp x)
    pub numbers : Each 25978 (rescaled_of qp (levels_of qp x))

  pub own_levels_in_range : OwnInRange
  own_levels_in_range = record {
    levels = in_zigzag_each 1632 (quantized qp x) quantized_each;
    numbers = subst (Each 25978) (sym (own_numbers qp x)) rescaled_each;
  }

  -- none lies outside -32768..32767
  pub own_numbers_fit : first_wide (in_zigzag (rescaled_of qp (levels_of qp x))) ≡ 16
  own_numbers_fit =
      let d = rescaled_of qp (levels_of qp x) in
      wide_none (in_zigzag d) (in_zigzag_each 32767 d (each_less 25978 32767 d own_levels_in_range.numbers tt)) ∙ length_zigzag d

  -- so `rebuild` accepts them, whatever the prediction
  pub own_levels_pass : (p o : List ℕ) → length p ≡ 16 → length o ≡ 16 → chain (rebuild_tests qp p (levels_of qp x) o) ≡ pass
  own_levels_pass p o a b =
      let l = levels_of qp x in
      let n : length (levels_of qp x) ≡ 16 = length_zigzag (quantized qp x) in
      let first = levels_fine 16 0 qp (length p) l (length o) n (lent_fine 16 qp (length p) (length o) a b legal) (omega (arith, wide_none l (each_less 1632 32767 l own_levels_in_range.levels tt))) in
      chain_passed (level_tests 16 0 qp (length p) l (length o)) (range_test (rescaled_of qp l) ∷ []) first
      ∙ range_fine (rescaled_of qp l) (omega (arith, own_numbers_fit))

  -- ---- the DC path: levels 1 to 15, with any DC of 16 bits

  module _ (dc : ℤ) (fits : inside (minus 32768) (pos 32767) dc ≡ true) where
    -- the block's own numbers, place 0 replaced
    pub ac_numbers_law : rescaled_with_dc qp dc (drop 1 (levels_of qp x)) ≡ set (rescaled_of qp (levels_of qp x)) 0 dc
    ac_numbers_law = other_levels qp (levels_of qp x) (length_zigzag (quantized qp x)) dc

    pub ac_fit : first_wide (in_zigzag (rescaled_with_dc qp dc (drop 1 (levels_of qp x)))) ≡ 16
    ac_fit =
        let d = rescaled_of qp (levels_of qp x) in
        zigzag_inside (rescaled_with_dc qp dc (drop 1 (levels_of qp x)))
        (λ k. ap (λ (l : List ℤ). inside (minus 32768) (pos 32767) (get_or l k (pos 0))) ac_numbers_law
        ∙ set_inside d dc fits (each_less 25978 32767 d own_levels_in_range.numbers tt) k)

    -- so `rebuild_with_dc` accepts them, whatever the prediction
    pub own_ac_pass : (p o : List ℕ) → length p ≡ 16 → length o ≡ 16 → chain (with_dc_tests qp p dc (drop 1 (levels_of qp x)) o) ≡ pass
    own_ac_pass p o a b =
        let ac = drop 1 (levels_of qp x) in
        let n : length ac ≡ 15 = omega (arith, length-drop 1 (levels_of qp x), length_zigzag (quantized qp x)) in
        let narrow = wide_none ac (each_less 1632 32767 ac (each_drop 1632 1 (levels_of qp x) own_levels_in_range.levels) tt) in
        let first = levels_fine 15 1 qp (length p) ac (length o) n (lent_fine 16 qp (length p) (length o) a b legal) (omega (arith, narrow, n)) in
        chain_passed (level_tests 15 1 qp (length p) ac (length o)) (range_test (rescaled_with_dc qp dc ac) ∷ []) first
        ∙ range_fine (rescaled_with_dc qp dc ac) (omega (arith, ac_fit))
