-- Numbers that are all 0: levels of nothing, and what is rebuilt of them.
--     zeros, all_zero_is                       sixteen of them; what the scan for another number finds none in
--     all_zero_decides                         the scan finds none exactly in them
--     quantized_zeros                          a residual of nothing has levels 0
--     zigzag_zeros, places_zeros               either order leaves them so
--     rescaled_zeros, zeros_fit, samples_zeros such levels rescale to 0, which is in range, and leave a prediction of bytes as it is
-- Assumes nothing.
use mathlib.Core.Path.{◌≡◌, refl, sym, ap, ◌∙◌}
use mathlib.Core.Bool.{true}
use mathlib.Core.List.{List}
use Prim.Native.Nat.{ℕ, ◌+◌, ◌*◌, ◌/◌, ◌^◌, ◌<◌}
use native.Mathlib.Nat.{div-lt_iff_lt-mul}
use native.Mathlib.Omega.{arith}
use borrow.Author.Differences.{false_is_lt}
use borrow.Author.Tests.{eqb-true}
use lib.Dec.{eqb}
use lib.IntN.{ℤ, pos, negsuc, ◌+ℤ◌, ◌*ℤ◌}
use lib.ListN.{length, get_or, replicate}
use lib.Pow.{pow_pos}
use Rattle.std.specs.Prelude.{Decides}
use Rattle.lists.specs.Tab.{tab, grid}
use Rattle.lists.specs.Bytes.{Bytes}
use Rattle.lists.specs.First.{first}
use Rattle.lists.proofs.Tab.{get_d_tab, tab_same, tab_of}
use Rattle.whole.specs.Bounds.{Within}
use Rattle.whole.specs.Clip.{clip}
use Rattle.whole.specs.Range.{first_outside, inside}
use Rattle.whole.proofs.Order.{clip_same}
use Rattle.whole.proofs.Range.{inside_within, none_outside}
use Rattle.transform.specs.Forward.{forward}
use Rattle.transform.specs.Inverse.{inverse}
use Rattle.quantizer.specs.Range.{period_of}
use Rattle.quantizer.specs.Tables.{zigzag_of, step_of}
use Rattle.quantizer.proofs.Tables.{zigzag_permutes}
use Rattle.residual.specs.Entry.{first_wide}
use Rattle.residual.specs.Levels.{quantized}
use Rattle.residual.specs.Order.{in_zigzag, in_places}
use Rattle.residual.specs.Quantize.{level_by, level_of, f_of, q_of}
use Rattle.residual.specs.Rebuild.{added, rebuilt_samples}
use Rattle.residual.specs.Rescale.{scaled_by, mf_at, v_at, rescaled}
use Rattle.residual.proofs.Rescale.{scaled_block}

abbrev pub zeros : List ℤ
zeros = tab 16 (λ k. pos 0)

zero_at : (k : ℕ) → k < 16 → get_or zeros k (pos 0) ≡ pos 0
zero_at k h = get_d_tab 16 (λ j. pos 0) k (pos 0) h

-- ---- what the scan finds

within_nothing : (z : ℤ) → Within 0 z → z ≡ pos 0
within_nothing (pos n) w = let e : n ≡ 0 = omega (arith, w.size) in ap pos e
within_nothing (negsuc n) w = absurd (omega (arith, w.size))

pub all_zero_is : (l : List ℤ) → length l ≡ 16 → eqb (first_outside (pos 0) (pos 0) l) 16 ≡ true → l ≡ zeros
all_zero_is l long e =
    let end = eqb-true (first_outside (pos 0) (pos 0) l) 16 e in
    sym (tab_of 16 (λ k. pos 0) l (pos 0) long
    (λ k h. sym (within_nothing (get_or l k (pos 0)) (inside_within (pos 0) (pos 0) 0 tt tt (get_or l k (pos 0)) (none_outside (pos 0) (pos 0) l (omega arith) k (omega arith))))))

zeros_none : eqb (first_outside (pos 0) (pos 0) zeros) 16 ≡ true
unfolding tab first_outside first inside
zeros_none = refl

pub all_zero_decides : (l : List ℤ) → length l ≡ 16 → Decides (eqb (first_outside (pos 0) (pos 0) l) 16) (l ≡ replicate 16 (pos 0))
unfolding tab
all_zero_decides l long = (all_zero_is l long, λ same. ap (λ (x : List ℤ). eqb (first_outside (pos 0) (pos 0) x) 16) same ∙ zeros_none)

-- ---- levels of nothing

forward_zeros : forward zeros ≡ zeros
unfolding forward tab grid
forward_zeros = refl

level_nothing : (p mf : ℕ) → level_of 0 p mf (pos 0) ≡ pos 0
unfolding level_by
level_nothing p mf =
    let some = pow_pos (q_of p + 0) in
    let same : 2 ^ q_of p ≡ 2 ^ (q_of p + 0) = ap (λ (k : ℕ). 2 ^ k) (let z : q_of p ≡ q_of p + 0 = omega arith in z) in
    let small : (0 * mf + 2 ^ 0 * f_of p) / 2 ^ (q_of p + 0) < 1 =
    (div-lt_iff_lt-mul {k = 2 ^ (q_of p + 0)} {x = 0 * mf + 2 ^ 0 * f_of p} {y = 1} some).1 (omega arith) in
    let none : (0 * mf + 2 ^ 0 * f_of p) / 2 ^ (q_of p + 0) ≡ 0 = omega arith in
    ap pos none

pub quantized_zeros : (qp : ℕ) → quantized qp zeros ≡ zeros
unfolding quantized
quantized_zeros qp =
    tab_same 16 _ _
    (λ place h.
    ap (λ (y : List ℤ). level_of 0 (period_of qp) (mf_at qp place) (get_or y place (pos 0))) forward_zeros
    ∙ ap (level_of 0 (period_of qp) (mf_at qp place)) (zero_at place h)
    ∙ level_nothing (period_of qp) (mf_at qp place))

pub zigzag_zeros : in_zigzag zeros ≡ zeros
unfolding in_zigzag
zigzag_zeros = tab_same 16 _ _ (λ step h. zero_at (zigzag_of step) (zigzag_permutes step h).place)

pub places_zeros : in_places zeros ≡ zeros
unfolding in_places
places_zeros = tab_same 16 _ _ (λ place h. zero_at (step_of place) (zigzag_permutes place h).step)

-- ---- what is rebuilt of them

pub rescaled_zeros : (qp : ℕ) → rescaled qp zeros ≡ zeros
unfolding rescaled
rescaled_zeros qp =
    tab_same 16 _ _
    (λ place h.
    ap (λ (z : ℤ). scaled_by 0 (period_of qp) (z *ℤ pos (v_at qp place))) (zero_at place h)
    ∙ sym (scaled_block (period_of qp) (v_at qp place) (pos 0))
    ∙ (let none : 0 * (v_at qp place * 2 ^ period_of qp) ≡ 0 = omega arith in ap pos none))

pub zeros_fit : eqb (first_wide (in_zigzag zeros)) 16 ≡ true
unfolding in_zigzag tab first_outside first inside
zeros_fit = refl

inverse_zeros : inverse zeros ≡ zeros
unfolding inverse tab grid
inverse_zeros = refl

clip_byte : (b : ℕ) → b < 256 → clip 255 (pos b +ℤ pos 0) ≡ b
clip_byte b h = clip_same 255 (pos b +ℤ pos 0) (sym (false_is_lt (pos b +ℤ pos 0) (pos 0) (omega arith))) (sym (false_is_lt (pos 255) (pos b +ℤ pos 0) (omega arith))) ∙ omega arith

pub samples_zeros : (prediction : List ℕ) → length prediction ≡ 16 → Bytes prediction → rebuilt_samples prediction zeros ≡ prediction
unfolding rebuilt_samples added
samples_zeros prediction long bytes =
    ap (added 16 prediction) inverse_zeros
    ∙ tab_of 16 _ prediction 0 long
    (λ k h. ap (λ (z : ℤ). clip 255 (pos (get_or prediction k 0) +ℤ z)) (zero_at k h) ∙ clip_byte (get_or prediction k 0) (bytes.byte k))

-- together: of levels in raster order in which the scan finds nothing
pub rebuilt_zeros : (qp : ℕ) (prediction : List ℕ) (levels : List ℤ) → length prediction ≡ 16 → Bytes prediction → length levels ≡ 16
    → eqb (first_outside (pos 0) (pos 0) levels) 16 ≡ true → prediction ≡ rebuilt_samples prediction (rescaled qp levels)
rebuilt_zeros qp prediction levels long bytes sixteen e =
    sym (samples_zeros prediction long bytes) ∙ ap (rebuilt_samples prediction) (sym (ap (rescaled qp) (all_zero_is levels sixteen e) ∙ rescaled_zeros qp))
