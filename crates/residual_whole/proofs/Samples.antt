-- The levels of a macroblock that a decoder accepts, and what it rebuilds of them, for either side.
--     each_first                            bounds of a list whose first number is another
--     ac_each, places_small                 a bound of the levels is one of a block's AC levels behind a 0, also in raster places
--     ac_step, step_some                    where the code finds an AC level
--     length_values                         a DC value for each block
--     all_fit_is                            the test of RANGE as the code makes it
--     values_fit, ac_numbers_fit             what the two tests of RANGE say of the numbers
--     whole_bytes                           what is rebuilt: bytes
--     nothing_rebuilt                       a block whose DC value and levels are all 0 is its prediction
-- Assumes nothing.
use mathlib.Core.Path.{◌≡◌, refl, sym, ap, ◌∙◌}
use mathlib.Core.Bool.{Bool, true, false, true≢false, not, ◌||◌}
use mathlib.Core.List.{List, [], ◌∷◌}
use Prim.Native.Nat.{ℕ, zero, suc, ◌+◌, ◌*◌, ◌-◌, ◌<◌, zero-le}
use native.Mathlib.Nat.{not-suc-le-zero}
use native.Mathlib.Omega.{arith}
use borrow.Author.Tests.{eq-eqb, eqb-true, ne_eqb, not-false}
use lib.Dec.{eqb, ltb, ltb→lt}
use lib.IntN.{ℤ, pos, negsuc}
use lib.ListN.{length, get_or, set, take, drop, length-set}
use lib.Seq.{get_or-take, get_or-drop}
use Rattle.std.specs.Bool.{MatchBool}
use Rattle.std.specs.List.{AllWithin, HoldsAt}
use Rattle.lists.specs.Bytes.{Bytes}
use Rattle.lists.specs.Tab.{tab}
use Rattle.lists.proofs.Every.{every_at, either}
use Rattle.lists.proofs.First.{first_before}
use Rattle.lists.proofs.Tab.{length_tab}
use Rattle.whole.specs.Bounds.{Within, Each}
use Rattle.whole.specs.Range.{inside, first_outside}
use Rattle.whole.proofs.Range.{all_inside, none_outside}
use Rattle.whole.proofs.Lists.{each_take, each_drop}
use Rattle.quantizer.specs.Tables.{step_of}
use Rattle.residual.specs.Entry.{first_wide}
use Rattle.residual.specs.Order.{in_zigzag, in_places}
use Rattle.residual.specs.Rebuild.{rebuilt_samples, rescaled_of, rescaled_with_dc}
use Rattle.residual.specs.Rescale.{rescaled}
use Rattle.residual.proofs.Entry.{wide_each, range_each}
use Rattle.residual.proofs.Order.{places_each}
use Rattle.residual.proofs.Zeros.{zeros, all_zero_is, rescaled_zeros, samples_zeros}
use Rattle.dc.proofs.Values.{dc_values_length}
use Rattle.block.proofs.Laws.{bytes_samples}
use Rattle.residual_whole.specs.Area.{Sided, blocks_of}
use Rattle.residual_whole.specs.Rebuilt.{ac_in, values_in, block_samples, whole_samples, dc_fits, ac_numbers, ac_fits, first_ac}
use Rattle.residual_whole.proofs.Blocks.{side_count, blocks_bytes}

pub each_first : (B : ℕ) (l : List ℤ) (y z : ℤ) → Each B (set l 0 y) → Within B z → Each B (set l 0 z)
each_first B [] y z h w = tt
each_first B (x ∷ l) y z h w = (w, h.1)

ac_each : (B s : ℕ) (levels : List ℤ) (b : ℕ) → Each B levels → Each B (pos 0 ∷ ac_in s levels b)
unfolding ac_in
ac_each B s levels b h = (record { size = zero-le }, each_take B 15 (drop (blocks_of s + 15 * b) levels) (each_drop B (blocks_of s + 15 * b) levels h))

pub places_small : (s : ℕ) (levels : List ℤ) (b : ℕ) → Each 32768 levels → Each 32768 (in_places (pos 0 ∷ ac_in s levels b))
places_small s levels b h = places_each 32768 (pos 0 ∷ ac_in s levels b) (ac_each 32768 s levels b h)

-- level `step` of block b, as the code reads it: it counts from the place before the block's AC levels
pub ac_step : (s : ℕ) → 0 < blocks_of s → (levels : List ℤ) (b step : ℕ) → 0 < step → step < 16 → get_or levels (blocks_of s + 15 * b - 1 + step) (pos 0) ≡ get_or (pos 0 ∷ ac_in s levels b) step (pos 0)
unfolding ac_in
ac_step s many levels b zero some h = absurd (not-suc-le-zero some)
ac_step s many levels b (suc k) some h =
    ap (λ (i : ℕ). get_or levels i (pos 0)) (let z : blocks_of s + 15 * b - 1 + suc k ≡ blocks_of s + 15 * b + k = omega arith in z)
    ∙ sym (get_or-take 15 (drop (blocks_of s + 15 * b) levels) k (pos 0) (omega arith) ∙ get_or-drop (blocks_of s + 15 * b) levels k (pos 0))

-- no AC level stands at step 0
pub step_some : (place : ℕ) → 0 < place → place < 16 → 0 < step_of place
step_some place some h = ltb→lt _ _ (either _ _ (every_at 16 (λ i. eqb i 0 || ltb 0 (step_of i)) tt place h) (ne_eqb place 0 (λ e. omega arith)))

-- ---- RANGE

-- numbers that each fit, or one that does not
pub all_fit_is : (l : List ℤ) (r : Bool)
    → MatchBool r (AllWithin (λ z. inside (negsuc 32767) (pos 32767) z ≡ true) l 0 (length l)) ((k : ℕ) × (k < length l) × HoldsAt (λ z. inside (negsuc 32767) (pos 32767) z ≡ false) l k)
    → r ≡ eqb (first_wide l) (length l)
all_fit_is l true h = sym (eq-eqb (first_wide l) (length l) (all_inside (negsuc 32767) (pos 32767) l (λ i k. h i (pos 0) zero-le k)))
all_fit_is l false h =
    sym (ne_eqb (first_wide l) (length l) (λ e. true≢false (sym (none_outside (negsuc 32767) (pos 32767) l (omega arith) h.0 h.1) ∙ h.2 (pos 0))))

module _ (s : ℕ) (side : Sided s) (qp : ℕ) (levels : List ℤ) where
  pub length_values : length (values_in s qp levels) ≡ blocks_of s
  unfolding values_in
  length_values = dc_values_length (blocks_of s) (side_count s side) qp (take (blocks_of s) levels)

  pub values_fit : dc_fits s qp levels ≡ true → Each 32768 (values_in s qp levels)
  unfolding dc_fits
  values_fit e = wide_each (values_in s qp levels) (omega (arith, eqb-true (first_wide (values_in s qp levels)) (blocks_of s) e, length_values))

  module _ (b : ℕ) where
    length_numbers : length (ac_numbers s qp levels b) ≡ 16
    unfolding ac_numbers rescaled
    length_numbers = length-set (rescaled_of qp (pos 0 ∷ ac_in s levels b)) 0 (pos 0) ∙ length_tab 16 _

    pub ac_numbers_fit : first_ac s qp levels ≡ blocks_of s → b < blocks_of s → Each 32768 (ac_numbers s qp levels b)
    unfolding first_ac ac_fits
    ac_numbers_fit e h =
        let t = not-false (ac_fits s qp levels b) (first_before (λ b. not (ac_fits s qp levels b)) (blocks_of s) b (omega (arith, e))) in
        range_each (ac_numbers s qp levels b) length_numbers (omega (arith, eqb-true (first_wide (in_zigzag (ac_numbers s qp levels b))) 16 t))

-- ---- what is rebuilt

pub whole_bytes : (s qp : ℕ) (prediction : List ℕ) (levels : List ℤ) → Bytes (whole_samples s qp prediction levels)
unfolding whole_samples block_samples
whole_bytes s qp prediction levels = blocks_bytes s (block_samples s qp prediction levels) (λ b. bytes_samples _ _)

-- ---- nothing but zeros

first_zero : set zeros 0 (pos 0) ≡ zeros
unfolding tab
first_zero = refl

pub nothing_rebuilt : (qp : ℕ) (dc : ℤ) (ac : List ℤ) {l : List ℤ} (own : List ℕ) → l ≡ in_places (pos 0 ∷ ac) → length l ≡ 16
    → eqb (first_outside (pos 0) (pos 0) l) 16 ≡ true → dc ≡ pos 0 → length own ≡ 16 → Bytes own → own ≡ rebuilt_samples own (rescaled_with_dc qp dc ac)
nothing_rebuilt qp dc ac {l} own is_l long none nothing sixteen bytes =
    let places : in_places (pos 0 ∷ ac) ≡ zeros = sym is_l ∙ all_zero_is l long none in
    let numbers = (λ i. set (rescaled qp (places i)) 0 (nothing i)) ∙ ap (λ (d : List ℤ). set d 0 (pos 0)) (rescaled_zeros qp) ∙ first_zero in
    sym (ap (rebuilt_samples own) numbers ∙ samples_zeros own sixteen bytes)
