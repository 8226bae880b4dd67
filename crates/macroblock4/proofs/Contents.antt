-- What the tests of a record's content come to, and what a fine content gives.
--     levels_small               levels read from a file have 16 bits
--     range_clean, range_found   a block's range, by the scan of its numbers
--     zero_range, zero_samples   levels that are all 0 are in range, and leave the prediction as it is
--     mode_far, mode_sent, range_far, content_fine     the verdicts behind a legal number
--     Fine, fine                 what is known of a record whose content is fine
-- Assumes nothing.
use mathlib.Core.Path.{◌≡◌, sym, ap, ◌∙◌}
use mathlib.Core.Bool.{true, false, not}
use mathlib.Core.List.{List}
use Prim.Native.Nat.{ℕ, ◌+◌, ◌*◌, ◌<◌, ◌≤◌}
use native.Mathlib.Omega.{arith}
use borrow.Author.Tests.{eq-eqb, ne_eqb, eqb-true, not-false}
use lib.Dec.{eqb}
use lib.IntN.{ℤ, pos, ◌*ℤ◌}
use lib.ListN.{length, get_or}
use Rattle.lists.specs.Bytes.{Bytes}
use Rattle.lists.specs.Chain.{pass, stop, chain}
use Rattle.lists.specs.First.{first}
use Rattle.lists.specs.Tab.{tab}
use Rattle.lists.proofs.Chain.{chain_exactly_if}
use Rattle.lists.proofs.First.{first_le, first_before}
use Rattle.lists.proofs.Tab.{length_tab}
use Rattle.refusal.specs.declared.Refusal.TheVariants as refusal
use Rattle.whole.specs.Bounds.{Each}
use Rattle.whole.proofs.Bound.{sixteen_bits}
use Rattle.whole.proofs.Lists.{each_tab}
use Rattle.residual.specs.Entry.{first_wide}
use Rattle.residual.specs.Order.{in_zigzag, in_places}
use Rattle.residual.specs.Rebuild.{rebuilt_samples}
use Rattle.residual.specs.Rescale.{scaled_by, v_at, rescaled}
use Rattle.residual.proofs.Entry.{range_each}
use Rattle.residual.proofs.Scan.{wide_at, scan_clean, scan_found}
use Rattle.residual.proofs.Zeros.{zeros, places_zeros, rescaled_zeros, zeros_fit, samples_zeros}
use Rattle.quantizer.specs.Range.{highest, period_of}
use Rattle.quantizer.proofs.Range.{number_passes, number_legal}
use Rattle.intra4.specs.Rules.{permitted}
use Rattle.record.specs.Kinds.{in_fours}
use Rattle.octets.specs.Numbers.{number_at}
use Rattle.record.specs.Records.{qp_in, mode_in, level_in, levels_in}
use Rattle.picture.specs.declared.Layout.{Layout}
use Rattle.picture.specs.Presence.{flags_of}
use Rattle.macroblock4.specs.Content.{rescaled_in, mode_holds, range_holds, first_mode, first_range, content_tests4}

pub levels_small : (part : List ℕ) (b : ℕ) → Each 32768 (levels_in b part)
unfolding levels_in
levels_small part b = each_tab 32768 16 (λ k. level_in b k part) (λ k h. sixteen_bits (number_at (in_fours.front + 2 * (16 * b + k)) part))

module _ (part : List ℕ) (b : ℕ) where
  pub range_clean : first 16 (wide_at (in_zigzag (rescaled_in part b))) ≡ 16 → range_holds part b ≡ true
  unfolding range_holds
  range_clean = scan_clean (rescaled_in part b)

  pub range_found : (k : ℕ) → k < 16 → first 16 (wide_at (in_zigzag (rescaled_in part b))) ≡ k → range_holds part b ≡ false
  unfolding range_holds
  range_found = scan_found (rescaled_in part b)

  length_rescaled : length (rescaled_in part b) ≡ 16
  unfolding rescaled_in rescaled
  length_rescaled = length_tab 16 (λ place. scaled_by 0 (period_of (qp_in part)) (get_or (in_places (levels_in b part)) place (pos 0) *ℤ pos (v_at (qp_in part) place)))

  -- what rebuilding asks of the numbers
  pub numbers_fit : range_holds part b ≡ true → Each 32768 (rescaled_in part b)
  unfolding range_holds
  numbers_fit e = range_each (rescaled_in part b) length_rescaled (omega (arith, eqb-true (first_wide (in_zigzag (rescaled_in part b))) 16 e))

  -- ---- where all levels are 0

  module _ (e : levels_in b part ≡ tab 16 (λ k. pos 0)) where
    zero_numbers : rescaled_in part b ≡ zeros
    unfolding rescaled_in
    zero_numbers = ap (λ (l : List ℤ). rescaled (qp_in part) (in_places l)) e ∙ ap (rescaled (qp_in part)) places_zeros ∙ rescaled_zeros (qp_in part)

    pub zero_range : range_holds part b ≡ true
    unfolding range_holds
    zero_range = ap (λ (d : List ℤ). eqb (first_wide (in_zigzag d)) 16) zero_numbers ∙ zeros_fit

    pub zero_samples : (prediction : List ℕ) → length prediction ≡ 16 → Bytes prediction → prediction ≡ rebuilt_samples prediction (rescaled_in part b)
    zero_samples prediction long bytes = sym (ap (rebuilt_samples prediction) zero_numbers ∙ samples_zeros prediction long bytes)

-- a mode that holds is permitted, of the flags and the number that the code has read
pub holds_by : (l : Layout) (m : ℕ) (part : List ℕ) (b : ℕ) {flags mode : ℕ} → flags ≡ flags_of 4 l m b → mode ≡ mode_in b part → mode_holds l m part b ≡ true
    → permitted flags mode ≡ true
unfolding mode_holds
holds_by l m part b ef em h = rw (ef, em) h

module _ (l : Layout) (m : ℕ) (part : List ℕ) where
  pub mode_le : first_mode l m part ≤ 16
  unfolding first_mode
  mode_le = first_le (λ b. not (mode_holds l m part b)) 16

  pub range_le : first_range part ≤ 16
  unfolding first_range
  range_le = first_le (λ b. not (range_holds part b)) 16

  module _ (legal : qp_in part ≤ highest) where
    pub mode_far : first_mode l m part < 16 → chain (content_tests4 l m part) ≡ stop (refusal.Mode (16 * m + first_mode l m part))
    mode_far h =
        let n : (first_mode l m part ≡ 16 → ⊥) = λ e. omega arith in
        simp (number_passes (16 * m) (qp_in part) legal, ne_eqb (first_mode l m part) 16 n)

    -- the refusal that the code sends back, of the block that it found
    pub mode_sent : {b : ℕ} → b ≡ first_mode l m part → b < 16 → stop (refusal.Mode (16 * m + b)) ≡ chain (content_tests4 l m part)
    mode_sent {b} e h = ap (λ (k : ℕ). stop (refusal.Mode (16 * m + k))) e ∙ sym (mode_far (omega arith))

    module _ (modes : 16 ≤ first_mode l m part) where
      pub range_far : first_range part < 16 → chain (content_tests4 l m part) ≡ stop (refusal.Range (16 * m + first_range part))
      range_far h =
          let e : first_mode l m part ≡ 16 = omega (arith, mode_le) in
          let n : (first_range part ≡ 16 → ⊥) = λ e. omega arith in
          simp (number_passes (16 * m) (qp_in part) legal, eq-eqb (first_mode l m part) 16 e, ne_eqb (first_range part) 16 n)

      pub content_fine : 16 ≤ first_range part → chain (content_tests4 l m part) ≡ pass
      content_fine h =
          let e : first_mode l m part ≡ 16 = omega (arith, mode_le) in
          let f : first_range part ≡ 16 = omega (arith, range_le) in
          simp (number_passes (16 * m) (qp_in part) legal, eq-eqb (first_mode l m part) 16 e, eq-eqb (first_range part) 16 f)

  -- what is known of a record whose content is fine
  pub record Fine : Type 0 where
    pub legal : qp_in part ≤ highest
    pub modes : (b : ℕ) → b < 16 → mode_holds l m part b ≡ true
    pub ranges : (b : ℕ) → b < 16 → range_holds part b ≡ true

  pub fine : chain (content_tests4 l m part) ≡ pass → Fine
  unfolding first_mode first_range
  fine e =
      let a = (chain_exactly_if (content_tests4 l m part)).passes.0 e in
      let p : first_mode l m part ≡ 16 = eqb-true (first_mode l m part) 16 a.1.0 in
      let q : first_range part ≡ 16 = eqb-true (first_range part) 16 a.1.1.0 in
      record {
        legal = number_legal (16 * m) (qp_in part) a.0;
        modes = λ b h. not-false (mode_holds l m part b) (first_before (λ b. not (mode_holds l m part b)) 16 b (omega (arith, p)));
        ranges = λ b h. not-false (range_holds part b) (first_before (λ b. not (range_holds part b)) 16 b (omega (arith, q)));
      }
