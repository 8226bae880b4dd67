-- What the candidate's record says, and that a decoder accepts it and rebuilds its macroblock as the coder did: for a plane of bytes, from a
-- rebuilt plane of bytes before the macroblock.
--     mode_permitted16, length_prediction16, prediction_bytes16     the mode is permitted; the prediction is 256 bytes
--     own16, levels_fit16, ready16     the levels are 256, fit 16 bits and are in range; so what `code_candidate16` leaves can be stored
--     length_record_from16, own_record_from16, is_whole_from16     the record's length; its form is fine; its kind
--     content_own16                    its content is fine
--     step_again16                     it is rebuilt as the coder rebuilt it
-- Assumes nothing.
use mathlib.Core.Path.{◌≡◌, sym, ap, subst, ◌∙◌}
use mathlib.Core.Bool.{true}
use mathlib.Core.List.{List}
use Prim.Native.Nat.{ℕ, ◌≤◌}
use native.Mathlib.Omega.{arith}
use lib.IntN.{ℤ, pos}
use lib.ListN.{length, get_or}
use mir.Syntax.{w16}
use mir.Val.{SFits}
use Rattle.lists.specs.Bytes.{Bytes}
use Rattle.lists.specs.Chain.{pass, chain}
use Rattle.whole.specs.Bounds.{Each}
use Rattle.whole.proofs.Lists.{each_less}
use Rattle.quantizer.specs.Range.{highest}
use Rattle.choice.specs.Choice.{Best, mode_of}
use Rattle.choice.specs.declared.inner.Standing.{Standing}
use Rattle.intra4.specs.Rules.{samples_of}
use Rattle.sides.specs.Rules.{predicted, permitted}
use Rattle.sides.proofs.Bytes.{predicted_bytes, predicted_long}
use Rattle.sides.proofs.Least.{chosen_mode}
use Rattle.residual_whole.specs.Rebuilt.{whole_samples, dc_fits, first_ac}
use Rattle.residual_whole.proofs.Own.{OwnLevels, own_levels_accepted, length_own}
use Rattle.record.specs.Kinds.{in_whole, length_of, expected_luma}
use Rattle.record.specs.Records.{qp_in, whole_mode_in, is_whole}
use Rattle.record.proofs.Back.{Own, own_whole, length_whole, is_whole_law, whole_qp_back, whole_mode_back, whole_levels_back}
use Rattle.picture.specs.declared.Layout.{Layout}
use Rattle.picture.specs.Plane.{stride}
use Rattle.picture.specs.Whole.{whole_column, whole_row, whole_of, with_whole, flags_round, gathered_round, whole_turn}
use Rattle.picture.proofs.Bytes.{block_bytes}
use Rattle.picture.proofs.Round.{gathered_round_bytes}
use Rattle.macroblock16.specs.Code.{mode_from16, prediction_from16, levels_from16, samples_from16, record_from16, coded_step16, Candidate}
use Rattle.macroblock16.specs.Content.{whole_levels_in, content_tests16}
use Rattle.macroblock16.specs.Rebuild.{round_whole, whole_from, rebuilt_step16}
use Rattle.macroblock16.proofs.Contents.{content_fine16}

module _ (l : Layout) (original : List ℕ) (m : ℕ) (neighbours : List ℕ) where
  pub mode_permitted16 : permitted (flags_round 16 l m) (mode_from16 l original m neighbours) ≡ true
  unfolding mode_from16
  mode_permitted16 =
      let c = chosen_mode neighbours (flags_round 16 l m) (whole_of 16 l m original) in
      subst (λ (b : Best). permitted (flags_round 16 l m) (mode_of b) ≡ true) (sym c.is) c.allowed

  pub length_prediction16 : length (prediction_from16 l original m neighbours) ≡ 256
  unfolding prediction_from16
  length_prediction16 = predicted_long neighbours (flags_round 16 l m) (mode_from16 l original m neighbours) mode_permitted16

  pub prediction_bytes16 : Bytes neighbours → Bytes (prediction_from16 l original m neighbours)
  unfolding prediction_from16
  prediction_bytes16 near = predicted_bytes neighbours (flags_round 16 l m) near (mode_from16 l original m neighbours)

module _ (l : Layout) (qp : ℕ) (original : List ℕ) (m : ℕ) where
  pub length_levels_from16 : (neighbours : List ℕ) → length (levels_from16 l qp original m neighbours) ≡ in_whole.levels
  unfolding levels_from16
  length_levels_from16 neighbours = length_own 16 tt qp (whole_of 16 l m original) (prediction_from16 l original m neighbours)

  module _ (before : List ℕ) where
    abbrev around : List ℕ
    around = gathered_round 16 l m before

    abbrev own : List ℕ
    own = record_from16 l qp original m before

    -- ---- its form

    pub length_record_from16 : length own ≡ length_of in_whole
    unfolding record_from16
    length_record_from16 = length_whole m qp (mode_from16 l original m around) (levels_from16 l qp original m around) (length_levels_from16 around)

    pub own_record_from16 : Own (expected_luma m) own
    unfolding record_from16
    own_record_from16 = own_whole m qp (mode_from16 l original m around) (levels_from16 l qp original m around) (length_levels_from16 around)

    pub is_whole_from16 : is_whole own ≡ true
    unfolding record_from16
    is_whole_from16 = is_whole_law m qp (mode_from16 l original m around) (levels_from16 l qp original m around)

    -- ---- what it says

    pub qp_said16 : qp_in own ≡ qp
    unfolding record_from16
    qp_said16 = whole_qp_back m qp (mode_from16 l original m around) (levels_from16 l qp original m around)

    pub mode_said16 : whole_mode_in own ≡ mode_from16 l original m around
    unfolding record_from16
    mode_said16 = whole_mode_back m qp (mode_from16 l original m around) (levels_from16 l qp original m around)

    module _ (legal : qp ≤ highest) (bytes : Bytes original) (small : Bytes before) where
      own16 : OwnLevels 16 tt qp (whole_of 16 l m original) (prediction_from16 l original m around) legal
          (block_bytes 16 (stride 16 l) (whole_column 16 l m) (whole_row 16 l m) original bytes)
          (prediction_bytes16 l original m around (gathered_round_bytes 16 l m before small))
      own16 =
          own_levels_accepted 16 tt qp (whole_of 16 l m original) (prediction_from16 l original m around) legal
          (block_bytes 16 (stride 16 l) (whole_column 16 l m) (whole_row 16 l m) original bytes)
          (prediction_bytes16 l original m around (gathered_round_bytes 16 l m before small))

      pub levels_fit16 : (k : ℕ) → SFits w16 (get_or (levels_from16 l qp original m around) k (pos 0))
      unfolding levels_from16
      levels_fit16 = own16.fits

      pub levels_said16 : whole_levels_in own ≡ levels_from16 l qp original m around
      unfolding record_from16
      levels_said16 = whole_levels_back m qp (mode_from16 l original m around) (levels_from16 l qp original m around) (length_levels_from16 around) levels_fit16

      -- ---- its content is fine

      pub content_own16 : chain (content_tests16 l m own) ≡ pass
      unfolding levels_from16
      content_own16 =
          let ac : first_ac 16 (qp_in own) (whole_levels_in own) ≡ 16 = (λ i. first_ac 16 (qp_said16 i) (levels_said16 i)) ∙ own16.ac_fine in
          content_fine16 l m own (omega (arith, qp_said16))
          (ap (permitted (flags_round 16 l m)) mode_said16 ∙ mode_permitted16 l original m around)
          ((λ i. dc_fits 16 (qp_said16 i) (levels_said16 i)) ∙ own16.dc_fine)
          (omega (arith, ac))

      -- ---- it is rebuilt as the coder rebuilt it

      whole_again : whole_from l own m around ≡ samples_from16 l qp original m around
      unfolding whole_from samples_from16 prediction_from16
      whole_again = λ i. whole_samples 16 (qp_said16 i) (samples_of (predicted (round_whole l m around) (mode_said16 i))) (levels_said16 i)

      pub step_again16 : rebuilt_step16 l m own before ≡ coded_step16 l qp original m before
      unfolding rebuilt_step16 coded_step16 whole_turn
      step_again16 = ap (λ (block : List ℕ). with_whole 16 l m block before) whole_again

-- ---- what `code_candidate16` leaves

-- all that storing its samples, and writing its record, ask for
pub record Ready (qp : ℕ) (levels : List ℤ) (prediction : List ℕ) : Type 0 where
  pub long : length levels ≡ 256
  pub fits : (k : ℕ) → SFits w16 (get_or levels k (pos 0))
  pub small : Each 32768 levels
  pub dc : dc_fits 16 qp levels ≡ true
  pub ac : first_ac 16 qp levels ≡ 16
  pub samples : length prediction ≡ 256

module _ {l : Layout} {m qp : ℕ} {original before : List ℕ} {found : Standing} {levels : List ℤ} {prediction : List ℕ} (c : Candidate l m qp original before found levels prediction) where
  pub ready16 : qp ≤ highest → Bytes original → Bytes before → Ready qp levels prediction
  unfolding levels_from16
  ready16 legal bytes small =
      let o = own16 l qp original m before legal bytes small in
      let e = c.coded in
      record {
        long = ap length e ∙ o.long;
        fits = λ k. subst (λ (t : List ℤ). SFits w16 (get_or t k (pos 0))) (sym e) (o.fits k);
        small = subst (Each 32768) (sym e) (each_less 6528 32768 (levels_from16 l qp original m (gathered_round 16 l m before)) o.small tt);
        dc = ap (dc_fits 16 qp) e ∙ o.dc_fine;
        ac = ap (first_ac 16 qp) e ∙ o.ac_fine;
        samples = ap length c.shown ∙ length_prediction16 l original m (gathered_round 16 l m before);
      }

  -- with its samples stored the plane has made the candidate's step, and its record is that of its mode and its levels
  pub stored16 : {after : List ℕ} → after ≡ with_whole 16 l m (whole_samples 16 qp prediction levels) before → after ≡ coded_step16 l qp original m before
  unfolding coded_step16 whole_turn samples_from16
  stored16 e = e ∙ (λ i. with_whole 16 l m (whole_samples 16 qp (c.shown i) (c.coded i)) before)
