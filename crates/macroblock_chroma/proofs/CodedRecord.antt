-- What the coder's chroma record says, and that a decoder accepts it and rebuilds its macroblock's chroma as the coder did: for planes of bytes, from
-- rebuilt planes of bytes before the macroblock.
--     ReadyChroma, ready_chroma        levels of bytes beside bytes are 64, small and in range
--     mode_permitted_chroma            the mode is permitted
--     length_both, both_fit            the levels are 128 and fit 16 bits
--     written_chroma                   the record of what the code hands on is the coder's
--     length_record_from_chroma, own_record_from_chroma     the record's length; its form is fine
--     mode_said_chroma, cb_levels_said, cr_levels_said      its mode, and the levels of either plane
--     content_own_chroma               its content is fine, wherever it stands
--     cb_step_again, cr_step_again     both planes are rebuilt as the coder rebuilt them
--     coded_bytes_chroma               they stay planes of bytes
-- Assumes nothing.
use mathlib.Core.Path.{◌≡◌, sym, ap, subst, ◌∙◌}
use mathlib.Core.Bool.{true}
use mathlib.Core.List.{List, ◌++◌}
use Prim.Native.Nat.{ℕ, ◌≤◌}
use native.Mathlib.Omega.{arith}
use borrow.Author.Tests.{eq-eqb}
use lib.IntN.{ℤ, pos}
use lib.ListN.{length, get_or, take, drop, length-append}
use lib.Seq.{take_at, drop_at}
use mir.Syntax.{w16}
use mir.Val.{SFits}
use Rattle.lists.specs.Bytes.{Bytes}
use Rattle.lists.specs.Chain.{pass, chain}
use Rattle.whole.specs.Bounds.{Each}
use Rattle.whole.specs.Notation.{minus}
use Rattle.whole.specs.Range.{inside}
use Rattle.whole.proofs.Bound.{here, fits}
use Rattle.whole.proofs.Lists.{each_append}
use Rattle.whole.proofs.Steps.{each_at}
use Rattle.quantizer.specs.Chroma.{chroma_of}
use Rattle.quantizer.specs.Range.{highest}
use Rattle.quantizer.proofs.Offsets.{chroma_of_legal}
use Rattle.choice.specs.Choice.{Best, mode_of}
use Rattle.chroma.specs.Rules.{permitted}
use Rattle.chroma.proofs.Bytes.{predicted_bytes}
use Rattle.chroma.proofs.Least.{mode_for_both_law}
use Rattle.residual_whole.specs.Coded.{whole_levels}
use Rattle.residual_whole.specs.Rebuilt.{first_ac}
use Rattle.residual_whole.proofs.Own.{own_levels_accepted, length_own}
use Rattle.residual_whole.proofs.Samples.{whole_bytes}
use Rattle.record.specs.Kinds.{in_chroma, length_of, expected_chroma}
use Rattle.record.specs.Records.{record_chroma, all_levels_in, cb_offset_in, cr_offset_in, chroma_mode_in}
use Rattle.record.proofs.Back.{Own, own_chroma, length_chroma, cb_offset_back, cr_offset_back, chroma_mode_back, chroma_levels_back}
use Rattle.picture.specs.declared.Layout.{Layout}
use Rattle.picture.specs.Both.{Both}
use Rattle.picture.specs.Plane.{stride}
use Rattle.picture.specs.Whole.{whole_column, whole_row, whole_of, with_whole, flags_round, gathered_round, whole_turn}
use Rattle.picture.proofs.Bytes.{block_bytes}
use Rattle.picture.proofs.Round.{gathered_round_bytes}
use Rattle.picture.proofs.Whole.{whole_turn_bytes}
use Rattle.macroblock_chroma.specs.Code.{mode_for_both, levels_chroma, coded_chroma, record_from_chroma, coded_step_chroma}
use Rattle.macroblock_chroma.specs.Content.{cb_levels_in, cr_levels_in, content_tests_chroma}
use Rattle.macroblock_chroma.specs.Fine.{in_range}
use Rattle.macroblock_chroma.specs.Rebuild.{prediction_chroma, samples_chroma, cb_step, cr_step}
use Rattle.macroblock_chroma.proofs.Contents.{content_fine_chroma}
use Rattle.macroblock_chroma.proofs.Offsets.{offset_fits}

-- ---- one plane

-- all that storing a plane's samples, and writing its levels, ask for
pub record ReadyChroma (qp : ℕ) (levels : List ℤ) : Type 0 where
  pub long : length levels ≡ 64
  pub small : Each 6528 levels
  pub range : in_range qp levels ≡ true

pub ready_chroma : (qp : ℕ) → qp ≤ highest → (samples prediction : List ℕ) → Bytes samples → Bytes prediction → ReadyChroma qp (whole_levels 8 qp samples prediction)
unfolding in_range
ready_chroma qp legal samples prediction own near =
    let o = own_levels_accepted 8 tt qp samples prediction legal own near in
    record {
      long = o.long;
      small = o.small;
      range = rw (o.dc_fine, eq-eqb (first_ac 8 qp (whole_levels 8 qp samples prediction)) 4 o.ac_fine);
    }

module _ (l : Layout) (qp : ℕ) (original : List ℕ) (mode m : ℕ) (neighbours : List ℕ) where
  length_levels_chroma : length (levels_chroma l qp original mode m neighbours) ≡ 64
  unfolding levels_chroma
  length_levels_chroma = length_own 8 tt qp (whole_of 8 l m original) (prediction_chroma l mode m neighbours)

  ready_plane : qp ≤ highest → Bytes original → Bytes neighbours → ReadyChroma qp (levels_chroma l qp original mode m neighbours)
  unfolding levels_chroma prediction_chroma
  ready_plane legal bytes near =
      ready_chroma qp legal (whole_of 8 l m original) (prediction_chroma l mode m neighbours)
      (block_bytes 8 (stride 8 l) (whole_column 8 l m) (whole_row 8 l m) original bytes)
      (predicted_bytes neighbours (flags_round 8 l m) near mode)

  -- whatever it is coded from, it makes bytes
  coded_bytes_plane : Bytes (coded_chroma l qp original mode m neighbours)
  unfolding coded_chroma samples_chroma
  coded_bytes_plane = whole_bytes 8 qp (prediction_chroma l mode m neighbours) (levels_chroma l qp original mode m neighbours)

-- ---- both planes

-- both hold bytes
pub record BytesBoth (b : Both) : Type 0 where
  pub cbs : Bytes b.cb
  pub crs : Bytes b.cr

module _ (l : Layout) (original : Both) (m : ℕ) (before : Both) where
  pub mode_permitted_chroma : permitted (flags_round 8 l m) (mode_for_both l original m before) ≡ true
  unfolding mode_for_both
  mode_permitted_chroma =
      let c = mode_for_both_law (flags_round 8 l m) (gathered_round 8 l m before.cb) (gathered_round 8 l m before.cr) (whole_of 8 l m original.cb) (whole_of 8 l m original.cr) in
      subst (λ (b : Best). permitted (flags_round 8 l m) (mode_of b) ≡ true) (sym c.is) c.allowed

module _ (l : Layout) (qp : ℕ) (cb_offset cr_offset : ℤ) (original : Both) (m : ℕ) (before : Both) where
  abbrev mode : ℕ
  mode = mode_for_both l original m before

  abbrev cb_around : List ℕ
  cb_around = gathered_round 8 l m before.cb

  abbrev cr_around : List ℕ
  cr_around = gathered_round 8 l m before.cr

  abbrev pub cb_own : List ℤ
  cb_own = levels_chroma l (chroma_of qp cb_offset) original.cb mode m cb_around

  abbrev pub cr_own : List ℤ
  cr_own = levels_chroma l (chroma_of qp cr_offset) original.cr mode m cr_around

  abbrev own : List ℕ
  own = record_from_chroma l qp cb_offset cr_offset original m before

  cb_long : length cb_own ≡ 64
  cb_long = length_levels_chroma l (chroma_of qp cb_offset) original.cb mode m cb_around

  cr_long : length cr_own ≡ 64
  cr_long = length_levels_chroma l (chroma_of qp cr_offset) original.cr mode m cr_around

  pub length_both : length (cb_own ++ cr_own) ≡ 128
  length_both = omega (arith, length-append cb_own cr_own, cb_long, cr_long)

  -- what the code hands to the writing of a record gives this one
  pub written_chroma : {cb cr : ℤ} {found : ℕ} {levels : List ℤ} → cb ≡ cb_offset → cr ≡ cr_offset → found ≡ mode → levels ≡ cb_own ++ cr_own → record_chroma m cb cr found levels ≡ own
  unfolding record_from_chroma
  written_chroma is_b is-r is_m is_l = λ i. record_chroma m (is_b i) (is-r i) (is_m i) (is_l i)

  -- ---- its form

  pub length_record_from_chroma : length own ≡ length_of in_chroma
  unfolding record_from_chroma
  length_record_from_chroma = length_chroma m cb_offset cr_offset mode (cb_own ++ cr_own) length_both

  pub own_record_from_chroma : Own (expected_chroma m) own
  unfolding record_from_chroma
  own_record_from_chroma = own_chroma m cb_offset cr_offset mode (cb_own ++ cr_own) length_both

  -- ---- what it says

  pub mode_said_chroma : chroma_mode_in own ≡ mode
  unfolding record_from_chroma
  mode_said_chroma = chroma_mode_back m cb_offset cr_offset mode (cb_own ++ cr_own)

  module _ (bytes : BytesBoth original) (small : BytesBoth before) where
    cb_ready : ReadyChroma (chroma_of qp cb_offset) cb_own
    cb_ready =
        ready_plane l (chroma_of qp cb_offset) original.cb mode m cb_around (chroma_of_legal qp cb_offset) bytes.cbs (gathered_round_bytes 8 l m before.cb small.cbs)

    cr_ready : ReadyChroma (chroma_of qp cr_offset) cr_own
    cr_ready =
        ready_plane l (chroma_of qp cr_offset) original.cr mode m cr_around (chroma_of_legal qp cr_offset) bytes.crs (gathered_round_bytes 8 l m before.cr small.crs)

    pub both_fit : (k : ℕ) → SFits w16 (get_or (cb_own ++ cr_own) k (pos 0))
    both_fit k = fits (here (each_at 6528 (cb_own ++ cr_own) (each_append 6528 cb_own cr_own cb_ready.small cr_ready.small) k)) tt

    levels_said : all_levels_in in_chroma own ≡ cb_own ++ cr_own
    unfolding record_from_chroma
    levels_said = chroma_levels_back m cb_offset cr_offset mode (cb_own ++ cr_own) length_both both_fit

    pub cb_levels_said : cb_levels_in own ≡ cb_own
    unfolding cb_levels_in
    cb_levels_said = ap (take 64) levels_said ∙ take_at cb_own cr_own 64 cb_long

    pub cr_levels_said : cr_levels_in own ≡ cr_own
    unfolding cr_levels_in
    cr_levels_said = ap (drop 64) levels_said ∙ drop_at cb_own cr_own 64 cb_long

    module _ (cbLegal : inside (minus 12) (pos 12) cb_offset ≡ true) (crLegal : inside (minus 12) (pos 12) cr_offset ≡ true) where
      cb_said : cb_offset_in own ≡ cb_offset
      unfolding record_from_chroma
      cb_said = cb_offset_back m cb_offset cr_offset mode (cb_own ++ cr_own) (offset_fits cb_offset cbLegal)

      cr_said : cr_offset_in own ≡ cr_offset
      unfolding record_from_chroma
      cr_said = cr_offset_back m cb_offset cr_offset mode (cb_own ++ cr_own) (offset_fits cr_offset crLegal)

      -- ---- its content is fine

      pub content_own_chroma : (place : ℕ) → chain (content_tests_chroma l m qp place own) ≡ pass
      content_own_chroma place =
          content_fine_chroma
          (record {
            cb_offset = ap (inside (minus 12) (pos 12)) cb_said ∙ cbLegal;
            cr_offset = ap (inside (minus 12) (pos 12)) cr_said ∙ crLegal;
            mode = ap (permitted (flags_round 8 l m)) mode_said_chroma ∙ mode_permitted_chroma l original m before;
            cb_range = (λ i. in_range (chroma_of qp (cb_said i)) (cb_levels_said i)) ∙ cb_ready.range;
            cr_range = (λ i. in_range (chroma_of qp (cr_said i)) (cr_levels_said i)) ∙ cr_ready.range;
          })
          place

      -- ---- it is rebuilt as the coder rebuilt it

      pub cb_step_again : cb_step l m qp own before.cb ≡ (coded_step_chroma l qp cb_offset cr_offset original m before).cb
      unfolding cb_step coded_step_chroma coded_chroma whole_turn
      cb_step_again = λ i. with_whole 8 l m (samples_chroma l (chroma_of qp (cb_said i)) (mode_said_chroma i) (cb_levels_said i) m cb_around) before.cb

      pub cr_step_again : cr_step l m qp own before.cr ≡ (coded_step_chroma l qp cb_offset cr_offset original m before).cr
      unfolding cr_step coded_step_chroma coded_chroma whole_turn
      cr_step_again = λ i. with_whole 8 l m (samples_chroma l (chroma_of qp (cr_said i)) (mode_said_chroma i) (cr_levels_said i) m cr_around) before.cr

  pub coded_bytes_chroma : BytesBoth before → BytesBoth (coded_step_chroma l qp cb_offset cr_offset original m before)
  unfolding coded_step_chroma
  coded_bytes_chroma small = record {
    cbs = whole_turn_bytes 8 (coded_chroma l (chroma_of qp cb_offset) original.cb mode) (λ k n long near. coded_bytes_plane l (chroma_of qp cb_offset) original.cb mode k n) l m before.cb small.cbs;
    crs = whole_turn_bytes 8 (coded_chroma l (chroma_of qp cr_offset) original.cr mode) (λ k n long near. coded_bytes_plane l (chroma_of qp cr_offset) original.cr mode k n) l m before.cr small.crs;
  }
