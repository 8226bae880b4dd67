-- What a macroblock's chroma makes is a step of it, and looks only at what is present to it.
--     SameAround, same_mode, same_record_chroma         of the same neighbours the mode and the record are the same
--     cb_step_law, cr_step_law                           by a record, in either plane
--     plane_step_chroma_law                          when it is coded, in either plane with any mode
--     mode_looks, record_looks_chroma            the mode of both planes, and the record
--     chroma_start_has_no_value                  what stood in the planes at the start changes no sample when a picture is coded,
--     chroma_records_start_has_no_value          and no record
-- Assumes nothing.
use mathlib.Core.Path.{◌≡◌}
use mathlib.Core.List.{List, ◌++◌}
use Prim.Native.Nat.{ℕ, ◌<◌}
use native.Mathlib.Omega.{arith}
use lib.IntN.{ℤ}
use Rattle.lists.specs.Fold.{fold}
use Rattle.quantizer.specs.Chroma.{chroma_of}
use Rattle.choice.specs.Choice.{mode_of}
use Rattle.chroma.specs.Choice.{chosen_for_both}
use Rattle.record.specs.Records.{chroma_mode_in, record_chroma}
use Rattle.picture.specs.declared.Layout.{Layout}
use Rattle.picture.specs.Both.{Both}
use Rattle.picture.specs.Order.{count_of}
use Rattle.picture.specs.Whole.{whole_of, gathered_round}
use Rattle.picture.proofs.Both.{AgreeBoth, LooksBoth, LongBoth, both_start_has_no_value, both_made_start_has_no_value}
use Rattle.picture.proofs.Round.{gathered_round_looks}
use Rattle.picture.proofs.Steps.{MacroblockStep}
use Rattle.picture.proofs.Whole.{whole_step}
use Rattle.macroblock_chroma.specs.Code.{mode_for_both, levels_chroma, coded_chroma, plane_step_chroma, record_from_chroma, coded_step_chroma}
use Rattle.macroblock_chroma.specs.Content.{cb_levels_in, cr_levels_in, cb_quantizer, cr_quantizer}
use Rattle.macroblock_chroma.specs.Rebuild.{round_chroma, samples_chroma, cb_step, cr_step}

-- ---- of the same neighbours all is the same

-- both pairs of planes have the same neighbours round macroblock m
pub record SameAround (l : Layout) (m : ℕ) (b c : Both) : Type 0 where
  pub cbs : gathered_round 8 l m b.cb ≡ gathered_round 8 l m c.cb
  pub crs : gathered_round 8 l m b.cr ≡ gathered_round 8 l m c.cr

module _ (l : Layout) (original : Both) (m : ℕ) {b c : Both} (same : SameAround l m b c) where
  pub same_mode : mode_for_both l original m b ≡ mode_for_both l original m c
  unfolding mode_for_both
  same_mode =
      λ i. mode_of (chosen_for_both (round_chroma l m (same.cbs i)) (round_chroma l m (same.crs i)) (whole_of 8 l m original.cb) (whole_of 8 l m original.cr))

  pub same_record_chroma : (qp : ℕ) (cb_offset cr_offset : ℤ) → record_from_chroma l qp cb_offset cr_offset original m b ≡ record_from_chroma l qp cb_offset cr_offset original m c
  unfolding record_from_chroma
  same_record_chroma qp cb_offset cr_offset =
      λ i. record_chroma m cb_offset cr_offset (same_mode i)
      (levels_chroma l (chroma_of qp cb_offset) original.cb (same_mode i) m (same.cbs i) ++ levels_chroma l (chroma_of qp cr_offset) original.cr (same_mode i) m (same.crs i))

-- ---- steps, and what is seen

module _ (l : Layout) (some : 0 < l.width) (m : ℕ) (among : m < count_of l) where
  pub cb_step_law : (qp : ℕ) (part : List ℕ) → MacroblockStep 8 l m (cb_step l m qp part)
  unfolding cb_step
  cb_step_law qp part = whole_step 8 (omega arith) l some m among (samples_chroma l (cb_quantizer qp part) (chroma_mode_in part) (cb_levels_in part))

  pub cr_step_law : (qp : ℕ) (part : List ℕ) → MacroblockStep 8 l m (cr_step l m qp part)
  unfolding cr_step
  cr_step_law qp part = whole_step 8 (omega arith) l some m among (samples_chroma l (cr_quantizer qp part) (chroma_mode_in part) (cr_levels_in part))

  pub plane_step_chroma_law : (qp : ℕ) (original : List ℕ) (mode : ℕ) → MacroblockStep 8 l m (plane_step_chroma l qp original mode m)
  plane_step_chroma_law qp original mode = whole_step 8 (omega arith) l some m among (coded_chroma l qp original mode)

  same_seen : (b c : Both) → AgreeBoth 8 l m b c → SameAround l m b c
  same_seen b c a = record {
    cbs = gathered_round_looks l some m among 8 (omega arith) b.cb c.cb a.cbs;
    crs = gathered_round_looks l some m among 8 (omega arith) b.cr c.cr a.crs;
  }

  module _ (original : Both) where
    pub mode_looks : LooksBoth 8 l m (mode_for_both l original m)
    mode_looks b c a = same_mode l original m (same_seen b c a)

    pub record_looks_chroma : (qp : ℕ) (cb_offset cr_offset : ℤ) → LooksBoth 8 l m (record_from_chroma l qp cb_offset cr_offset original m)
    record_looks_chroma qp cb_offset cr_offset b c a = same_record_chroma l original m (same_seen b c a) qp cb_offset cr_offset

-- ---- a picture from any two starts

module _ (l : Layout) (some : 0 < l.width) (qp : ℕ) (cb_offset cr_offset : ℤ) (original : Both)
    (b : Both) (long : LongBoth 8 l b) (c : Both) (other : LongBoth 8 l c)
  where
    pub chroma_start_has_no_value : fold (count_of l) (coded_step_chroma l qp cb_offset cr_offset original) b ≡ fold (count_of l) (coded_step_chroma l qp cb_offset cr_offset original) c
    unfolding coded_step_chroma
    chroma_start_has_no_value =
        both_start_has_no_value 8 (omega arith) l some (mode_for_both l original)
        (plane_step_chroma l (chroma_of qp cb_offset) original.cb)
        (plane_step_chroma l (chroma_of qp cr_offset) original.cr)
        (λ mode m h. plane_step_chroma_law l some m h (chroma_of qp cb_offset) original.cb mode)
        (λ mode m h. plane_step_chroma_law l some m h (chroma_of qp cr_offset) original.cr mode)
        (λ m h. mode_looks l some m h original) b long c other

    pub chroma_records_start_has_no_value : (m : ℕ) → m < count_of l
        → record_from_chroma l qp cb_offset cr_offset original m (fold m (coded_step_chroma l qp cb_offset cr_offset original) b)
        ≡ record_from_chroma l qp cb_offset cr_offset original m (fold m (coded_step_chroma l qp cb_offset cr_offset original) c)
    unfolding coded_step_chroma
    chroma_records_start_has_no_value =
        both_made_start_has_no_value 8 (omega arith) l some (mode_for_both l original)
        (plane_step_chroma l (chroma_of qp cb_offset) original.cb)
        (plane_step_chroma l (chroma_of qp cr_offset) original.cr)
        (λ mode m h. plane_step_chroma_law l some m h (chroma_of qp cb_offset) original.cb mode)
        (λ mode m h. plane_step_chroma_law l some m h (chroma_of qp cr_offset) original.cr mode)
        (λ m h. mode_looks l some m h original) b long c other
        (record_from_chroma l qp cb_offset cr_offset original)
        (λ m h. record_looks_chroma l some m h original qp cb_offset cr_offset)
