-- What stands in a record, and in the rebuilt plane, by the samples round it in that plane as it is left; by the definitions that the contracts cite.
--     cleared_long                    a cleared plane is as long as it should be
--     CodedAt, coded_at               a 4x4 block that was coded: its mode, its levels and its samples
--     levels_whole, near_whole        a macroblock of luma that was coded whole: its levels, and that it is predicted by bytes
--     cb_levels, cr_levels, near_chroma     the same of chroma
--     DecodedAt, decoded_at           a 4x4 block that was decoded from a record whose content is fine
-- Assumes nothing.
use mathlib.Core.Path.{◌≡◌, refl, sym, ap, ◌∙◌}
use mathlib.Core.Bool.{Bool, true, false, cond}
use mathlib.Core.List.{List}
use Prim.Native.Nat.{ℕ, zero, suc, ◌<◌, ◌≤◌}
use native.Mathlib.Omega.{arith}
use lib.IntN.{ℤ}
use lib.ListN.{length}
use Rattle.lists.specs.Bytes.{Bytes}
use Rattle.lists.specs.Chain.{pass, chain}
use Rattle.lists.specs.Fold.{fold}
use Rattle.lists.proofs.Tab.{length_tab}
use Rattle.quantizer.specs.Chroma.{chroma_of}
use Rattle.quantizer.specs.Range.{highest}
use Rattle.intra4.specs.Rules.{samples_of}
use Rattle.block.specs.Block.{coded_mode, coded_levels, coded_samples}
use Rattle.block.proofs.Carries.{length_samples}
use Rattle.sides.specs.Rules.{predicted}
use Rattle.sides.proofs.Bytes.{predicted_bytes}
use Rattle.chroma.proofs.Bytes as chroma
use Rattle.residual_whole.specs.Coded.{whole_levels}
use Rattle.record.specs.Records.{is_whole, mode_in, levels_in, whole_mode_in, chroma_mode_in}
use Rattle.picture.specs.declared.Layout.{Layout}
use Rattle.picture.specs.Both.{Both}
use Rattle.picture.specs.Order.{count_of, block_count, block_column, block_row}
use Rattle.picture.specs.Plane.{stride, plane_length, block_of, gathered, first_turns}
use Rattle.picture.specs.Whole.{whole_of, flags_round, gathered_round}
use Rattle.picture.proofs.Bytes.{gathered_bytes, block_bytes}
use Rattle.picture.proofs.Round.{gathered_round_bytes, gathered_round_looks}
use Rattle.picture.proofs.Settled.{looks_left, sees_left, block_left}
use Rattle.macroblock4.specs.Code.{round_of, mode_from, levels_from, samples_from, seen, record_from4, coded_step4}
use Rattle.macroblock4.specs.Content.{mode_holds, range_holds}
use Rattle.macroblock4.specs.Rebuild.{block_from, rebuilt_step4}
use Rattle.macroblock4.proofs.CodedRecord.{mode_said, levels_said}
use Rattle.macroblock4.proofs.Contents.{Fine, fine}
use Rattle.macroblock4.proofs.RecordFrom.{not_whole_from4}
use Rattle.macroblock16.specs.Code.{mode_from16, prediction_from16, levels_from16, record_from16}
use Rattle.macroblock16.specs.Content.{whole_levels_in}
use Rattle.macroblock16.specs.Rebuild.{round_whole}
use Rattle.macroblock16.proofs.CodedRecord.{is_whole_from16, mode_said16, levels_said16}
use Rattle.macroblock.specs.Code.{record_from, coded_step}
use Rattle.macroblock.specs.Content.{content_tests}
use Rattle.macroblock.specs.Rebuild.{rebuilt_step}
use Rattle.macroblock.proofs.Contents.{tests_fours, rebuilt_fours}
use Rattle.macroblock.proofs.Looks.{coded_step_law, rebuilt_step_law}
use Rattle.macroblock.proofs.RecordFrom.{together}
use Rattle.macroblock_chroma.specs.Code.{mode_for_both, levels_chroma, plane_step_chroma, record_from_chroma, coded_step_chroma}
use Rattle.macroblock_chroma.specs.Content.{cb_levels_in, cr_levels_in}
use Rattle.macroblock_chroma.specs.Rebuild.{prediction_chroma}
use Rattle.macroblock_chroma.proofs.CodedRecord.{BytesBoth, mode_said_chroma, cb_levels_said, cr_levels_said}
use Rattle.macroblock_chroma.proofs.Looks.{plane_step_chroma_law}
use Rattle.plane.specs.Code.{plane_before}
use Rattle.plane.specs.Decode.{rebuilt_from, cleared}
use Rattle.plane.proofs.Trip.{before_bytes, cleared_bytes}
use Rattle.frame.specs.Code.{both_before, both_cleared}
use Rattle.frame.proofs.Trip.{both_bytes}

pub cleared_long : (n : ℕ) → length (cleared n) ≡ n
cleared_long n = length_tab {A = ℕ} n (λ k. 0)

-- ---- luma, coded

-- block b of macroblock m beside its neighbours in the rebuilt plane: mode and levels in its record, and its samples in that plane
pub record CodedAt (l : Layout) (qp : ℕ) (original rebuilt : List ℕ) (m : ℕ) (part : List ℕ) (b : ℕ) : Type 0 where
  pub near : Bytes (gathered 4 l m b rebuilt)
  pub own : Bytes (block_of 4 l m b original)
  pub mode : mode_in b part ≡ coded_mode (round_of l m b (gathered 4 l m b rebuilt)) (block_of 4 l m b original)
  pub levels : levels_in b part ≡ coded_levels qp (round_of l m b (gathered 4 l m b rebuilt)) (block_of 4 l m b original)
  pub samples : block_of 4 l m b rebuilt ≡ coded_samples qp (round_of l m b (gathered 4 l m b rebuilt)) (block_of 4 l m b original)

module _ (l : Layout) (some : 0 < l.width) (qp : ℕ) (legal : qp ≤ highest) (original : List ℕ) (bytes : Bytes original) where
  -- the rebuilt plane before macroblock m, and as it is left
  abbrev before : ℕ → List ℕ
  before m = plane_before l qp original (cleared (plane_length 16 l)) m

  abbrev left : List ℕ
  left = before (count_of l)

  bytes_before : (m : ℕ) → Bytes (before m)
  bytes_before = before_bytes l qp legal original (cleared (plane_length 16 l)) bytes (cleared_bytes _)

  module _ (m : ℕ) (among : m < count_of l) where
    abbrev part : List ℕ
    part = record_from l qp original m (before m)

    -- a record is of the kind that was taken
    kind_taken : is_whole part ≡ together l qp original m (before m)
    unfolding record_from
    kind_taken = by (together l qp original m (before m))
      where
        by : (t : Bool) → is_whole (cond t (record_from16 l qp original m (before m)) (record_from4 l qp original m (before m))) ≡ t
        by true = is_whole_from16 l qp original m (before m)
        by false = not_whole_from4 l qp original m (before m)

    module _ (kind : is_whole part ≡ false) where
      apart : together l qp original m (before m) ≡ false
      apart = sym kind_taken ∙ kind

      four : part ≡ record_from4 l qp original m (before m)
      unfolding record_from
      four = rw apart

      makes : coded_step l qp original m (before m) ≡ first_turns 4 (samples_from l qp original) l m 16 (before m)
      unfolding coded_step coded_step4 block_count
      makes = rw apart

      sees : (b : ℕ) → b < 16 → gathered 4 l m b left ≡ seen l qp original m (before m) b
      unfolding plane_before seen
      sees b h =
          sees_left (samples_from l qp original) l some m among (coded_step l qp original) (λ k n. coded_step_law l some k n qp original) (cleared (plane_length 16 l)) (cleared_long _) makes b h

      stands : (b : ℕ) → b < 16 → block_of 4 l m b left ≡ samples_from l qp original m b (seen l qp original m (before m) b)
      unfolding plane_before seen samples_from
      stands b h =
          block_left (samples_from l qp original) l some m among (coded_step l qp original) (λ k n. coded_step_law l some k n qp original) (cleared (plane_length 16 l)) (cleared_long _) makes b h
          (length_samples _ _)

      pub coded_at : (b : ℕ) → b < 16 → CodedAt l qp original left m part b
      unfolding mode_from levels_from samples_from
      coded_at b h =
          let e = sym (sees b h) in
          record {
            near = gathered_bytes 4 l m b left (bytes_before (count_of l));
            own = block_bytes 4 (stride 16 l) (block_column l m b) (block_row l m b) original bytes;
            mode = ap (mode_in b) four ∙ mode_said l qp legal original bytes m (before m) (bytes_before m) b h ∙ ap (mode_from l original m b) e;
            levels = ap (levels_in b) four ∙ levels_said l qp legal original bytes m (before m) (bytes_before m) b h ∙ ap (levels_from l qp original m b) e;
            samples = stands b h ∙ ap (samples_from l qp original m b) e;
          }

    module _ (kind : is_whole part ≡ true) where
      -- the mode that the record has, and what stands round the macroblock
      abbrev mode : ℕ
      mode = whole_mode_in part

      abbrev around : List ℕ
      around = gathered_round 16 l m left

      whole : part ≡ record_from16 l qp original m (before m)
      unfolding record_from
      whole = let e : together l qp original m (before m) ≡ true = sym kind_taken ∙ kind in rw e

      around_left : around ≡ gathered_round 16 l m (before m)
      unfolding plane_before
      around_left =
          looks_left 16 (omega arith) l some (coded_step l qp original) (λ k n. coded_step_law l some k n qp original) (cleared (plane_length 16 l)) (cleared_long _) m among
          (gathered_round 16 l m) (gathered_round_looks l some m among 16 (omega arith))

      mode_whole : mode ≡ mode_from16 l original m (gathered_round 16 l m (before m))
      mode_whole = ap whole_mode_in whole ∙ mode_said16 l qp original m (before m)

      pub near_whole : Bytes (samples_of (predicted (round_whole l m around) mode))
      near_whole = predicted_bytes around (flags_round 16 l m) (gathered_round_bytes 16 l m left (bytes_before (count_of l))) mode

      pub levels_whole : whole_levels_in part ≡ whole_levels 16 qp (whole_of 16 l m original) (samples_of (predicted (round_whole l m around) mode))
      unfolding levels_from16 prediction_from16
      levels_whole =
          ap whole_levels_in whole ∙ levels_said16 l qp original m (before m) legal bytes (bytes_before m)
          ∙ (λ i. whole_levels 16 qp (whole_of 16 l m original) (samples_of (predicted (round_whole l m (sym around_left i)) (sym mode_whole i))))

-- ---- chroma, coded

-- one plane, whatever its modes
module _ (l : Layout) (some : 0 < l.width) (number : ℕ) (plane : List ℕ) (mode : ℕ → ℕ) where
  abbrev stepped : ℕ → List ℕ
  stepped m = fold m (λ k. plane_step_chroma l number plane (mode k) k) (cleared (plane_length 8 l))

  around_plane : (m : ℕ) → m < count_of l → gathered_round 8 l m (stepped (count_of l)) ≡ gathered_round 8 l m (stepped m)
  around_plane m h =
      looks_left 8 (omega arith) l some (λ k. plane_step_chroma l number plane (mode k) k) (λ k n. plane_step_chroma_law l some k n number plane (mode k)) (cleared (plane_length 8 l)) (cleared_long _) m h
      (gathered_round 8 l m) (gathered_round_looks l some m h 8 (omega arith))

-- it is predicted by bytes
pub near_chroma : (l : Layout) (mode m : ℕ) (plane : List ℕ) → Bytes plane → Bytes (prediction_chroma l mode m (gathered_round 8 l m plane))
unfolding prediction_chroma
near_chroma l mode m plane bytes = chroma.predicted_bytes (gathered_round 8 l m plane) (flags_round 8 l m) (gathered_round_bytes 8 l m plane bytes) mode

module _ (l : Layout) (some : 0 < l.width) (qp : ℕ) (cb_offset cr_offset : ℤ) (original : Both) (bytes : BytesBoth original) where
  -- the rebuilt planes before macroblock m
  abbrev both : ℕ → Both
  both m = both_before l qp cb_offset cr_offset original (both_cleared l) m

  pub bytes_left : (m : ℕ) → BytesBoth (both m)
  bytes_left = both_bytes l qp cb_offset cr_offset original (both_cleared l) (record { cbs = cleared_bytes _; crs = cleared_bytes _ })

  -- each of them by itself, of the modes of both
  cb_run : (m : ℕ) → (both m).cb ≡ stepped l some (chroma_of qp cb_offset) original.cb (λ k. mode_for_both l original k (both k)) m
  unfolding both_before fold coded_step_chroma
  cb_run zero = refl
  cb_run (suc m) = ap (plane_step_chroma l (chroma_of qp cb_offset) original.cb (mode_for_both l original m (both m)) m) (cb_run m)

  cr_run : (m : ℕ) → (both m).cr ≡ stepped l some (chroma_of qp cr_offset) original.cr (λ k. mode_for_both l original k (both k)) m
  unfolding both_before fold coded_step_chroma
  cr_run zero = refl
  cr_run (suc m) = ap (plane_step_chroma l (chroma_of qp cr_offset) original.cr (mode_for_both l original m (both m)) m) (cr_run m)

  module _ (m : ℕ) (among : m < count_of l) where
    abbrev part_chroma : List ℕ
    part_chroma = record_from_chroma l qp cb_offset cr_offset original m (both m)

    cb_around_law : gathered_round 8 l m (both (count_of l)).cb ≡ gathered_round 8 l m (both m).cb
    cb_around_law =
        ap (gathered_round 8 l m) (cb_run (count_of l))
        ∙ around_plane l some (chroma_of qp cb_offset) original.cb (λ k. mode_for_both l original k (both k)) m among
        ∙ sym (ap (gathered_round 8 l m) (cb_run m))

    cr_around_law : gathered_round 8 l m (both (count_of l)).cr ≡ gathered_round 8 l m (both m).cr
    cr_around_law =
        ap (gathered_round 8 l m) (cr_run (count_of l))
        ∙ around_plane l some (chroma_of qp cr_offset) original.cr (λ k. mode_for_both l original k (both k)) m among
        ∙ sym (ap (gathered_round 8 l m) (cr_run m))

    pub cb_levels : cb_levels_in part_chroma
        ≡ whole_levels 8 (chroma_of qp cb_offset) (whole_of 8 l m original.cb) (prediction_chroma l (chroma_mode_in part_chroma) m (gathered_round 8 l m (both (count_of l)).cb))
    unfolding levels_chroma
    cb_levels =
        cb_levels_said l qp cb_offset cr_offset original m (both m) bytes (bytes_left m)
        ∙ (λ i. whole_levels 8 (chroma_of qp cb_offset) (whole_of 8 l m original.cb) (prediction_chroma l (sym (mode_said_chroma l qp cb_offset cr_offset original m (both m)) i) m (sym cb_around_law i)))

    pub cr_levels : cr_levels_in part_chroma
        ≡ whole_levels 8 (chroma_of qp cr_offset) (whole_of 8 l m original.cr) (prediction_chroma l (chroma_mode_in part_chroma) m (gathered_round 8 l m (both (count_of l)).cr))
    unfolding levels_chroma
    cr_levels =
        cr_levels_said l qp cb_offset cr_offset original m (both m) bytes (bytes_left m)
        ∙ (λ i. whole_levels 8 (chroma_of qp cr_offset) (whole_of 8 l m original.cr) (prediction_chroma l (sym (mode_said_chroma l qp cb_offset cr_offset original m (both m)) i) m (sym cr_around_law i)))

-- ---- luma, decoded

-- block b of macroblock m by its record, beside its neighbours in the plane: its mode is permitted, its rescaled numbers are in range, and its samples
pub record DecodedAt (l : Layout) (plane : List ℕ) (m : ℕ) (part : List ℕ) (b : ℕ) : Type 0 where
  pub mode : mode_holds l m part b ≡ true
  pub range : range_holds part b ≡ true
  pub samples : block_of 4 l m b plane ≡ block_from l part m b (gathered 4 l m b plane)

module _ (l : Layout) (some : 0 < l.width) (records : ℕ → List ℕ) (m : ℕ) (among : m < count_of l) (kind : is_whole (records m) ≡ false) where
  abbrev decoded_left : List ℕ
  decoded_left = rebuilt_from l records (cleared (plane_length 16 l))

  rebuilds : (plane : List ℕ) → rebuilt_step l m (records m) plane ≡ first_turns 4 (block_from l (records m)) l m 16 plane
  unfolding rebuilt_step4 block_count
  rebuilds plane = rebuilt_fours l m (records m) plane kind

  rebuilt_left : (b : ℕ) → b < 16 → block_of 4 l m b decoded_left ≡ block_from l (records m) m b (gathered 4 l m b decoded_left)
  unfolding rebuilt_from block_from
  rebuilt_left b h =
      block_left (block_from l (records m)) l some m among (λ k. rebuilt_step l k (records k)) (λ k n. rebuilt_step_law l some k n (records k)) (cleared (plane_length 16 l)) (cleared_long _) (rebuilds _) b h
      (length_samples _ _)
      ∙ ap (block_from l (records m) m b)
      (sym (sees_left (block_from l (records m)) l some m among (λ k. rebuilt_step l k (records k)) (λ k n. rebuilt_step_law l some k n (records k)) (cleared (plane_length 16 l)) (cleared_long _) (rebuilds _) b h))

  pub decoded_at : chain (content_tests l m (records m)) ≡ pass → (b : ℕ) → b < 16 → DecodedAt l decoded_left m (records m) b
  decoded_at passed b h =
      let f : Fine l m (records m) = fine l m (records m) (sym (ap chain (tests_fours l m (records m) kind)) ∙ passed) in
      record { mode = f.modes b h; range = f.ranges b h; samples = rebuilt_left b h }
