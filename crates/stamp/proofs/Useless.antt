-- The four useless builds (`specs/Useless`). The evaluations are those of the crates below.
--     fb_one_accepted, fb_vertical_chosen, fb_levels_not_zero, fb_rebuilt_not_grey, fb_plane_written, fb_decoded_written, fb_file_written,
--     fb_own_record, fb_own_number, fb_record_not_copied, fb_levels_not_copied, fb_own_luma_record, fb_own_chroma_record,
--     fb_chroma_levels_not_copied     the claims of these names
--     useless_shut_out     all claims
-- Assumes nothing.
use mathlib.Core.Path.{◌≡◌, refl, sym, ap, ◌∙◌}
use mathlib.Core.List.{List}
use Prim.Native.Nat.{ℕ, ◌*◌}
use native.Mathlib.Omega.{arith}
use lib.IntN.{pos}
use lib.ListN.{length, get_or, replicate}
use Rattle.lists.specs.Chain.{pass, chain}
use Rattle.lists.specs.Fold.{fold}
use Rattle.lists.specs.Tab.{tab, grid}
use Rattle.lists.proofs.Chain.{chain_exactly_if}
use Rattle.lists.proofs.Tab.{length_tab}
use Rattle.intra4.specs.Choice.{Best}
use Rattle.block.proofs.Witness.{vertical_chosen, example_levels, rebuilt_is_not_original}
use Rattle.head.specs.Entry.{size_holds, rows_hold}
use Rattle.whole.specs.Range.{inside}
use Rattle.quantizer.specs.Chroma.{chroma_of}
use Rattle.record.specs.Kinds.{in_chroma, expected_in}
use Rattle.record.specs.Records.{number_in, level_in, level_with}
use Rattle.picture.specs.Both.{Both, pair}
use Rattle.picture.specs.Plane.{plane_length}
use Rattle.picture.proofs.Macroblocks.{slice_is, seen_before}
use Rattle.picture.proofs.Owner.{macroblock_owning}
use Rattle.macroblock.specs.Code.{record_from}
use Rattle.macroblock.proofs.Looks.{coded_step_law, record_looks}
use Rattle.macroblock_chroma.specs.Code.{record_from_chroma, coded_step_chroma}
use Rattle.macroblock_chroma.proofs.Looks.{plane_step_chroma_law, record_looks_chroma}
use Rattle.plane.specs.Code.{in_slices, behind_head, plane_before, coded_file}
use Rattle.plane.specs.Decode.{record_in, luma_in, chroma_in, cleared}
use Rattle.plane.proofs.CodedFile.{own_on}
use Rattle.plane.proofs.CodedOutcome.{outcome}
use Rattle.plane.proofs.Entry.{macroblocks_some}
use Rattle.plane.proofs.OwnWitness.{grey_written, rest_kept}
use Rattle.plane.proofs.Trip.{own_record_in}
use Rattle.plane.proofs.Witness.{one_is_accepted}
use Rattle.frame.specs.Code.{both_before, both_cleared}
use Rattle.frame.proofs.FrameOutcome.{frame_outcome}
use Rattle.frame.proofs.Trip.{frame_luma_in, frame_chroma_in}
use Rattle.fleecebutton.specs.Sends.{CodeBlockSends, CodePlaneSends}
use Rattle.fleecebutton.specs.Word.{choice_value}
use Rattle.fleecebutton.proofs.Told.{done_word}
use Rattle.stamp.specs.Answers.{Succeeds}
use Rattle.stamp.specs.Calls.{fb_code_block, fb_code_plane, fb_code_picture, CallOf, Contents, word, given, before, after}
use Rattle.stamp.specs.Demand1.{tests_of}
use Rattle.stamp.specs.Useless as paper
use Rattle.stamp.specs.Unseen.{picture_given}
use Rattle.stamp.specs.Useless.{PlaneAt, above, above_chroma, UselessClaim, Useless}
use Rattle.stamp.proofs.Demand1.{fb_answers}
use Rattle.stamp.proofs.Demand2.{fb_plane_agrees}
use Rattle.stamp.proofs.Sent.{PlaneCoded, sent_plane, sent_picture}
use Rattle.stamp.proofs.Witness.{above_grey, below_light, above_grey_chroma, below_light_chroma}

-- ---- the readings at a named input

module _ (g : (Contents fb_code_plane).0) (o : (Contents fb_code_plane).1) (c : CallOf fb_code_plane) (e : (given c ≡ g) × (before c ≡ o)) where
  accepted : chain (tests_of fb_code_plane g o) ≡ pass → Succeeds (word c)
  accepted v =
      let s : CodePlaneSends g.width g.height g.rows g.qp g.plane o.file o.rebuilt (word c) (after c).file (after c).rebuilt =
      coe 0 1 (i. CodePlaneSends (e.0 i).width (e.0 i).height (e.0 i).rows (e.0 i).qp (e.0 i).plane (e.1 i).file (e.1 i).rebuilt
      (word c) (after c).file (after c).rebuilt) c.call.learnt in
      done_word (tests_of fb_code_plane g o) (length (coded_file (in_slices g.width g.height g.rows) g.qp g.plane)) s.word v

  coded : Succeeds (word c) → PlaneCoded g o (word c) (after c)
  coded d = coe 0 1 (i. PlaneCoded (e.0 i) (e.1 i) (word c) (after c)) (sent_plane c d)

module _ (g : (Contents fb_code_block).0) (o : (Contents fb_code_block).1) (c : CallOf fb_code_block) (e : (given c ≡ g) × (before c ≡ o)) where
  block_at : CodeBlockSends g.qp g.flags g.neighbours g.samples o.levels o.rebuilt (word c) (after c).levels (after c).rebuilt
  block_at =
      coe 0 1 (i. CodeBlockSends (e.0 i).qp (e.0 i).flags (e.0 i).neighbours (e.0 i).samples (e.1 i).levels (e.1 i).rebuilt
      (word c) (after c).levels (after c).rebuilt) c.call.learnt

-- ---- refuses everything

pub fb_one_accepted : Useless paper.fb_one_accepted
fb_one_accepted c e = accepted _ _ c e one_is_accepted

-- ---- gives DC, zeros and grey always

pub fb_vertical_chosen : Useless paper.fb_vertical_chosen
fb_vertical_chosen c e = (block_at _ _ c e).word ∙ ap (λ (b : Best). 256 * choice_value b) vertical_chosen

pub fb_levels_not_zero : Useless paper.fb_levels_not_zero
fb_levels_not_zero c e = (block_at _ _ c e).levels ∙ example_levels

pub fb_rebuilt_not_grey : Useless paper.fb_rebuilt_not_grey
fb_rebuilt_not_grey c e = (block_at _ _ c e).rebuilt ∙ rebuilt_is_not_original

-- ---- writes nothing

grey_accepted : (c : CallOf fb_code_plane) → PlaneAt 1 28 (replicate 256 138) 535 c → Succeeds (word c)
unfolding size_holds rows_hold
grey_accepted c e = accepted _ _ c e refl

pub fb_plane_written : Useless paper.fb_plane_written
fb_plane_written c e = grey_written _ _ _ (coded _ _ c e (grey_accepted c e))

pub fb_decoded_written : Useless paper.fb_decoded_written
fb_decoded_written c e d file room =
    let long : length (before d) ≡ plane_length 16 (in_slices (given c).width (given c).height (given c).rows) =
    ap length room ∙ (λ i. plane_length 16 (in_slices (sym e.0 i).width (sym e.0 i).height (sym e.0 i).rows)) in
    ap (λ (p : List ℕ). get_or p 0 0) (fb_plane_agrees c d (grey_accepted c e) file long).1 ∙ fb_plane_written c e

pub fb_file_written : Useless paper.fb_file_written
unfolding size_holds rows_hold grid tab
fb_file_written c e = rest_kept _ _ _ (coded _ _ c e (accepted _ _ c e refl))

-- ---- codes macroblock 0 and copies it onward

pub fb_own_record : Useless paper.fb_own_record
fb_own_record c d m h =
    let g = given c in
    let l = in_slices g.width g.height g.rows in
    ap (λ (file : List ℕ). record_in file (behind_head l) m) (outcome _ _ _ _ _ _ _ _ _ _ (sent_plane c d)).filed
    ∙ own_record_in l g.qp g.plane (cleared (plane_length 16 l)) m h

pub fb_own_number : Useless paper.fb_own_number
unfolding expected_in
fb_own_number c d m h =
    let g = given c in
    let l = in_slices g.width g.height g.rows in
    ap number_in (fb_own_record c d m h) ∙ (own_on l g.qp g.plane (cleared (plane_length 16 l)) m).numbered

pub fb_record_not_copied : Useless paper.fb_record_not_copied
unfolding size_holds rows_hold tab
fb_record_not_copied c e =
    let d = accepted _ _ c e refl in
    let count : 2 ≡ (given c).width * (given c).height = λ i. (sym e.0 i).width * (sym e.0 i).height in
    (fb_own_number c d 0 (omega (arith, count)), fb_own_number c d 1 (omega (arith, count)))

-- macroblock 1 is a slice by itself and sees nothing, so its record is that from a plane of zeros
below_alone : record_from (in_slices 1 2 1) 28 (above 128 138) 1 (plane_before (in_slices 1 2 1) 28 (above 128 138) (cleared 512) 1) ≡ record_from (in_slices 1 2 1) 28 (above 128 138) 1 (cleared 512)
unfolding plane_before fold
below_alone =
    let l = in_slices 1 2 1 in
    let long = length_tab {A = ℕ} 512 (λ k. 0) in
    record_looks l (omega arith) 1 (omega arith) 28 (above 128 138) _ _
    (record {
      this = (coded_step_law l (omega arith) 0 (omega arith) 28 (above 128 138)).long (cleared 512) ∙ long;
      that = long;
      agree = λ i h v. absurd (omega (arith, slice_is l 1 (macroblock_owning 16 l i) v.0, seen_before 16 l 1 i v));
    })

-- record m of any call with this input
abbrev stacked_record : (g : (Contents fb_code_plane).0) → ℕ → List ℕ
stacked_record g m =
    let l = in_slices g.width g.height g.rows in
    record_from l g.qp g.plane m (plane_before l g.qp g.plane (cleared (plane_length 16 l)) m)

pub fb_levels_not_copied : Useless paper.fb_levels_not_copied
unfolding size_holds rows_hold plane_before fold
fb_levels_not_copied c e =
    let d = accepted _ _ c e refl in
    let count : 2 ≡ (given c).width * (given c).height = λ i. (sym e.0 i).width * (sym e.0 i).height in (
      ap (level_in 0 0) (fb_own_record c d 0 (omega (arith, count)) ∙ (λ i. stacked_record (e.0 i) 0)) ∙ above_grey,
      ap (level_in 0 0) (fb_own_record c d 1 (omega (arith, count)) ∙ (λ i. stacked_record (e.0 i) 1) ∙ below_alone) ∙ below_light,
    )

pub fb_own_luma_record : Useless paper.fb_own_luma_record
fb_own_luma_record c d m h =
    let g = given c in
    let l = picture_given c in
    let o = frame_outcome _ _ _ _ _ _ _ _ _ _ _ _ _ _ _ _ _ _ (sent_picture c d) in
    ap (λ (f : List ℕ). luma_in f (behind_head l) m) o.filed
    ∙ frame_luma_in l g.qp g.cb_offset g.cr_offset g.luma (pair g.cb g.cr) (cleared (plane_length 16 l)) (both_cleared l) (macroblocks_some g.width g.height o.size) m h

pub fb_own_chroma_record : Useless paper.fb_own_chroma_record
fb_own_chroma_record c d m h =
    let g = given c in
    let l = picture_given c in
    let o = frame_outcome _ _ _ _ _ _ _ _ _ _ _ _ _ _ _ _ _ _ (sent_picture c d) in
    ap (λ (f : List ℕ). chroma_in f (behind_head l) m) o.filed
    ∙ frame_chroma_in l g.qp g.cb_offset g.cr_offset g.luma (pair g.cb g.cr) (cleared (plane_length 16 l)) (both_cleared l) (macroblocks_some g.width g.height o.size) m h

abbrev stacked_chroma : Both
stacked_chroma = pair (above_chroma 128 138) (above_chroma 128 138)

below_alone_chroma : record_from_chroma (in_slices 1 2 1) 28 (pos 0) (pos 0) stacked_chroma 1 (both_before (in_slices 1 2 1) 28 (pos 0) (pos 0) stacked_chroma (both_cleared (in_slices 1 2 1)) 1)
    ≡ record_from_chroma (in_slices 1 2 1) 28 (pos 0) (pos 0) stacked_chroma 1 (both_cleared (in_slices 1 2 1))
unfolding both_before fold coded_step_chroma
below_alone_chroma =
    let l = in_slices 1 2 1 in
    let long = length_tab {A = ℕ} 128 (λ k. 0) in
    record_looks_chroma l (omega arith) 1 (omega arith) stacked_chroma 28 (pos 0) (pos 0) _ _
    (record {
      cbs = record {
        this = (plane_step_chroma_law l (omega arith) 0 (omega arith) (chroma_of 28 (pos 0)) (above_chroma 128 138) _).long (cleared 128) ∙ long;
        that = long;
        agree = λ i h v. absurd (omega (arith, slice_is l 1 (macroblock_owning 8 l i) v.0, seen_before 8 l 1 i v));
      };
      crs = record {
        this = (plane_step_chroma_law l (omega arith) 0 (omega arith) (chroma_of 28 (pos 0)) (above_chroma 128 138) _).long (cleared 128) ∙ long;
        that = long;
        agree = λ i h v. absurd (omega (arith, slice_is l 1 (macroblock_owning 8 l i) v.0, seen_before 8 l 1 i v));
      };
    })

-- chroma record m of any call with this input
abbrev stacked_record_chroma : (g : (Contents fb_code_picture).0) → ℕ → List ℕ
stacked_record_chroma g m =
    let l = in_slices g.width g.height g.rows in
    let chroma = pair g.cb g.cr in
    record_from_chroma l g.qp g.cb_offset g.cr_offset chroma m (both_before l g.qp g.cb_offset g.cr_offset chroma (both_cleared l) m)

accepted_picture : (g : (Contents fb_code_picture).0) (o : (Contents fb_code_picture).1) (c : CallOf fb_code_picture) → (given c ≡ g) × (before c ≡ o)
    → chain (tests_of fb_code_picture g o) ≡ pass → Succeeds (word c)
accepted_picture g o c e v =
    (fb_answers fb_code_picture c).0.done.1 ((chain_exactly_if (tests_of fb_code_picture (given c) (before c))).passes.0 ((λ i. chain (tests_of fb_code_picture (e.0 i) (e.1 i))) ∙ v))

pub fb_chroma_levels_not_copied : Useless paper.fb_chroma_levels_not_copied
unfolding size_holds rows_hold inside both_before fold
fb_chroma_levels_not_copied c e =
    let d = accepted_picture _ _ c e refl in
    let count : 2 ≡ (given c).width * (given c).height = λ i. (sym e.0 i).width * (sym e.0 i).height in (
      ap (level_with in_chroma 0) (fb_own_chroma_record c d 0 (omega (arith, count)) ∙ (λ i. stacked_record_chroma (e.0 i) 0)) ∙ above_grey_chroma,
      ap (level_with in_chroma 0) (fb_own_chroma_record c d 1 (omega (arith, count)) ∙ (λ i. stacked_record_chroma (e.0 i) 1) ∙ below_alone_chroma) ∙ below_light_chroma,
    )

pub useless_shut_out : (k : UselessClaim) → Useless k
useless_shut_out paper.fb_one_accepted = fb_one_accepted
useless_shut_out paper.fb_vertical_chosen = fb_vertical_chosen
useless_shut_out paper.fb_levels_not_zero = fb_levels_not_zero
useless_shut_out paper.fb_rebuilt_not_grey = fb_rebuilt_not_grey
useless_shut_out paper.fb_plane_written = fb_plane_written
useless_shut_out paper.fb_decoded_written = fb_decoded_written
useless_shut_out paper.fb_file_written = fb_file_written
useless_shut_out paper.fb_own_record = fb_own_record
useless_shut_out paper.fb_own_number = fb_own_number
useless_shut_out paper.fb_record_not_copied = fb_record_not_copied
useless_shut_out paper.fb_levels_not_copied = fb_levels_not_copied
useless_shut_out paper.fb_own_luma_record = fb_own_luma_record
useless_shut_out paper.fb_own_chroma_record = fb_own_chroma_record
useless_shut_out paper.fb_chroma_levels_not_copied = fb_chroma_levels_not_copied
