-- What stood in the rebuilt planes, and in the file area, has no value for the coder.
--     code_picture_start_has_no_value     the file and the rebuilt planes are the same from any planes of the picture's lengths
--     code_picture_entry_has_no_value     two calls that were lent other areas use as many bytes, and leave the same in these and in the planes
-- Assumes nothing.
use mathlib.Core.Path.{◌≡◌, sym, ap, ◌∙◌}
use mathlib.Core.List.{List, ◌++◌}
use Prim.Native.Nat.{ℕ, ◌<◌}
use native.Mathlib.Omega.{arith}
use lib.IntN.{ℤ}
use lib.ListN.{length, take}
use Rattle.lists.proofs.Parts.{parts_same}
use Rattle.picture.specs.declared.Layout.{Layout}
use Rattle.picture.specs.Both.{Both}
use Rattle.picture.specs.Order.{count_of}
use Rattle.picture.specs.Plane.{plane_length}
use Rattle.picture.proofs.Both.{LongBoth}
use Rattle.picture.proofs.Steps.{steps_agree}
use Rattle.macroblock.specs.Code.{coded_step}
use Rattle.macroblock.proofs.Looks.{coded_step_law, record_looks}
use Rattle.macroblock_chroma.proofs.Looks.{chroma_start_has_no_value, chroma_records_start_has_no_value}
use Rattle.plane.specs.Code.{head_for, plane_before, plane_from}
use Rattle.plane.proofs.CodedStart.{code_plane_start_has_no_value}
use Rattle.frame.specs.Code.{both_before, both_from, records_on, frame_from, CodesPicture}
use Rattle.frame.proofs.FrameOutcome.{frame_outcome}
use Rattle.std.specs.Prelude.{Ok}

module _ (l : Layout) (some : 0 < l.width) (qp : ℕ) (cb_offset cr_offset : ℤ) (luma : List ℕ) (chroma : Both)
    (p q : List ℕ) (this : length p ≡ plane_length 16 l) (that : length q ≡ plane_length 16 l) (b c : Both) (these : LongBoth 8 l b) (those : LongBoth 8 l c)
  where
    same_both : both_from l qp cb_offset cr_offset chroma b ≡ both_from l qp cb_offset cr_offset chroma c
    unfolding both_before
    same_both = chroma_start_has_no_value l some qp cb_offset cr_offset chroma b these c those

    same_records : (m : ℕ) → m < count_of l → records_on l qp cb_offset cr_offset luma chroma p b m ≡ records_on l qp cb_offset cr_offset luma chroma q c m
    unfolding plane_before both_before
    same_records m h =
        let luma-same =
        record_looks l some m h qp luma _ _ (steps_agree 16 (omega arith) l some (coded_step l qp luma) (λ k below. coded_step_law l some k below qp luma) m (omega arith) p q this that) in
        let chroma-same = chroma_records_start_has_no_value l some qp cb_offset cr_offset chroma b these c those m h in
        λ i. luma-same i ++ chroma-same i

    same_frame : frame_from l qp cb_offset cr_offset luma chroma p b ≡ frame_from l qp cb_offset cr_offset luma chroma q c
    unfolding frame_from
    same_frame = ap (λ (records : List ℕ). head_for l ++ records) (parts_same (count_of l) _ _ same_records)

    pub code_picture_start_has_no_value : (frame_from l qp cb_offset cr_offset luma chroma p b ≡ frame_from l qp cb_offset cr_offset luma chroma q c)
        × (plane_from l qp luma p ≡ plane_from l qp luma q)
        × (both_from l qp cb_offset cr_offset chroma b ≡ both_from l qp cb_offset cr_offset chroma c)
    code_picture_start_has_no_value = (same_frame, (code_plane_start_has_no_value l some qp luma p q this that).1, same_both)

-- ---- by the contract

pub code_picture_entry_has_no_value : (width height rows qp : ℕ) (cb_offset cr_offset : ℤ) (luma cb cr file lumaOut cbOut crOut other-file other-luma other-cb other-cr : List ℕ)
    (used other-used : ℕ) (file' lumaOut' cbOut' crOut' file'' lumaOut'' cbOut'' crOut'' : List ℕ)
    → CodesPicture width height rows qp cb_offset cr_offset luma cb cr file lumaOut cbOut crOut (Ok used) file' lumaOut' cbOut' crOut'
    → CodesPicture width height rows qp cb_offset cr_offset luma cb cr other-file other-luma other-cb other-cr (Ok other-used) file'' lumaOut'' cbOut'' crOut''
    → (used ≡ other-used) × (take used file' ≡ take other-used file'') × (lumaOut' ≡ lumaOut'') × (cbOut' ≡ cbOut'') × (crOut' ≡ crOut'')
code_picture_entry_has_no_value width height rows qp cb_offset cr_offset luma cb cr file lumaOut cbOut crOut other-file other-luma other-cb other-cr used other-used file' lumaOut' cbOut' crOut' file'' lumaOut'' cbOut'' crOut'' c d =
    let x = frame_outcome width height rows qp cb_offset cr_offset luma cb cr file lumaOut cbOut crOut used file' lumaOut' cbOut' crOut' c in
    let y = frame_outcome width height rows qp cb_offset cr_offset luma cb cr other-file other-luma other-cb other-cr other-used file'' lumaOut'' cbOut'' crOut'' d in
    (x.bytes ∙ sym y.bytes, x.filed ∙ sym y.filed, x.lumas ∙ sym y.lumas, x.cbs ∙ sym y.cbs, x.crs ∙ sym y.crs)
