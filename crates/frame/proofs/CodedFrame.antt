-- The file of a coded picture: the head, and for each macroblock its luma record and its chroma record.
--     length_records_from                     a macroblock's two records have room in what the area counts for it
--     chroma_on, frame_to: own_luma_on, own_chroma_on, length_frame_to     both records of macroblock m, whose form is fine, and what stands before them
--     length_frame_from, length_coded_frame   the file has at most the length that the area lent for it has
-- Assumes nothing.
use mathlib.Core.List.{List, ◌++◌}
use Prim.Native.Nat.{ℕ, zero, suc, ◌+◌, ◌*◌, ◌≤◌}
use native.Mathlib.Omega.{arith}
use lib.IntN.{ℤ}
use lib.ListN.{length, length-append}
use Rattle.lists.specs.Parts.{parts}
use Rattle.record.specs.Kinds.{in_fours, in_chroma, length_of, expected_luma, expected_chroma}
use Rattle.record.proofs.Back.{Own}
use Rattle.head.proofs.Back.{length_head}
use Rattle.picture.specs.declared.Layout.{Layout}
use Rattle.picture.specs.Both.{Both}
use Rattle.picture.specs.Order.{count_of}
use Rattle.picture.specs.Plane.{plane_length}
use Rattle.macroblock.specs.Code.{record_from}
use Rattle.macroblock.proofs.RecordFrom.{length_record_from, own_record_from}
use Rattle.macroblock_chroma.specs.Code.{record_from_chroma}
use Rattle.macroblock_chroma.proofs.CodedRecord.{length_record_from_chroma, own_record_from_chroma}
use Rattle.plane.specs.Code.{head_for, behind_head, plane_before}
use Rattle.plane.specs.Decode.{cleared}
use Rattle.plane.proofs.CodedFile.{record_on}
use Rattle.frame.specs.Code.{records_from, records_on, both_before, frame_from, frame_area, coded_frame, both_cleared}

-- what the area counts for a macroblock
abbrev most : ℕ
most = length_of in_fours + length_of in_chroma

module _ (l : Layout) (qp : ℕ) (cb_offset cr_offset : ℤ) (luma : List ℕ) (chroma : Both) where
  pub length_records_from : (m : ℕ) (before : List ℕ) (both : Both) → length (records_from l qp cb_offset cr_offset luma chroma m before both) ≤ most
  length_records_from m before both =
      omega (
        arith,
        length-append (record_from l qp luma m before) (record_from_chroma l qp cb_offset cr_offset chroma m both),
        length_record_from l qp luma m before,
        length_record_from_chroma l qp cb_offset cr_offset chroma m both,
      )

  module _ (start : List ℕ) (starts : Both) where
    -- the chroma record of macroblock m; its luma record is that of the plane alone
    abbrev pub chroma_on : ℕ → List ℕ
    chroma_on m = record_from_chroma l qp cb_offset cr_offset chroma m (both_before l qp cb_offset cr_offset chroma starts m)

    -- the file before them
    abbrev pub frame_to : ℕ → List ℕ
    frame_to m = head_for l ++ parts m (records_on l qp cb_offset cr_offset luma chroma start starts)

    pub own_luma_on : (m : ℕ) → Own (expected_luma m) (record_on l qp luma start m)
    own_luma_on m = own_record_from l qp luma m (plane_before l qp luma start m)

    pub own_chroma_on : (m : ℕ) → Own (expected_chroma m) (chroma_on m)
    own_chroma_on m = own_record_from_chroma l qp cb_offset cr_offset chroma m (both_before l qp cb_offset cr_offset chroma starts m)

    pub length_records_on : (m : ℕ) → length (records_on l qp cb_offset cr_offset luma chroma start starts m) ≤ most
    length_records_on m = length_records_from m (plane_before l qp luma start m) (both_before l qp cb_offset cr_offset chroma starts m)

    records_short : (m : ℕ) → length (parts m (records_on l qp cb_offset cr_offset luma chroma start starts)) ≤ most * m
    unfolding parts
    records_short zero = omega arith
    records_short (suc m) =
        omega (
          arith,
          length-append (parts m (records_on l qp cb_offset cr_offset luma chroma start starts)) (records_on l qp cb_offset cr_offset luma chroma start starts m),
          records_short m,
          length_records_on m,
        )

    pub length_frame_to : (m : ℕ) → length (frame_to m) ≤ behind_head l + most * m
    length_frame_to m =
        omega (
          arith,
          length-append (head_for l) (parts m (records_on l qp cb_offset cr_offset luma chroma start starts)),
          length_head l.width l.height l.rows,
          records_short m,
        )

    pub length_frame_from : length (frame_from l qp cb_offset cr_offset luma chroma start starts) ≤ frame_area l
    unfolding frame_from
    length_frame_from = length_frame_to (count_of l)

  pub length_coded_frame : length (coded_frame l qp cb_offset cr_offset luma chroma) ≤ frame_area l
  length_coded_frame = length_frame_from (cleared (plane_length 16 l)) (both_cleared l)
