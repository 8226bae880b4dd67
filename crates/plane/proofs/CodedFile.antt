-- The file of a coded plane: the head and a record for each macroblock.
--     record_on, file_to: own_on, length_to     record m and what stands before it: its form is fine in a mono file; there is room for it in the area
--     length_file_from, length_coded_file     the file has at most the length that the area lent for it has
-- Assumes nothing.
use mathlib.Core.Bool.{false}
use mathlib.Core.List.{List, ◌++◌}
use Prim.Native.Nat.{ℕ, zero, suc, ◌+◌, ◌*◌, ◌≤◌}
use native.Mathlib.Omega.{arith}
use lib.ListN.{length, length-append}
use Rattle.lists.specs.Parts.{parts}
use Rattle.record.specs.Kinds.{in_fours, length_of, expected_in}
use Rattle.record.proofs.Back.{Own}
use Rattle.head.proofs.Back.{length_head}
use Rattle.picture.specs.declared.Layout.{Layout}
use Rattle.picture.specs.Order.{count_of}
use Rattle.picture.specs.Plane.{plane_length}
use Rattle.macroblock.specs.Code.{record_from}
use Rattle.macroblock.proofs.RecordFrom.{length_record_from, own_record_from}
use Rattle.plane.specs.Decode.{cleared}
use Rattle.plane.specs.Code.{head_for, behind_head, area_length, plane_before, file_from, coded_file}

module _ (l : Layout) (qp : ℕ) (original start : List ℕ) where
  -- record m of the file
  abbrev pub record_on : ℕ → List ℕ
  record_on m = record_from l qp original m (plane_before l qp original start m)

  -- the file before record m
  abbrev pub file_to : ℕ → List ℕ
  file_to m = head_for l ++ parts m record_on

  pub own_on : (m : ℕ) → Own (expected_in false m) (record_on m)
  unfolding expected_in
  own_on m = own_record_from l qp original m (plane_before l qp original start m)

  pub length_on : (m : ℕ) → length (record_on m) ≤ length_of in_fours
  length_on m = length_record_from l qp original m (plane_before l qp original start m)

  records_short : (m : ℕ) → length (parts m record_on) ≤ length_of in_fours * m
  unfolding parts
  records_short zero = omega arith
  records_short (suc m) = omega (arith, length-append (parts m record_on) (record_on m), records_short m, length_on m)

  pub length_to : (m : ℕ) → length (file_to m) ≤ behind_head l + length_of in_fours * m
  length_to m =
      omega (arith, length-append (head_for l) (parts m record_on), length_head l.width l.height l.rows, records_short m)

  pub length_file_from : length (file_from l qp original start) ≤ area_length l
  unfolding file_from
  length_file_from = length_to (count_of l)

pub length_coded_file : (l : Layout) (qp : ℕ) (original : List ℕ) → length (coded_file l qp original) ≤ area_length l
length_coded_file l qp original = length_file_from l qp original (cleared (plane_length 16 l))
