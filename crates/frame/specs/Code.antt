-- Coding a picture: luma as `code_plane` codes it, and behind each luma record a chroma record (02, Req 05). Assumes nothing.
use Rattle.std.specs.Prelude.{◌≡◌, List, [], ◌∷◌, ◌++◌, ℕ, ◌+◌, ◌*◌, ℤ, length}
use Rattle.lists.specs.Chain.{Test, test, Verdict, chain, written}
use Rattle.lists.specs.Fold.{fold}
use Rattle.lists.specs.Parts.{parts, over}
use Rattle.refusal.specs.Number.{Says, said, value_back}
use Rattle.refusal.specs.Tests.{length_test}
use Rattle.refusal.specs.declared.Refusal.{Refusal}
use Rattle.refusal.specs.declared.Refusal.TheVariants as refusal
use Rattle.quantizer.specs.Range.{quantizer_test}
use Rattle.head.specs.Entry.{size_holds, rows_hold}
use Rattle.record.specs.Kinds.{in_fours, in_chroma, length_of}
use Rattle.picture.specs.declared.Layout.{Layout}
use Rattle.picture.specs.Both.{Both, pair}
use Rattle.picture.specs.Order.{count_of}
use Rattle.picture.specs.Plane.{plane_length}
use Rattle.macroblock.specs.Code.{record_from}
use Rattle.macroblock_chroma.specs.Code.{record_from_chroma, coded_step_chroma}
use Rattle.macroblock_chroma.specs.Content.{offset_test}
use Rattle.plane.specs.Code.{in_slices, head_for, behind_head, plane_before, coded_plane}
use Rattle.plane.specs.Decode.{cleared}
use Rattle.frame.specs.Decode.{planes_tests}
use Rattle.std.specs.Prelude.{Result}

-- ---- the picture, from rebuilt planes at the start

-- the rebuilt planes of chroma before macroblock m
unfoldable pub both_before : Layout → (qp : ℕ) → (cb_offset cr_offset : ℤ) → (original start : Both) → (m : ℕ) → Both
both_before l qp cb_offset cr_offset original start m = fold m (coded_step_chroma l qp cb_offset cr_offset original) start

-- and behind the last one
abbrev pub both_from : Layout → (qp : ℕ) → (cb_offset cr_offset : ℤ) → (original start : Both) → Both
both_from l qp cb_offset cr_offset original start = both_before l qp cb_offset cr_offset original start (count_of l)

-- macroblock m's two records, of the rebuilt planes as they stood before it: "A chroma record .. follows every luma record of a colour file"
abbrev pub records_from : Layout → (qp : ℕ) → (cb_offset cr_offset : ℤ) → (luma : List ℕ) → (chroma : Both) → (m : ℕ) → (before : List ℕ) → (both : Both) → List ℕ
records_from l qp cb_offset cr_offset luma chroma m before both = record_from l qp luma m before ++ record_from_chroma l qp cb_offset cr_offset chroma m both

abbrev pub records_on : Layout → (qp : ℕ) → (cb_offset cr_offset : ℤ) → (luma : List ℕ) → (chroma : Both) → (start : List ℕ) → (starts : Both) → (m : ℕ) → List ℕ
records_on l qp cb_offset cr_offset luma chroma start starts m =
    records_from l qp cb_offset cr_offset luma chroma m (plane_before l qp luma start m) (both_before l qp cb_offset cr_offset chroma starts m)

-- the file: the head, and these of each macroblock, in order
unfoldable pub frame_from : Layout → (qp : ℕ) → (cb_offset cr_offset : ℤ) → (luma : List ℕ) → (chroma : Both) → (start : List ℕ) → (starts : Both) → List ℕ
frame_from l qp cb_offset cr_offset luma chroma start starts = head_for l ++ parts (count_of l) (records_on l qp cb_offset cr_offset luma chroma start starts)

-- from planes that are cleared, of which nothing is ever seen (theorem `code_picture_start_has_no_value`)
abbrev pub both_cleared : Layout → Both
both_cleared l = pair (cleared (plane_length 8 l)) (cleared (plane_length 8 l))

abbrev pub coded_frame : Layout → (qp : ℕ) → (cb_offset cr_offset : ℤ) → (luma : List ℕ) → (chroma : Both) → List ℕ
coded_frame l qp cb_offset cr_offset luma chroma = frame_from l qp cb_offset cr_offset luma chroma (cleared (plane_length 16 l)) (both_cleared l)

abbrev pub coded_both : Layout → (qp : ℕ) → (cb_offset cr_offset : ℤ) → (chroma : Both) → Both
coded_both l qp cb_offset cr_offset chroma = both_from l qp cb_offset cr_offset chroma (both_cleared l)

-- ---- the entry point

-- "The area lent to the coder for the file counts 527 for each macroblock, with the head and any later list or chroma records this call
-- writes" (02, Req 01)
abbrev pub frame_area : Layout → ℕ
frame_area l = behind_head l + (length_of in_fours + length_of in_chroma) * count_of l

-- QUANTIZER: of the QP, "for either offset, Cb first"
abbrev pub quantizers_tests : (qp : ℕ) (cb_offset cr_offset : ℤ) → List (Test Refusal)
quantizers_tests qp cb_offset cr_offset = quantizer_test 0 qp ∷ offset_test 0 cb_offset ∷ offset_test 0 cr_offset ∷ []

-- LENGTH of the three planes, of the file area and of the planes to be rebuilt, then QUANTIZER
abbrev pub frame_tests : Layout → (qp : ℕ) (cb_offset cr_offset : ℤ) (luma cb cr file lumaOut cbOut crOut : ℕ) → List (Test Refusal)
frame_tests l qp cb_offset cr_offset luma cb cr file lumaOut cbOut crOut =
    planes_tests l luma cb cr
    ++ ((length_test (frame_area l) file ∷ planes_tests l lumaOut cbOut crOut)
    ++ quantizers_tests qp cb_offset cr_offset)

-- SIZE, LENGTH, QUANTIZER, as `code_plane` has them
abbrev pub code_picture_tests : (width height rows qp : ℕ) (cb_offset cr_offset : ℤ) (luma cb cr file lumaOut cbOut crOut : List ℕ) → List (Test Refusal)
code_picture_tests width height rows qp cb_offset cr_offset luma cb cr file lumaOut cbOut crOut =
    test (size_holds width height) refusal.Size
    ∷ test (rows_hold height rows) refusal.Size
    ∷ frame_tests (in_slices width height rows) qp cb_offset cr_offset (length luma) (length cb) (length cr) (length file) (length lumaOut) (length cbOut) (length crOut)

-- what is left of the file area and the rebuilt planes by a verdict; the answer is `code_plane`'s: how many bytes were used, or the refusal
pub record LeavesFrame (v : Verdict Refusal) (l : Layout) (qp : ℕ) (cb_offset cr_offset : ℤ) (luma : List ℕ) (chroma : Both) (file lumaOut cbOut crOut : List ℕ)
    (r : Result ℕ Refusal) (file' lumaOut' cbOut' crOut' : List ℕ) : Type 0 where
  pub says : Says (said r) v
  pub used : value_back r ≡ written v (length (coded_frame l qp cb_offset cr_offset luma chroma)) 0
  pub filed : file' ≡ written v (over (coded_frame l qp cb_offset cr_offset luma chroma) file) file
  pub lumas : lumaOut' ≡ written v (coded_plane l qp luma) lumaOut
  pub cbs : cbOut' ≡ written v (coded_both l qp cb_offset cr_offset chroma).cb cbOut
  pub crs : crOut' ≡ written v (coded_both l qp cb_offset cr_offset chroma).cr crOut

-- what `code_picture` makes of them as they were
abbrev pub CodesPicture : (width height rows qp : ℕ) (cb_offset cr_offset : ℤ) (luma cb cr file lumaOut cbOut crOut : List ℕ)
    (r : Result ℕ Refusal) (file' lumaOut' cbOut' crOut' : List ℕ) → Type 0
CodesPicture width height rows qp cb_offset cr_offset luma cb cr file lumaOut cbOut crOut r file' lumaOut' cbOut' crOut' =
    LeavesFrame (chain (code_picture_tests width height rows qp cb_offset cr_offset luma cb cr file lumaOut cbOut crOut)) (in_slices width height rows)
    qp cb_offset cr_offset luma (pair cb cr) file lumaOut cbOut crOut r file' lumaOut' cbOut' crOut'
