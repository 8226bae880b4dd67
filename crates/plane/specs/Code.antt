-- Coding a plane: "Coding a plane writes the file and the rebuilt plane. .. Neighbours are rebuilt samples. One QP per picture when coding"
-- (01, "Plane and record file"). Assumes nothing.
use Rattle.std.specs.Prelude.{◌≡◌, List, [], ◌∷◌, ◌++◌, ℕ, ◌+◌, ◌*◌, length}
use Rattle.lists.specs.Chain.{Test, test, Verdict, chain, written}
use Rattle.lists.specs.Fold.{fold}
use Rattle.lists.specs.Parts.{parts, over}
use Rattle.refusal.specs.Number.{said, value_back, Says}
use Rattle.refusal.specs.Tests.{length_test}
use Rattle.refusal.specs.declared.Refusal.{Refusal}
use Rattle.refusal.specs.declared.Refusal.TheVariants as refusal
use Rattle.quantizer.specs.Range.{quantizer_test}
use Rattle.head.specs.Entry.{size_holds, rows_hold}
use Rattle.head.specs.Heads.{head_of, head_length}
use Rattle.record.specs.Kinds.{in_fours, length_of}
use Rattle.picture.specs.declared.Layout.{Layout}
use Rattle.picture.specs.Order.{count_of}
use Rattle.picture.specs.Plane.{plane_length}
use Rattle.macroblock.specs.Code.{record_from, coded_step}
use Rattle.plane.specs.Decode.{cleared}
use Rattle.std.specs.Prelude.{Result}

-- the picture of a size in slices: "a run of n whole macroblock rows; the last may be shorter" (02, Req 02)
abbrev pub in_slices : (width height rows : ℕ) → Layout
in_slices width height rows = record { width = width; height = height; rows = rows }

-- its head, and where the records begin
abbrev pub head_for : Layout → List ℕ
head_for l = head_of l.width l.height l.rows

abbrev pub behind_head : Layout → ℕ
behind_head l = head_length l.height l.rows

-- ---- the picture, from a rebuilt plane at the start

-- the rebuilt plane before macroblock m: "Macroblocks go in raster order"
unfoldable pub plane_before : Layout → (qp : ℕ) → List ℕ → (start : List ℕ) → (m : ℕ) → List ℕ
plane_before l qp original start m = fold m (coded_step l qp original) start

-- and behind the last one, "the rebuilt plane"
abbrev pub plane_from : Layout → (qp : ℕ) → List ℕ → (start : List ℕ) → List ℕ
plane_from l qp original start = plane_before l qp original start (count_of l)

-- "The file is the head and each macroblock once, in order, nothing after"
unfoldable pub file_from : Layout → (qp : ℕ) → List ℕ → (start : List ℕ) → List ℕ
file_from l qp original start =
    head_for l ++ parts (count_of l) (λ m. record_from l qp original m (plane_before l qp original start m))

-- from a plane that is cleared, of which nothing is ever seen (theorem `code_plane_start_has_no_value`)
abbrev pub coded_file : Layout → (qp : ℕ) → List ℕ → List ℕ
coded_file l qp original = file_from l qp original (cleared (plane_length 16 l))

abbrev pub coded_plane : Layout → (qp : ℕ) → List ℕ → List ℕ
coded_plane l qp original = plane_from l qp original (cleared (plane_length 16 l))

-- ---- the entry point

-- "The area lent to the coder for the file counts 527 for each macroblock, with the head" (02, Req 01): the head that is written, 8 bytes or 10
abbrev pub area_length : Layout → ℕ
area_length l = behind_head l + length_of in_fours * count_of l

-- "Coding a plane: SIZE, LENGTH, QUANTIZER"; "n of 0 or above the height is SIZE" (02, Req 02)
abbrev pub code_plane_tests : (width height rows qp : ℕ) (plane file rebuilt : List ℕ) → List (Test Refusal)
code_plane_tests width height rows qp plane file rebuilt =
    test (size_holds width height) refusal.Size
    ∷ test (rows_hold height rows) refusal.Size
    ∷ length_test (plane_length 16 (in_slices width height rows)) (length plane)
    ∷ length_test (area_length (in_slices width height rows)) (length file)
    ∷ length_test (plane_length 16 (in_slices width height rows)) (length rebuilt)
    ∷ quantizer_test 0 qp ∷ []

-- what is left of the file area and the rebuilt plane by a verdict, file' and rebuilt': "the result says how many bytes were used, and the
-- rest keep theirs" (02, Req 01); the number that comes back is how many bytes of the file area were used
pub record LeavesPlane (v : Verdict Refusal) (l : Layout) (qp : ℕ) (plane file rebuilt : List ℕ) (r : Result ℕ Refusal) (file' rebuilt' : List ℕ) : Type 0 where
  pub says : Says (said r) v
  pub used : value_back r ≡ written v (length (coded_file l qp plane)) 0
  pub filed : file' ≡ written v (over (coded_file l qp plane) file) file
  pub stored : rebuilt' ≡ written v (coded_plane l qp plane) rebuilt

-- what `code_plane` makes of them as they were
abbrev pub CodesPlane : (width height rows qp : ℕ) (plane file rebuilt : List ℕ) (r : Result ℕ Refusal) (file' rebuilt' : List ℕ) → Type 0
CodesPlane width height rows qp plane file rebuilt r file' rebuilt' =
    LeavesPlane (chain (code_plane_tests width height rows qp plane file rebuilt)) (in_slices width height rows) qp plane file rebuilt r file' rebuilt'
