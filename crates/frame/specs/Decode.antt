-- Decoding a picture: its luma plane, and of a colour file its planes of Cb and Cr (02, Req 05). Assumes nothing.
use Rattle.std.specs.Prelude.{◌≡◌, Bool, cond, List, [], ◌∷◌, ◌++◌, ℕ, length}
use Rattle.lists.specs.Chain.{Test, Verdict, chain, written}
use Rattle.lists.specs.Fold.{fold}
use Rattle.refusal.specs.Number.{said, Says}
use Rattle.refusal.specs.Tests.{length_test}
use Rattle.refusal.specs.declared.Refusal.{Refusal}
use Rattle.head.specs.Entry.{head_tests, long_at}
use Rattle.record.specs.Records.{colour_at, qp_in}
use Rattle.picture.specs.declared.Layout.{Layout}
use Rattle.picture.specs.Order.{count_of}
use Rattle.picture.specs.Plane.{plane_length}
use Rattle.macroblock_chroma.specs.Rebuild.{cb_step, cr_step}
use Rattle.plane.specs.Decode.{luma_in, chroma_in, records_tests, layout_in, cleared, decoded_plane}
use Rattle.frame.specs.declared.Decoded.{Decoded}
use Rattle.frame.specs.declared.Decoded.TheVariants.{Mono, Colour}
use Rattle.std.specs.Prelude.{Err, Result}
use Rattle.std.specs.Prelude.{Ok}

-- ---- the tests

-- LENGTH of a luma plane and of two chroma planes, which have a quarter of its samples each (4:2:0)
abbrev pub planes_tests : Layout → (luma cb cr : ℕ) → List (Test Refusal)
planes_tests l luma cb cr = length_test (plane_length 16 l) luma ∷ length_test (plane_length 8 l) cb ∷ length_test (plane_length 8 l) cr ∷ []

-- what is tested behind a head that ends at a place: of the file what `decode_plane` tests
abbrev pub picture_tests : Layout → (place : ℕ) → (file luma cb cr : List ℕ) → List (Test Refusal)
picture_tests l place file luma cb cr = planes_tests l (length luma) (length cb) (length cr) ++ records_tests l place file

abbrev pub decode_picture_tests : (file luma cb cr : List ℕ) → List (Test Refusal)
decode_picture_tests file luma cb cr = head_tests file ++ picture_tests (layout_in file) (long_at file) file luma cb cr

-- ---- the planes of chroma

-- of luma records, which have the QPs, and chroma records, macroblock after macroblock, from a plane at the start
unfoldable pub cb_from : Layout → (luma chroma : ℕ → List ℕ) → (start : List ℕ) → List ℕ
cb_from l luma chroma start = fold (count_of l) (λ m. cb_step l m (qp_in (luma m)) (chroma m)) start

unfoldable pub cr_from : Layout → (luma chroma : ℕ → List ℕ) → (start : List ℕ) → List ℕ
cr_from l luma chroma start = fold (count_of l) (λ m. cr_step l m (qp_in (luma m)) (chroma m)) start

-- "The file is colour exactly if its first macroblock has one; otherwise the decoder's chroma planes keep their bytes": what they hold, of a
-- file whose records begin at a place, from planes that are cleared, of which nothing is ever seen (theorems `cb_start_has_no_value`, `cr_start_has_no_value`)
abbrev pub cb_of : Layout → (place : ℕ) → (file before : List ℕ) → List ℕ
cb_of l place file before = cond (colour_at place file) (cb_from l (luma_in file place) (chroma_in file place) (cleared (plane_length 8 l))) before

abbrev pub cr_of : Layout → (place : ℕ) → (file before : List ℕ) → List ℕ
cr_of l place file before = cond (colour_at place file) (cr_from l (luma_in file place) (chroma_in file place) (cleared (plane_length 8 l))) before

-- ---- the entry point

-- whether the picture that comes back is colour, 1, or mono, 0 (0 where refused): "the answer says mono"
abbrev pub colour_value : Result Decoded Refusal → ℕ
colour_value (Ok Mono) = 0
colour_value (Ok Colour) = 1
colour_value (Err r) = 0

abbrev pub colour_number : Bool → ℕ
colour_number colour = cond colour 1 0

-- the answer and the three planes by a verdict, of a file whose records begin at a place
pub record LeavesPlanes (v : Verdict Refusal) (l : Layout) (place : ℕ) (file decoded : List ℕ) (luma cb cr : List ℕ) (r : Result Decoded Refusal) (luma' cb' cr' : List ℕ) : Type 0 where
  pub says : Says (said r) v
  pub value : colour_value r ≡ written v (colour_number (colour_at place file)) 0
  pub lumas : luma' ≡ written v decoded luma
  pub cbs : cb' ≡ written v (cb_of l place file cb) cb
  pub crs : cr' ≡ written v (cr_of l place file cr) cr

-- the planes of a file, or the refusal
abbrev pub DecodesPicture : (file luma cb cr : List ℕ) (r : Result Decoded Refusal) (luma' cb' cr' : List ℕ) → Type 0
DecodesPicture file luma cb cr r luma' cb' cr' =
    LeavesPlanes (chain (decode_picture_tests file luma cb cr)) (layout_in file) (long_at file) file (decoded_plane file) luma cb cr r luma' cb' cr'
