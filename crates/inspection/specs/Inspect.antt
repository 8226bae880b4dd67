-- Incoming inspection: "Accept a delivery exactly if our decoder accepts the file and its luma plane equals theirs; otherwise say the first
-- differing macroblock and sample. .. Refusals: the decoder's, then 17 DIFFERS with place 256*number+sample, in raster order" (02, Req 11).
-- Assumes nothing.
use Rattle.std.specs.Prelude.{◌≡◌, Bool, true, false, not, List, [], ◌∷◌, ◌++◌, ℕ, ◌/◌, ◌%◌, ◌<◌, eqb, get_or}
use Rattle.lists.specs.Chain.{Test, scan_test, Verdict, pass, stop, chain}
use Rattle.lists.specs.First.{first}
use Rattle.refusal.specs.Number.{said, Says}
use Rattle.refusal.specs.declared.Refusal.{Refusal}
use Rattle.refusal.specs.declared.Refusal.TheVariants.{Differs}
use Rattle.picture.specs.declared.Layout.{Layout}
use Rattle.picture.specs.Plane.{plane_length}
use Rattle.picture.specs.Whole.{whole_of}
use Rattle.plane.specs.Decode.{luma_in, body_tests, layout_in, decode_tests, decoded, decoded_plane}
use Rattle.std.specs.Prelude.{Err, Ok, Result}

-- two lists of samples differ at a place
abbrev pub unlike : (p q : List ℕ) → (k : ℕ) → Bool
unlike p q k = not (eqb (get_or p k 0) (get_or q k 0))

-- two planes differ at "256*number+sample": in macroblock `number`, at that one of its 16 by 16 samples, which are "in raster order"
abbrev pub differ_at : Layout → (ours theirs : List ℕ) → (place : ℕ) → Bool
differ_at l ours theirs place = unlike (whole_of 16 l (place / 256) ours) (whole_of 16 l (place / 256) theirs) (place % 256)

-- "the first differing macroblock and sample"; as many as there are samples where none differs
unfoldable pub first_differing : Layout → (ours theirs : List ℕ) → ℕ
first_differing l ours theirs = first (plane_length 16 l) (differ_at l ours theirs)

-- "17 DIFFERS with place 256*number+sample"
abbrev pub differs_test : Layout → (ours theirs : List ℕ) → Test Refusal
differs_test l ours theirs = scan_test (plane_length 16 l) (first_differing l ours theirs) Differs

-- "the decoder's, then 17 DIFFERS": behind a head that ends at a place, and of a whole file
abbrev pub inspect_body_tests : Layout → (place : ℕ) → (file theirs : List ℕ) → List (Test Refusal)
inspect_body_tests l place file theirs = body_tests l place file theirs ++ (differs_test l (decoded l (luma_in file place)) theirs ∷ [])

abbrev pub inspect_tests : (file theirs : List ℕ) → List (Test Refusal)
inspect_tests file theirs = decode_tests file theirs ++ (differs_test (layout_in file) (decoded_plane file) theirs ∷ [])

-- what `inspect` answers
abbrev pub Inspects : (file theirs : List ℕ) (r : Result (Unit {0}) Refusal) → Type 0
Inspects file theirs r = Says (said r) (chain (inspect_tests file theirs))

-- ---- the words of its theorems

-- when 17 is answered with a place: our decoder accepts the file, the samples differ there, and at no place before it
pub record DiffersFirst (file theirs : List ℕ) (place : ℕ) : Type 0 where
  pub accepted : chain (decode_tests file theirs) ≡ pass
  pub among : place < plane_length 16 (layout_in file)
  pub here : differ_at (layout_in file) (decoded_plane file) theirs place ≡ true
  pub none : (k : ℕ) → k < place → differ_at (layout_in file) (decoded_plane file) theirs k ≡ false

-- what comes of decoding into a plane, which answers and leaves `ours`, and then comparing it
abbrev pub then_compared : Result (Unit {0}) Refusal → Layout → (ours theirs : List ℕ) → Verdict Refusal
then_compared (Ok x) l ours theirs = chain (differs_test l ours theirs ∷ [])
then_compared (Err r) l ours theirs = stop r
