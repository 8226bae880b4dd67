-- Decoding a plane: "head (short, mark, sum: 9, place 0), SIZE, LENGTH of the plane" (01, "What is sent back, and in which order it is
-- tested"); "Per record now cut mark, mark, cut rest, number, sum; bytes after the last record come at the end" (02, Req 01); "then by record"
-- the content (01), in a colour file luma's and then chroma's (02, Req 05). Assumes nothing.
use Rattle.std.specs.Prelude.{◌≡◌, cond, List, [], ◌∷◌, ◌++◌, ℕ, ◌+◌, ◌*◌, length}
use Rattle.lists.specs.Chain.{Test, chain, written}
use Rattle.lists.specs.Fold.{fold}
use Rattle.lists.specs.Parts.{parts}
use Rattle.lists.specs.Tab.{tab}
use Rattle.refusal.specs.Number.{said, Says}
use Rattle.refusal.specs.Tests.{length_test}
use Rattle.refusal.specs.declared.Refusal.{Refusal}
use Rattle.head.specs.Entry.{head_tests, long_at, width_at, height_at, rows_at}
use Rattle.record.specs.Faults.{walk_of, walk_tests}
use Rattle.record.specs.Kinds.{per_macroblock}
use Rattle.record.specs.Records.{colour_at, qp_in, record_at, record_place}
use Rattle.picture.specs.declared.Layout.{Layout}
use Rattle.picture.specs.Order.{count_of}
use Rattle.picture.specs.Plane.{plane_length}
use Rattle.macroblock.specs.Content.{content_tests}
use Rattle.macroblock.specs.Rebuild.{rebuilt_step}
use Rattle.macroblock_chroma.specs.Content.{content_tests_chroma}
use Rattle.std.specs.Prelude.{Result}

-- ---- the records

-- record k of a file whose records begin at a place: each says by its mark where the next one begins
unfoldable pub record_in : List ℕ → (place k : ℕ) → List ℕ
record_in file place k = record_at (record_place k file place) file

-- macroblock m's record is record m of a mono file; in a colour file, where a chroma record "follows every luma record" (02, Req 05), it is
-- record 2m,
abbrev pub luma_number : List ℕ → (place m : ℕ) → ℕ
luma_number file place m = per_macroblock (colour_at place file) * m

abbrev pub luma_in : List ℕ → (place m : ℕ) → List ℕ
luma_in file place m = record_in file place (luma_number file place m)

-- and its chroma record is the next one, which begins there
abbrev pub chroma_place : List ℕ → (place m : ℕ) → ℕ
chroma_place file place m = record_place (luma_number file place m + 1) file place

abbrev pub chroma_in : List ℕ → (place m : ℕ) → List ℕ
chroma_in file place m = record_in file place (luma_number file place m + 1)

-- ---- the tests

-- the form of all records, "Per record now cut mark, mark, cut rest, number, sum; bytes after the last record come at the end"
abbrev pub forms_tests : Layout → (place : ℕ) → List ℕ → List (Test Refusal)
forms_tests l place file = walk_tests file (walk_of (colour_at place file) (luma_number file place (count_of l)) file place)

-- the content of macroblock m's records: luma's, and in a colour file then chroma's, with luma's QP
unfoldable pub macroblock_tests : Layout → (place : ℕ) → List ℕ → (m : ℕ) → List (Test Refusal)
macroblock_tests l place file m =
    content_tests l m (luma_in file place m)
    ++ cond (colour_at place file) (content_tests_chroma l m (qp_in (luma_in file place m)) (chroma_place file place m) (chroma_in file place m)) []

-- the content of all records, "then by record"
abbrev pub contents_tests : Layout → (place : ℕ) → List ℕ → List (Test Refusal)
contents_tests l place file = parts (count_of l) (macroblock_tests l place file)

-- the tests of the records, form and then content
abbrev pub records_tests : Layout → (place : ℕ) → List ℕ → List (Test Refusal)
records_tests l place file = forms_tests l place file ++ contents_tests l place file

-- what is tested behind a head that ends at a place
abbrev pub body_tests : Layout → (place : ℕ) → List ℕ → List ℕ → List (Test Refusal)
body_tests l place file plane =
    length_test (plane_length 16 l) (length plane) ∷ records_tests l place file

-- the picture that a file's head tells of
abbrev pub layout_in : List ℕ → Layout
layout_in file = record { width = width_at file; height = height_at file; rows = rows_at file }

abbrev pub decode_tests : List ℕ → List ℕ → List (Test Refusal)
decode_tests file plane = head_tests file ++ body_tests (layout_in file) (long_at file) file plane

-- ---- the plane

-- the luma plane of records, macroblock after macroblock, from a plane at the start
unfoldable pub rebuilt_from : Layout → (records : ℕ → List ℕ) → (start : List ℕ) → List ℕ
rebuilt_from l records start = fold (count_of l) (λ m. rebuilt_step l m (records m)) start

-- a plane that is cleared
abbrev pub cleared : ℕ → List ℕ
cleared n = tab n (λ k. 0)

-- from a plane that is cleared, of which nothing is ever seen (theorem `start_has_no_value`)
abbrev pub decoded : Layout → (records : ℕ → List ℕ) → List ℕ
decoded l records = rebuilt_from l records (cleared (plane_length 16 l))

-- the plane of a file, by what its head says
abbrev pub decoded_plane : List ℕ → List ℕ
decoded_plane file = decoded (layout_in file) (luma_in file (long_at file))

-- behind a head that is fine and ends at a place: the answer and the plane of the tests that follow
pub record DecodesBody (l : Layout) (place : ℕ) (file before : List ℕ) (r : Result (Unit {0}) Refusal) (after : List ℕ) : Type 0 where
  pub says : said r ≡ chain (body_tests l place file before)
  pub wrote : after ≡ written (chain (body_tests l place file before)) (decoded l (luma_in file place)) before

-- the plane of a file, or the refusal
pub record Decodes (file before : List ℕ) (r : Result (Unit {0}) Refusal) (after : List ℕ) : Type 0 where
  pub says : Says (said r) (chain (decode_tests file before))
  pub wrote : after ≡ written (chain (decode_tests file before)) (decoded_plane file) before
