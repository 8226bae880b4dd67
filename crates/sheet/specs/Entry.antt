-- The entry point: what is tested, and the sheet that comes back (02, Req 09). Assumes nothing.
use Rattle.std.specs.Prelude.{◌≡◌, List, [], ◌∷◌, ℕ, ◌*◌, ltb, Float, length, get_or}
use Rattle.lists.specs.Chain.{Test, test, scan_test, chain, written}
use Rattle.lists.specs.First.{first}
use Rattle.refusal.specs.Number.{said, Says}
use Rattle.refusal.specs.Tests.{length_test}
use Rattle.refusal.specs.declared.Refusal.{Refusal}
use Rattle.refusal.specs.declared.Refusal.TheVariants as refusal
use Rattle.head.specs.Entry.{size_holds}
use Rattle.picture.specs.Plane.{layout_of, plane_length}
use Rattle.sheet.specs.Means.{given_of, area_of}
use Rattle.std.specs.Prelude.{Result, Option}
use Rattle.sheet.specs.declared.Sheet.{Sheet}
use Rattle.std.specs.Prelude.{Ok, Err, None}

-- the first "map byte above 1", and the length where there is none
unfoldable pub first_flag : List ℕ → ℕ
first_flag map = first (length map) (λ m. ltb 1 (get_or map m 0))

-- "Refusals: SIZE, LENGTH, then a map byte above 1 is FLAGS with its place": those behind SIZE
abbrev pub plane_tests : (width height : ℕ) (original rebuilt map : List ℕ) → List (Test Refusal)
plane_tests width height original rebuilt map =
    length_test (plane_length 16 (layout_of width height)) (length original)
    ∷ length_test (plane_length 16 (layout_of width height)) (length rebuilt)
    ∷ length_test (width * height) (length map)
    ∷ scan_test (length map) (first_flag map) refusal.Flags ∷ []

-- and all of them
abbrev pub sheet_tests : (width height : ℕ) (original rebuilt map : List ℕ) → List (Test Refusal)
sheet_tests width height original rebuilt map = test (size_holds width height) refusal.Size ∷ plane_tests width height original rebuilt map

-- and with the LENGTH of a lent area for the three means
abbrev pub write_tests : (width height : ℕ) (original rebuilt map : List ℕ) (before : List Float) → List (Test Refusal)
write_tests width height original rebuilt map before =
    test (size_holds width height) refusal.Size
    ∷ length_test 3 (length before) ∷ plane_tests width height original rebuilt map

-- the sheet that comes back: none where refused
abbrev pub given_in : Result (Option Sheet) Refusal → Option Sheet
given_in (Ok s) = s
given_in (Err r) = None

-- the sheet of two planes and a map, or no sheet, or the refusal
pub record Sheets (width height : ℕ) (original rebuilt map : List ℕ) (r : Result (Option Sheet) Refusal) : Type 0 where
  pub says : Says (said r) (chain (sheet_tests width height original rebuilt map))
  pub sheet : given_in r ≡ written (chain (sheet_tests width height original rebuilt map)) (given_of (layout_of width height) original rebuilt map) None

-- the same, and the area: `before` at entry, `after` at exit
pub record Writes (width height : ℕ) (original rebuilt map : List ℕ) (before : List Float) (r : Result (Option Sheet) Refusal) (after : List Float) : Type 0 where
  pub says : Says (said r) (chain (write_tests width height original rebuilt map before))
  pub sheet : given_in r ≡ written (chain (write_tests width height original rebuilt map before)) (given_of (layout_of width height) original rebuilt map) None
  pub wrote : after
      ≡ written (chain (write_tests width height original rebuilt map before)) (area_of (given_of (layout_of width height) original rebuilt map) before) before
