-- The content of a macroblock's record: "by record QUANTIZER, all modes, then ranges, place = 16*number+block (block 0 for QUANTIZER)"
-- (01, "What is sent back, and in which order it is tested"). Assumes nothing.
use Rattle.std.specs.Prelude.{Bool, not, List, [], ◌∷◌, ℕ, ◌+◌, ◌*◌, eqb, ℤ}
use Rattle.lists.specs.Chain.{Test, scan_test}
use Rattle.lists.specs.First.{first}
use Rattle.refusal.specs.declared.Refusal.{Refusal}
use Rattle.refusal.specs.declared.Refusal.TheVariants as refusal
use Rattle.quantizer.specs.Range.{quantizer_test}
use Rattle.intra4.specs.Rules.{permitted}
use Rattle.residual.specs.Entry.{first_wide}
use Rattle.residual.specs.Order.{in_zigzag}
use Rattle.residual.specs.Rebuild.{rescaled_of}
use Rattle.record.specs.Records.{qp_in, mode_in, levels_in}
use Rattle.picture.specs.declared.Layout.{Layout}
use Rattle.picture.specs.Presence.{flags_of}

-- MODE: "number above 8, or what it needs is missing"
unfoldable pub mode_holds : Layout → (m : ℕ) → List ℕ → (b : ℕ) → Bool
mode_holds l m part b = permitted (flags_of 4 l m b) (mode_in b part)

-- the rescaled numbers of block b, in raster order; "each record has its own" QP
unfoldable pub rescaled_in : List ℕ → (b : ℕ) → List ℤ
rescaled_in part b = rescaled_of (qp_in part) (levels_in b part)

-- RANGE: no rescaled number of block b lies outside -32768..32767
unfoldable pub range_holds : List ℕ → (b : ℕ) → Bool
range_holds part b = eqb (first_wide (in_zigzag (rescaled_in part b))) 16

-- the first block that offends, and 16 where none does
unfoldable pub first_mode : Layout → (m : ℕ) → List ℕ → ℕ
first_mode l m part = first 16 (λ b. not (mode_holds l m part b))

unfoldable pub first_range : List ℕ → ℕ
first_range part = first 16 (λ b. not (range_holds part b))

-- the tests of record m, in their order
abbrev pub content_tests4 : Layout → (m : ℕ) → List ℕ → List (Test Refusal)
content_tests4 l m part =
    quantizer_test (16 * m) (qp_in part)
    ∷ scan_test 16 (first_mode l m part) (λ b. refusal.Mode (16 * m + b))
    ∷ scan_test 16 (first_range part) (λ b. refusal.Range (16 * m + b)) ∷ []
