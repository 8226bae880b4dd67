-- The entry points: tests in the table's order, and what each leaves (01, "What is sent back, and in which order it is tested").
-- Assumes nothing.
use Rattle.std.specs.Prelude.{◌≡◌, List, [], ◌∷◌, ◌++◌, ℕ, ℤ, pos, length}
use Rattle.lists.specs.Chain.{Test, scan_test, chain, written}
use Rattle.refusal.specs.Number.{said, Says}
use Rattle.refusal.specs.declared.Refusal.{Refusal}
use Rattle.refusal.specs.declared.Refusal.TheVariants as refusal
use Rattle.whole.specs.Notation.{minus}
use Rattle.residual.specs.Entry.{first_wide, lent_tests, residual_tests, range_test}
use Rattle.dc.specs.Dc.{luma_levels, luma_values, chroma_levels, chroma_values, dc_levels, dc_values, by_level}
use Rattle.std.specs.Prelude.{Result}

-- ---- to levels, of n values: LENGTH, QUANTIZER, RESIDUAL, "DC coefficient outside -4080..4080"

abbrev pub dc_levels_tests : ℕ → ℕ → List ℤ → List ℤ → List (Test Refusal)
dc_levels_tests n qp dc out = residual_tests n (minus 4080) (pos 4080) qp dc (length out)

-- what a coder of n DC values makes of them: luma's sixteen or chroma's four
pub record DcLevels (n qp : ℕ) (dc out : List ℤ) (r : Result (Unit {0}) Refusal) (after : List ℤ) : Type 0 where
  pub says : Says (said r) (chain (dc_levels_tests n qp dc out))
  pub wrote : after ≡ written (chain (dc_levels_tests n qp dc out)) (dc_levels n qp dc) out

-- ---- to values, of n levels: LENGTH, QUANTIZER, LEVEL, RANGE

abbrev pub dc_values_tests : ℕ → ℕ → List ℤ → List ℤ → List (Test Refusal)
dc_values_tests n qp levels out =
    lent_tests n qp (length levels) (length out)
    ++ (scan_test n (first_wide levels) refusal.Level
    ∷ scan_test n (first_wide (by_level n (dc_values n qp levels))) refusal.Range
    ∷ [])

-- what a decoder of n DC levels makes of them
pub record DcValues (n qp : ℕ) (levels out : List ℤ) (r : Result (Unit {0}) Refusal) (after : List ℤ) : Type 0 where
  pub says : Says (said r) (chain (dc_values_tests n qp levels out))
  pub wrote : after ≡ written (chain (dc_values_tests n qp levels out)) (dc_values n qp levels) out

-- ---- luma_dc_levels: these of sixteen

abbrev pub luma_levels_tests : ℕ → List ℤ → List ℤ → List (Test Refusal)
luma_levels_tests qp dc out = dc_levels_tests 16 qp dc out

pub record LumaLevels (qp : ℕ) (dc out : List ℤ) (r : Result (Unit {0}) Refusal) (after : List ℤ) : Type 0 where
  pub says : Says (said r) (chain (luma_levels_tests qp dc out))
  pub wrote : after ≡ written (chain (luma_levels_tests qp dc out)) (luma_levels qp dc) out

-- ---- luma_dc_values: LENGTH, QUANTIZER, LEVEL, RANGE

abbrev pub luma_values_tests : ℕ → List ℤ → List ℤ → List (Test Refusal)
luma_values_tests qp levels out =
    lent_tests 16 qp (length levels) (length out)
    ++ (scan_test 16 (first_wide levels) refusal.Level
    ∷ range_test (luma_values qp levels)
    ∷ [])

pub record LumaValues (qp : ℕ) (levels out : List ℤ) (r : Result (Unit {0}) Refusal) (after : List ℤ) : Type 0 where
  pub says : Says (said r) (chain (luma_values_tests qp levels out))
  pub wrote : after ≡ written (chain (luma_values_tests qp levels out)) (luma_values qp levels) out

-- ---- chroma_dc_levels: these of four

abbrev pub chroma_levels_tests : ℕ → List ℤ → List ℤ → List (Test Refusal)
chroma_levels_tests qp dc out = dc_levels_tests 4 qp dc out

pub record ChromaLevels (qp : ℕ) (dc out : List ℤ) (r : Result (Unit {0}) Refusal) (after : List ℤ) : Type 0 where
  pub says : Says (said r) (chain (chroma_levels_tests qp dc out))
  pub wrote : after ≡ written (chain (chroma_levels_tests qp dc out)) (chroma_levels qp dc) out

-- ---- chroma_dc_values: LENGTH, QUANTIZER, LEVEL, RANGE; the order of the levels is that of the raster

abbrev pub chroma_values_tests : ℕ → List ℤ → List ℤ → List (Test Refusal)
chroma_values_tests qp levels out =
    lent_tests 4 qp (length levels) (length out)
    ++ (scan_test 4 (first_wide levels) refusal.Level
    ∷ scan_test 4 (first_wide (chroma_values qp levels)) refusal.Range
    ∷ [])

pub record ChromaValues (qp : ℕ) (levels out : List ℤ) (r : Result (Unit {0}) Refusal) (after : List ℤ) : Type 0 where
  pub says : Says (said r) (chain (chroma_values_tests qp levels out))
  pub wrote : after ≡ written (chain (chroma_values_tests qp levels out)) (chroma_values qp levels) out
