-- The entry points: tests in the table's order, and what each leaves (01, "What is sent back, and in which order it is tested").
-- Assumes nothing.
use Rattle.std.specs.Prelude.{◌≡◌, List, [], ◌∷◌, ◌++◌, ℕ, ◌+◌, ℤ, pos, length}
use Rattle.lists.specs.Chain.{Test, scan_test, chain, written}
use Rattle.refusal.specs.Number.{said, Says}
use Rattle.refusal.specs.Tests.{length_test}
use Rattle.refusal.specs.declared.Refusal.{Refusal}
use Rattle.refusal.specs.declared.Refusal.TheVariants as refusal
use Rattle.whole.specs.Notation.{minus}
use Rattle.whole.specs.Range.{first_outside}
use Rattle.quantizer.specs.Range.{quantizer_test, qp_of}
use Rattle.residual.specs.Levels.{levels_of}
use Rattle.residual.specs.Order.{in_zigzag}
use Rattle.residual.specs.Rebuild.{rebuilt_samples, rescaled_of, rescaled_with_dc}
use Rattle.std.specs.Prelude.{Result}
use Rattle.quantizer.specs.declared.Quantizer.{Quantizer}

-- "outside -32768..32767": the first index
abbrev pub first_wide : List ℤ → ℕ
first_wide l = first_outside (minus 32768) (pos 32767) l

-- RANGE: a rescaled or given DC value, "first index, in the order of the levels"
abbrev pub range_test : List ℤ → Test Refusal
range_test d = scan_test 16 (first_wide (in_zigzag d)) refusal.Range

-- the answer of a function that tests for its callers: the quantizer, or the refusal
pub record Accepts (tests : List (Test Refusal)) (qp : ℕ) (b : Result Quantizer Refusal) : Type 0 where
  pub says : Says (said b) (chain tests)
  pub value : qp_of b ≡ written (chain tests) qp 0

-- ---- LENGTH of what is lent and of the room for what is written, n of each, then QUANTIZER

abbrev pub lent_tests : (n qp given room : ℕ) → List (Test Refusal)
lent_tests n qp given room = length_test n given ∷ length_test n room ∷ quantizer_test 0 qp ∷ []

-- ---- then RESIDUAL: of n numbers the first index of one outside low..high

abbrev pub residual_tests : (n : ℕ) (low high : ℤ) (qp : ℕ) (numbers : List ℤ) (room : ℕ) → List (Test Refusal)
residual_tests n low high qp numbers room = lent_tests n qp (length numbers) room ++ (scan_test n (first_outside low high numbers) refusal.Residual ∷ [])

-- ---- levels: LENGTH, QUANTIZER, RESIDUAL

abbrev pub levels_tests : ℕ → List ℤ → List ℤ → List (Test Refusal)
levels_tests qp residual out = residual_tests 16 (minus 255) (pos 255) qp residual (length out)

pub record Levels (qp : ℕ) (residual out : List ℤ) (r : Result (Unit {0}) Refusal) (after : List ℤ) : Type 0 where
  pub says : Says (said r) (chain (levels_tests qp residual out))
  pub wrote : after ≡ written (chain (levels_tests qp residual out)) (levels_of qp residual) out

-- ---- the end of rebuilding: RANGE

pub record Finishes (prediction : List ℕ) (d : List ℤ) (out : List ℕ) (r : Result (Unit {0}) Refusal) (after : List ℕ) : Type 0 where
  pub says : Says (said r) (chain (range_test d ∷ []))
  pub wrote : after ≡ written (chain (range_test d ∷ [])) (rebuilt_samples prediction d) out

-- ---- before it: LENGTH, QUANTIZER, LEVEL of n levels whose indexes count from `from`

abbrev pub level_tests : (n from qp predicted : ℕ) (levels : List ℤ) (room : ℕ) → List (Test Refusal)
level_tests n from qp predicted levels room =
    length_test n (length levels)
    ∷ (lent_tests 16 qp predicted room ++ (scan_test n (first_wide levels) (λ k. refusal.Level (from + k)) ∷ []))

-- ---- rebuild: LENGTH, QUANTIZER, LEVEL, RANGE

abbrev pub rebuild_tests : ℕ → List ℕ → List ℤ → List ℕ → List (Test Refusal)
rebuild_tests qp prediction levels out = level_tests 16 0 qp (length prediction) levels (length out) ++ (range_test (rescaled_of qp levels) ∷ [])

pub record Rebuilds (qp : ℕ) (prediction : List ℕ) (levels : List ℤ) (out : List ℕ) (r : Result (Unit {0}) Refusal) (after : List ℕ) : Type 0 where
  pub says : Says (said r) (chain (rebuild_tests qp prediction levels out))
  pub wrote : after ≡ written (chain (rebuild_tests qp prediction levels out)) (rebuilt_samples prediction (rescaled_of qp levels)) out

-- ---- rebuild_with_dc: "15 AC levels count from 1", "a given DC is 0"

abbrev pub with_dc_tests : ℕ → List ℕ → ℤ → List ℤ → List ℕ → List (Test Refusal)
with_dc_tests qp prediction dc ac out = level_tests 15 1 qp (length prediction) ac (length out) ++ (range_test (rescaled_with_dc qp dc ac) ∷ [])

pub record RebuildsWithDc (qp : ℕ) (prediction : List ℕ) (dc : ℤ) (ac : List ℤ) (out : List ℕ) (r : Result (Unit {0}) Refusal) (after : List ℕ) : Type 0 where
  pub says : Says (said r) (chain (with_dc_tests qp prediction dc ac out))
  pub wrote : after ≡ written (chain (with_dc_tests qp prediction dc ac out)) (rebuilt_samples prediction (rescaled_with_dc qp dc ac)) out
