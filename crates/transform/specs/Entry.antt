-- The entry point `forward`: what is tested, and what is written (01, "What is sent back, and in which order it is tested").
-- Assumes nothing.
use Rattle.std.specs.Prelude.{◌≡◌, List, [], ◌∷◌, ℕ, ℤ, pos, length}
use Rattle.lists.specs.Chain.{Test, scan_test, chain, written}
use Rattle.whole.specs.Bounds.{Each}
use Rattle.whole.specs.Notation.{minus}
use Rattle.whole.specs.Range.{first_outside}
use Rattle.refusal.specs.Number.{said, Says}
use Rattle.refusal.specs.declared.Refusal.{Refusal}
use Rattle.refusal.specs.declared.Refusal.TheVariants as refusal
use Rattle.refusal.specs.Tests.{length_test}
use Rattle.transform.specs.Forward.{forward}
use Rattle.std.specs.Prelude.{Result}

-- "residual outside -255..255", "first index"
abbrev pub outside : List ℤ → ℕ
outside residual = first_outside (minus 255) (pos 255) residual

-- LENGTH, then RESIDUAL
abbrev pub forward_tests : List ℤ → List ℤ → List (Test Refusal)
forward_tests residual coefficients =
    length_test 16 (length residual) ∷ length_test 16 (length coefficients) ∷ scan_test 16 (outside residual) refusal.Residual ∷ []

-- the coefficients of the residuals, or the refusal
pub record Forwards (residual before : List ℤ) (r : Result (Unit {0}) Refusal) (after : List ℤ) : Type 0 where
  pub says : Says (said r) (chain (forward_tests residual before))
  pub wrote : after ≡ written (chain (forward_tests residual before)) (forward residual) before

-- what it accepts: sixteen residuals in -255..255, and room for sixteen coefficients
pub record Takes (residual before : List ℤ) : Type 0 where
  pub long : length residual ≡ 16
  pub room : length before ≡ 16
  pub small : Each 255 residual
