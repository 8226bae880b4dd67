-- "The quantizer's lowest and highest number, and its split into period p=QP/6 and remainder r, belong to one type."
-- (01, "Transform, quantizer, rescaling"; "QP above 51" of the table of refusals.) Assumes nothing.
use Rattle.std.specs.Prelude.{◌≡◌, ◌&&◌, List, [], ◌∷◌, ℕ, ◌/◌, ◌%◌, leb}
use Rattle.lists.specs.Chain.{Test, test, chain, written}
use Rattle.quantizer.specs.declared.Quantizer.{Quantizer}
use Rattle.refusal.specs.Number.{said, Says}
use Rattle.refusal.specs.declared.Refusal.{Refusal}
use Rattle.refusal.specs.declared.Refusal.TheVariants as refusal
use Rattle.std.specs.Prelude.{Err, Ok, Result}

abbrev pub lowest : ℕ
lowest = 0

abbrev pub highest : ℕ
highest = 51

abbrev pub period_of : ℕ → ℕ
period_of qp = qp / 6

abbrev pub remainder_of : ℕ → ℕ
remainder_of qp = qp % 6

-- QUANTIZER, with its place: the number lies outside
abbrev pub quantizer_test : (place qp : ℕ) → Test Refusal
quantizer_test place qp = test (leb lowest qp && leb qp highest) (refusal.Quantizer place)

-- of a quantizer's number alone: "0 where none is named"
abbrev pub number_tests : ℕ → List (Test Refusal)
number_tests qp = quantizer_test 0 qp ∷ []

-- the number of the quantizer that comes back (0 where none does)
abbrev pub qp_of : Result Quantizer Refusal → ℕ
qp_of (Ok q) = q.qp
qp_of (Err r) = 0

-- the quantizer of this number, or the refusal
pub record Builds (qp : ℕ) (b : Result Quantizer Refusal) : Type 0 where
  pub says : Says (said b) (chain (number_tests qp))
  pub value : qp_of b ≡ written (chain (number_tests qp)) qp 0
