-- What `promised_distance` tests, and the distance that comes back ("I want to print how far a rebuilt sample can be off": 02, Req 07).
-- Assumes nothing.
use Rattle.std.specs.Prelude.{◌≡◌, ℕ, ◌/◌, Result}
use Rattle.lists.specs.Chain.{chain, written}
use Rattle.refusal.specs.Number.{said, value_back, Says}
use Rattle.refusal.specs.declared.Refusal.{Refusal}
use Rattle.quantizer.specs.Range.{number_tests}
use Rattle.distance.specs.Distance.{promise_of}

-- the promise in whole samples, rounded down
abbrev pub samples_off : ℕ → ℕ
samples_off qp = promise_of qp / 384

-- QUANTIZER, or the distance, which is the number that comes back
pub record Promises (qp : ℕ) (r : Result ℕ Refusal) : Type 0 where
  pub says : Says (said r) (chain (number_tests qp))
  pub value : value_back r ≡ written (chain (number_tests qp)) (samples_off qp) 0
