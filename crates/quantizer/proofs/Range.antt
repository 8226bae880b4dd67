-- What the test of a quantizer's number comes to.
--     number_passes, number_fails, number_legal     the test of QUANTIZER, as a bound and back
--     legal                              a number that is not above the highest passes its tests
--     built_legal, built_stops           what a caller learns from the two answers
--     same_built                         an answer is known by what it says and the number that comes back
-- Assumes nothing.
use mathlib.Core.Path.{◌≡◌, sym, ap, ◌∙◌}
use Prim.Native.Nat.{ℕ, ◌≤◌, ◌<◌, zero-le}
use mathlib.Core.Bool.{true, false}
use borrow.Author.Tests.{le-leb, lt-leb, leb-true}
use lib.Dec.{leb}
use Rattle.lists.specs.Chain.{pass, stop, chain}
use Rattle.lists.proofs.Chain.{chain_exactly_if, holds_new}
use Rattle.lists.proofs.Every.{both_true}
use Rattle.refusal.proofs.Same.{says_same}
use Rattle.refusal.specs.declared.Refusal.{Refusal}
use Rattle.quantizer.specs.Range.{lowest, highest, quantizer_test, number_tests, qp_of, Builds}
use Rattle.quantizer.specs.declared.Quantizer.{Quantizer}
use Rattle.std.specs.Prelude.{Err, Ok, Result}
use Rattle.refusal.specs.Number.{said}

-- no number is below the lowest: the test of QUANTIZER, at any place, is that of the highest
module _ (place qp : ℕ) where
  pub number_passes : qp ≤ highest → (quantizer_test place qp).passes ≡ true
  number_passes h = rw (le-leb lowest qp zero-le, le-leb qp highest h)

  pub number_fails : highest < qp → (quantizer_test place qp).passes ≡ false
  number_fails h = rw (le-leb lowest qp zero-le, lt-leb qp highest h)

  pub number_legal : (quantizer_test place qp).passes ≡ true → qp ≤ highest
  number_legal e = leb-true qp highest (both_true (leb lowest qp) (leb qp highest) e).1

module _ (qp : ℕ) where
  pub legal : qp ≤ highest → chain (number_tests qp) ≡ pass
  legal h = simp (number_passes 0 qp h)

-- an answer is known by what it says and the number that comes back
pub same_built : (x y : Result Quantizer Refusal) → said x ≡ said y → qp_of x ≡ qp_of y → x ≡ y
same_built (Ok q) (Ok s) e f = λ i. Ok (record { qp = f i })
same_built (Ok q) (Err s) e f = cc
same_built (Err r) (Ok s) e f = cc
same_built (Err r) (Err s) e f = let g : r ≡ s = cc in ap Err g

-- what a caller learns from the two answers

module _ (qp : ℕ) where
  pub built_legal : {b : Result Quantizer Refusal} {q : Quantizer} → Builds qp b → b ≡ Ok q → (q.qp ≡ qp) × (qp ≤ highest)
  built_legal {b} {q} p e =
      let v : chain (number_tests qp) ≡ pass = sym (says_same p.says) ∙ ap said e in
      (sym (ap qp_of e) ∙ holds_new 0 v p.value, number_legal 0 qp ((chain_exactly_if (number_tests qp)).passes.0 v).0)

  -- a caller can hand on this very refusal
  pub built_stops : {b : Result Quantizer Refusal} {r : Refusal} → Builds qp b → b ≡ Err r → chain (number_tests qp) ≡ stop r
  built_stops {b} {r} p e = sym (says_same p.says) ∙ ap said e
