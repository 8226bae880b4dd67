-- What the tests come to, one law for each verdict.
--     wide_each, wide_none                                the first wide number and a bound
--     lent_short, lent_rest, lent_fine      LENGTH and QUANTIZER
--     accepted_passed, accepted_number, accepted_refused  what every caller learns from a function that tests for it
--     Accepted, accepted_legal                            and from `accepted`
--     residuals_outside, residuals_fine     RESIDUAL, behind them
--     AcceptedResiduals, residuals_legal                  what a caller learns from `residuals_accepted`
--     range_far, range_fine, range_each                   RANGE
--     levels_wide, levels_fine     LEVEL, behind them
--     AcceptedLevels, levels_legal                        what a caller learns from `levels_accepted`
-- Assumes nothing.
use mathlib.Core.Path.{◌≡◌, refl, sym, ap, ◌∙◌}
use mathlib.Core.List.{List, [], ◌∷◌}
use Prim.Native.Nat.{ℕ, ◌+◌, ◌≤◌, ◌<◌}
use native.Mathlib.Omega.{arith}
use borrow.Author.Tests.{eq-eqb, ne_eqb, eqb-true}
use lib.IntN.{ℤ, pos, negsuc}
use lib.ListN.{length}
use Rattle.lists.specs.Chain.{Test, chain, pass, stop}
use Rattle.lists.proofs.Chain.{chain_exactly_if, scan_none, scan_found, holds_new}
use Rattle.whole.specs.Bounds.{Each}
use Rattle.whole.specs.Range.{first_outside}
use Rattle.whole.proofs.Range.{at_end, none_each, each_none}
use Rattle.refusal.specs.declared.Refusal.{Refusal}
use Rattle.refusal.specs.declared.Refusal.TheVariants as refusal
use Rattle.refusal.proofs.Same.{says_same}
use Rattle.quantizer.specs.Range.{highest, number_tests, qp_of}
use Rattle.quantizer.specs.declared.Quantizer.{Quantizer}
use Rattle.quantizer.proofs.Range.{number_legal, legal}
use Rattle.residual.specs.Entry.{lent_tests, Accepts, residual_tests, range_test, level_tests, first_wide}
use Rattle.residual.specs.Order.{in_zigzag}
use Rattle.residual.proofs.Order.{length_zigzag, zigzag_each}
use Rattle.std.specs.Prelude.{Err, Ok, Result}
use Rattle.refusal.specs.Number.{said}

-- a list whose first wide number is its end has sixteen-bit numbers only
pub wide_each : (l : List ℤ) → length l ≤ first_wide l → Each 32768 l
wide_each l h = none_each (negsuc 32767) (pos 32767) l 32768 tt tt h

-- and back, at 32767
pub wide_none : (l : List ℤ) → Each 32767 l → first_wide l ≡ length l
wide_none l h = each_none (negsuc 32767) (pos 32767) l 32767 tt tt h

-- ---- what every caller learns from a function that tests for it

module _ (tests : List (Test Refusal)) (qp : ℕ) {b : Result Quantizer Refusal} (p : Accepts tests qp b) where
  pub accepted_passed : {q : Quantizer} → b ≡ Ok q → chain tests ≡ pass
  accepted_passed e = sym (says_same p.says) ∙ ap said e

  pub accepted_number : {q : Quantizer} → b ≡ Ok q → q.qp ≡ qp
  accepted_number e = sym (ap qp_of e) ∙ holds_new 0 (accepted_passed e) p.value

  pub accepted_refused : {r : Refusal} → b ≡ Err r → chain tests ≡ stop r
  accepted_refused e = sym (says_same p.says) ∙ ap said e

-- ---- LENGTH and QUANTIZER

module _ (n qp given room : ℕ) where
  pub lent_short : (given ≡ n → ⊥) → chain (lent_tests n qp given room) ≡ stop refusal.Length
  lent_short h = simp (ne_eqb given n h)

  -- where both lengths are right the quantizer's own test decides
  pub lent_rest : given ≡ n → room ≡ n → chain (lent_tests n qp given room) ≡ chain (number_tests qp)
  lent_rest h k = rw (eq-eqb given n h, eq-eqb room n k)

  pub lent_fine : given ≡ n → room ≡ n → qp ≤ highest → chain (lent_tests n qp given room) ≡ pass
  lent_fine h k q = lent_rest h k ∙ legal qp q

  -- what the entry points learn from `accepted`
  pub record Accepted (q : Quantizer) : Type 0 where
    pub passed : chain (lent_tests n qp given room) ≡ pass
    pub long : given ≡ n
    pub space : room ≡ n
    pub legal : qp ≤ highest
    pub number : q.qp ≡ qp

  pub accepted_legal : {b : Result Quantizer Refusal} {q : Quantizer} → Accepts (lent_tests n qp given room) qp b → b ≡ Ok q → Accepted q
  accepted_legal {b} {q} p e =
      let v = accepted_passed (lent_tests n qp given room) qp p e in
      let a = (chain_exactly_if (lent_tests n qp given room)).passes.0 v in
      record {
        passed = v;
        long = eqb-true given n a.0;
        space = eqb-true room n a.1.0;
        legal = number_legal 0 qp a.1.1.0;
        number = accepted_number (lent_tests n qp given room) qp p e;
      }

-- ---- RESIDUAL

module _ (n : ℕ) (low high : ℤ) (qp : ℕ) (numbers : List ℤ) (room : ℕ) where
  module _ (passed : chain (lent_tests n qp (length numbers) room) ≡ pass) where
    pub residuals_outside : first_outside low high numbers < n → chain (residual_tests n low high qp numbers room) ≡ stop (refusal.Residual (first_outside low high numbers))
    residuals_outside l = scan_found (lent_tests n qp (length numbers) room) passed n (first_outside low high numbers) refusal.Residual [] l

    pub residuals_fine : length numbers ≡ n → n ≤ first_outside low high numbers → chain (residual_tests n low high qp numbers room) ≡ pass
    residuals_fine k l = scan_none (lent_tests n qp (length numbers) room) passed n (first_outside low high numbers) refusal.Residual [] (at_end low high numbers n k l)

  -- what a caller learns where all pass
  pub record AcceptedResiduals (q : Quantizer) : Type 0 where
    pub passed : chain (residual_tests n low high qp numbers room) ≡ pass
    pub long : length numbers ≡ n
    pub space : room ≡ n
    pub legal : qp ≤ highest
    pub number : q.qp ≡ qp
    pub none : length numbers ≤ first_outside low high numbers

  pub residuals_legal : {b : Result Quantizer Refusal} {q : Quantizer} → Accepts (residual_tests n low high qp numbers room) qp b → b ≡ Ok q → AcceptedResiduals q
  residuals_legal {b} {q} p e =
      let v = accepted_passed (residual_tests n low high qp numbers room) qp p e in
      let a = (chain_exactly_if (residual_tests n low high qp numbers room)).passes.0 v in
      let k : length numbers ≡ n = eqb-true (length numbers) n a.0 in
      let none : first_outside low high numbers ≡ n = eqb-true (first_outside low high numbers) n a.1.1.1.0 in
      record {
        passed = v;
        long = k;
        space = eqb-true room n a.1.0;
        legal = number_legal 0 qp a.1.1.0;
        number = accepted_number (residual_tests n low high qp numbers room) qp p e;
        none = omega arith;
      }

-- ---- the end of rebuilding

module _ (d : List ℤ) where
  pub range_far : first_wide (in_zigzag d) < 16 → chain (range_test d ∷ []) ≡ stop (refusal.Range (first_wide (in_zigzag d)))
  range_far l = scan_found [] refl 16 (first_wide (in_zigzag d)) refusal.Range [] l

  pub range_fine : 16 ≤ first_wide (in_zigzag d) → chain (range_test d ∷ []) ≡ pass
  range_fine l = scan_none [] refl 16 (first_wide (in_zigzag d)) refusal.Range [] (at_end (negsuc 32767) (pos 32767) (in_zigzag d) 16 (length_zigzag d) l)

  pub range_each : length d ≡ 16 → 16 ≤ first_wide (in_zigzag d) → Each 32768 d
  range_each e l = zigzag_each 32768 d e (wide_each (in_zigzag d) (omega (arith, length_zigzag d)))

-- ---- LENGTH, QUANTIZER, LEVEL

module _ (n from qp predicted : ℕ) (l : List ℤ) (room : ℕ) where
  module _ (k : length l ≡ n) where
    module _ (passed : chain (lent_tests 16 qp predicted room) ≡ pass) where
      pub levels_wide : first_wide l < n → chain (level_tests n from qp predicted l room) ≡ stop (refusal.Level (from + first_wide l))
      levels_wide w = rw (eq-eqb (length l) n k) (scan_found (lent_tests 16 qp predicted room) passed n (first_wide l) (λ k. refusal.Level (from + k)) [] w)

      pub levels_fine : n ≤ first_wide l → chain (level_tests n from qp predicted l room) ≡ pass
      levels_fine w =
          rw (eq-eqb (length l) n k)
          (scan_none (lent_tests 16 qp predicted room) passed n (first_wide l) (λ k. refusal.Level (from + k)) [] (at_end (negsuc 32767) (pos 32767) l n k w))

  -- what a caller learns where all pass
  pub record AcceptedLevels (q : Quantizer) : Type 0 where
    pub passed : chain (level_tests n from qp predicted l room) ≡ pass
    pub long : predicted ≡ 16
    pub count : length l ≡ n
    pub space : room ≡ 16
    pub legal : qp ≤ highest
    pub number : q.qp ≡ qp
    pub small : Each 32768 l

  pub levels_legal : {b : Result Quantizer Refusal} {q : Quantizer} → Accepts (level_tests n from qp predicted l room) qp b → b ≡ Ok q → AcceptedLevels q
  levels_legal {b} {q} p e =
      let v = accepted_passed (level_tests n from qp predicted l room) qp p e in
      let a = (chain_exactly_if (level_tests n from qp predicted l room)).passes.0 v in
      let w : first_wide l ≡ n = eqb-true (first_wide l) n a.1.1.1.1.0 in
      let k : length l ≡ n = eqb-true (length l) n a.0 in
      record {
        passed = v;
        long = eqb-true predicted 16 a.1.0;
        count = k;
        space = eqb-true room 16 a.1.1.0;
        legal = number_legal 0 qp a.1.1.1.0;
        number = accepted_number (level_tests n from qp predicted l room) qp p e;
        small = wide_each l (omega arith);
      }
