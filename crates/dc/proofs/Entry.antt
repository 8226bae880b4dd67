-- What the tests come to.
--     Codable, codable                                    what those tests tell where they pass
--     dc_values_fine                                      to values, over how many
-- Assumes nothing.
use mathlib.Core.Path.{◌≡◌, refl, ◌∙◌}
use mathlib.Core.List.{List, [], ◌∷◌, ◌++◌}
use Prim.Native.Nat.{ℕ, ◌≤◌}
use native.Mathlib.Omega.{arith}
use borrow.Author.Tests.{eqb-true}
use lib.IntN.{ℤ, pos, negsuc}
use lib.ListN.{length}
use Rattle.lists.specs.Chain.{scan_test, chain, pass}
use Rattle.lists.proofs.Chain.{chain_exactly_if, scan_none}
use Rattle.whole.specs.Bounds.{Each}
use Rattle.whole.specs.Range.{first_outside}
use Rattle.whole.proofs.Range.{none_each}
use Rattle.refusal.specs.declared.Refusal.TheVariants as refusal
use Rattle.quantizer.specs.Range.{highest}
use Rattle.quantizer.proofs.Range.{number_legal}
use Rattle.residual.specs.Entry.{first_wide, lent_tests}
use Rattle.residual.proofs.Entry.{lent_fine}
use Rattle.dc.specs.Entry.{dc_levels_tests}

-- ---- to levels

-- n DC values within 4080, and a legal quantizer
pub record Codable (n qp : ℕ) (dc : List ℤ) : Type 0 where
  pub long : length dc ≡ n
  pub legal : qp ≤ highest
  pub small : Each 4080 dc

pub codable : (n qp : ℕ) (dc out : List ℤ) → chain (dc_levels_tests n qp dc out) ≡ pass → Codable n qp dc
codable n qp dc out e =
    let a = (chain_exactly_if (dc_levels_tests n qp dc out)).passes.0 e in
    let l : length dc ≡ n = eqb-true (length dc) n a.0 in
    let none : first_outside (negsuc 4079) (pos 4080) dc ≡ n = eqb-true (first_outside (negsuc 4079) (pos 4080) dc) n a.1.1.1.0 in
    record { long = l; legal = number_legal 0 qp a.1.1.0; small = none_each (negsuc 4079) (pos 4080) dc 4080 tt tt (omega arith) }

-- ---- to values: n levels that fit 16 bits, and no value too far before n; far is the first, in the order of the levels

pub dc_values_fine : (n qp : ℕ) (levels out : List ℤ) (far : ℕ) → length levels ≡ n → length out ≡ n → qp ≤ highest → first_wide levels ≡ n → far ≡ n
    → chain (lent_tests n qp (length levels) (length out) ++ (scan_test n (first_wide levels) refusal.Level ∷ scan_test n far refusal.Range ∷ [])) ≡ pass
dc_values_fine n qp levels out far long room legal narrow near =
    scan_none (lent_tests n qp (length levels) (length out)) (lent_fine n qp (length levels) (length out) long room legal) n (first_wide levels) refusal.Level (scan_test n far refusal.Range ∷ []) narrow
    ∙ scan_none [] refl n far refusal.Range [] near
