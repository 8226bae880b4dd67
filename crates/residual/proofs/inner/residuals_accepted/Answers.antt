-- `residual::inner::residuals_accepted` meets its contract: each verdict by its law. Assumes nothing.
use mathlib.Core.Path.{◌≡◌, refl, sym, ap, ◌∙◌}
use mathlib.Core.List.{List}
use Prim.Native.Nat.{ℕ}
use native.Mathlib.Omega.{arith}
use lib.IntN.{ℤ}
use lib.ListN.{length}
use mir.Syntax.{w32}
use mir.ValLaws.{to_z-of_z}
use Rattle.std.proofs.Common.{Option}
use Rattle.lists.specs.Chain.{stop}
use Rattle.lists.specs.First.{found}
use Rattle.lists.proofs.Chain.{written_passed, written_refused}
use Rattle.lists.proofs.First.{found_some, found_none}
use Rattle.whole.specs.Range.{first_outside}
use Rattle.refusal.specs.declared.Refusal.TheVariants.{Residual}
use Rattle.refusal.proofs.Same.{says}
use Rattle.residual.proofs.Entry.{accepted_legal, residuals_outside, residuals_fine}
use Rattle.residual.proofs.inner.residuals_accepted.Goals as goal

-- what was looked for in a list l between two limits, of the numbers that l is and the limits that these are
looked_for : {r : Option ℕ} {l numbers : List ℤ} {m n low high : ℤ} → r ≡ found (length l) (first_outside m n l) → m ≡ low → n ≡ high → l ≡ numbers
    → r ≡ found (length numbers) (first_outside low high numbers)
looked_for looked lowest highest all = looked ∙ (λ i. found (length (all i)) (first_outside (lowest i) (highest i) (all i)))

pub returns-in-Some : goal.returns-in-Some
returns-in-Some c =
    let a = c.args in
    let t = accepted_legal a.n a.qp (length a.numbers.now) a.room c.in_ok-quantizer.ensures refl in
    -- the scan's limits are read back from their bits
    let looked = looked_for c.first_outside.ensures (to_z-of_z w32 a.low c.ranges.low) (to_z-of_z w32 a.high c.ranges.high) in
    let is = found_some (length a.numbers.now) (first_outside a.low a.high a.numbers.now) (sym (looked refl) ∙ c.in-Some.is) in
    let e = residuals_outside a.n a.low a.high a.qp a.numbers.now a.room t.passed (omega (arith, is.1, t.long)) in
    record { says = says (ap (λ (k : ℕ). stop (Residual k)) is.0 ∙ sym e); value = written_refused a.qp e }

pub returns : goal.returns
returns c =
    let a = c.args in
    let t = accepted_legal a.n a.qp (length a.numbers.now) a.room c.in_ok-quantizer.ensures refl in
    let looked = looked_for c.first_outside.ensures (to_z-of_z w32 a.low c.ranges.low) (to_z-of_z w32 a.high c.ranges.high) in
    let none = found_none (length a.numbers.now) (first_outside a.low a.high a.numbers.now) (sym (looked refl) ∙ c.in_default.is) in
    let e = residuals_fine a.n a.low a.high a.qp a.numbers.now a.room t.passed t.long (omega (arith, none, t.long)) in
    record { says = says (sym e); value = written_passed 0 e t.number }
