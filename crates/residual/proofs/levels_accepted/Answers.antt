-- `residual::levels_accepted` meets its contract: each verdict by its law. Assumes nothing.
use mathlib.Core.Path.{refl, sym, ap, ◌∙◌}
use Prim.Native.Nat.{ℕ, ◌+◌}
use native.Mathlib.Omega.{arith}
use lib.ListN.{length}
use Rattle.lists.specs.Chain.{stop}
use Rattle.lists.proofs.Chain.{written_passed, written_refused}
use Rattle.lists.proofs.First.{found_some, found_none}
use Rattle.refusal.specs.declared.Refusal.TheVariants.{Level}
use Rattle.refusal.proofs.Same.{says}
use Rattle.residual.specs.Entry.{first_wide}
use Rattle.residual.proofs.Entry.{accepted_legal, levels_wide, levels_fine}
use Rattle.residual.proofs.levels_accepted.Goals as goal

pub overflow_add-result : goal.overflow_add-result
overflow_add-result c =
    let a = c.args in
    let is = found_some (length a.levels.now) (first_wide a.levels.now) (sym c.first_outside.ensures ∙ c.in-Some.is) in
    record { fits = omega (arith, is.0, is.1, c.if-levels-n.false, c.ranges.n.fits, c.requires) }

pub returns-in-Some : goal.returns-in-Some
returns-in-Some c =
    let a = c.args in
    let t = accepted_legal 16 a.qp a.predicted a.room c.in_ok-quantizer.ensures refl in
    let is = found_some (length a.levels.now) (first_wide a.levels.now) (sym c.first_outside.ensures ∙ c.in-Some.is) in
    let e = levels_wide a.n a.from a.qp a.predicted a.levels.now a.room c.if-levels-n.false t.passed (omega (arith, is.1, c.if-levels-n.false)) in
    record { says = says (ap (λ (k : ℕ). stop (Level (a.from + k))) is.0 ∙ sym e); value = written_refused a.qp e }

pub returns : goal.returns
returns c =
    let a = c.args in
    let t = accepted_legal 16 a.qp a.predicted a.room c.in_ok-quantizer.ensures refl in
    let none = found_none (length a.levels.now) (first_wide a.levels.now) (sym c.first_outside.ensures ∙ c.in_default.is) in
    let e = levels_fine a.n a.from a.qp a.predicted a.levels.now a.room c.if-levels-n.false t.passed (omega (arith, none, c.if-levels-n.false)) in
    record { says = says (sym e); value = written_passed 0 e t.number }
