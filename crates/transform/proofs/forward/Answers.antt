-- `transform::forward` meets its contract: each verdict by its law, and the coefficients by `forward_block` between two copies.
-- Assumes nothing.
use borrow.Author.Rules.{rules}
use mathlib.Core.Path.{◌≡◌, sym, ap, ◌∙◌}
use Prim.Native.Nat.{ℕ, ◌≤◌}
use native.Mathlib.Omega.{arith}
use lib.ListN.{length}
use Rattle.lists.specs.Chain.{Verdict, stop, written}
use Rattle.lists.proofs.Chain.{written_refused}
use Rattle.lists.proofs.First.{found_some, found_none}
use Rattle.whole.proofs.Lists.{each_less}
use Rattle.refusal.specs.declared.Refusal.{Refusal}
use Rattle.refusal.specs.declared.Refusal.TheVariants.{Residual}
use Rattle.refusal.proofs.Same.{says}
use Rattle.transform.specs.Entry.{outside}
use Rattle.transform.specs.Forward.{forward}
use Rattle.transform.proofs.Entry.{outside_range, in_range, small}
use Rattle.transform.proofs.Sides.{kept}
use Rattle.transform.proofs.forward.Goals as goal

pub returns-in-Some : goal.returns-in-Some
returns-in-Some c =
    let x = c.args.residual.now in
    let y = c.args.coefficients.now in
    let first = found_some (length x) (outside x) (sym c.first_outside.ensures ∙ c.in-Some.is) in
    let e = outside_range x y c.if-residual-ne16.false c.if-coefficients-ne16.false (omega (arith, first.1, c.if-residual-ne16.false)) in
    record { says = says (ap (λ (k : ℕ). stop (Residual k)) first.0 ∙ sym e); wrote = written_refused (forward x) e }

pub forward_block-y-requires : goal.forward_block-y-requires
forward_block-y-requires c =
    let x = c.args.residual.now in
    let none = found_none (length x) (outside x) (sym c.first_outside.ensures ∙ c.in_default.is) in
    let far : 16 ≤ outside x = omega (arith, none, c.if-residual-ne16.false) in
    let same : c.unwrap-x.result ≡ x = search rules in
    kept 32768 same (each_less 255 32768 x (small x c.args.coefficients.now c.if-residual-ne16.false far) tt)

pub returns : goal.returns
returns c =
    let x = c.args.residual.now in
    let y = c.args.coefficients.now in
    let none = found_none (length x) (outside x) (sym c.first_outside.ensures ∙ c.in_default.is) in
    let far : 16 ≤ outside x = omega (arith, none, c.if-residual-ne16.false) in
    let e = in_range x y c.if-residual-ne16.false c.if-coefficients-ne16.false far in
    let same : c.unwrap-x.result ≡ x = search rules in
    let made = c.copy.ensures ∙ c.forward_block-y.ensures ∙ ap forward same in
    record { says = says (sym e); wrote = made ∙ ap (λ (v : Verdict Refusal). written v (forward x) y) (sym e) }
