-- `residual::finished` meets its contract: RANGE by its law, and the samples over a copy of the prediction. Assumes nothing.
use borrow.Author.Rules.{rules}
use mathlib.Core.Path.{◌≡◌, sym, ap, ◌∙◌}
use mathlib.Core.List.{List}
use Prim.Native.Nat.{ℕ, ◌<◌, ◌≤◌}
use lib.IntN.{ℤ}
use lib.ListN.{length}
use Rattle.std.proofs.Common.{Option, Some, None}
use Rattle.lists.specs.Chain.{Verdict, stop, written}
use Rattle.lists.specs.First.{found}
use Rattle.lists.proofs.Chain.{written_refused}
use Rattle.lists.proofs.First.{found_some, found_none}
use Rattle.refusal.specs.declared.Refusal.{Refusal}
use Rattle.refusal.specs.declared.Refusal.TheVariants.{Range}
use Rattle.refusal.proofs.Same.{says}
use Rattle.residual.specs.Entry.{first_wide}
use Rattle.residual.specs.Order.{in_zigzag}
use Rattle.residual.specs.Rebuild.{rebuilt_samples}
use Rattle.residual.proofs.Entry.{range_far, range_fine, range_each}
use Rattle.residual.proofs.Order.{length_zigzag}
use Rattle.residual.proofs.finished.Goals as goal

-- what is found is the first wide number in the order of the levels; what the addition finds is the prediction
module _ (d : List ℤ) {r : Option ℕ} {l : List ℤ} (looked : r ≡ found (length l) (first_wide l)) (is : l ≡ in_zigzag d) where
  first : r ≡ found 16 (first_wide (in_zigzag d))
  first = looked ∙ (λ i. found (length (is i)) (first_wide (is i))) ∙ ap (λ (n : ℕ). found n (first_wide (in_zigzag d))) (length_zigzag d)

  far : {k : ℕ} → r ≡ Some k → (k ≡ first_wide (in_zigzag d)) × (first_wide (in_zigzag d) < 16)
  far e = found_some 16 (first_wide (in_zigzag d)) (sym first ∙ e)

  none : r ≡ None → 16 ≤ first_wide (in_zigzag d)
  none e = found_none 16 (first_wide (in_zigzag d)) (sym first ∙ e)

pub returns-in-Some : goal.returns-in-Some
returns-in-Some c =
    let d = c.args.numbers in
    let is = far d c.first_outside.ensures c.in_zigzag-ordered.ensures c.in-Some.is in
    let f = range_far d is.1 in
    record { says = says (ap (λ (k : ℕ). stop (Range k)) is.0 ∙ sym f); wrote = written_refused (rebuilt_samples c.args.prediction.now d) f }

pub rebuild_over-requires : goal.rebuild_over-requires
rebuild_over-requires c =
    let d = c.args.numbers in
    let long : length d ≡ 16 = search rules in
    (ap length c.copy_from_slice.ensures.after ∙ c.requires.0, range_each d long (none d c.first_outside.ensures c.in_zigzag-ordered.ensures c.in_default.is))

pub returns : goal.returns
returns c =
    let d = c.args.numbers in
    let f = range_fine d (none d c.first_outside.ensures c.in_zigzag-ordered.ensures c.in_default.is) in
    let made = c.rebuild_over.ensures ∙ ap (λ (l : List ℕ). rebuilt_samples l d) c.copy_from_slice.ensures.after in
    record { says = says (sym f); wrote = made ∙ ap (λ (v : Verdict Refusal). written v (rebuilt_samples c.args.prediction.now d) c.args.out.now) (sym f) }
