use mathlib.Core.Path.{sym, ap, ◌∙◌}
use Prim.Native.Nat.{ℕ}
use borrow.Author.Tests.{eq-eqb, ne_eqb}
use Rattle.octets.specs.Numbers.{number_at}
use Rattle.head.specs.Entry.{rows_at}
use Rattle.head.specs.Heads.{new_mark}
use Rattle.head.proofs.inner.rows_at.Goals as goal
use Rattle.head.proofs.inner.rows_at.Goals.{then-number_at-eq-NEW_MARK, else-number_at-eq-NEW_MARK}

pub returns : goal.returns
unfolding rows_at
returns c =
    let file = c.args.file.now in
    c.from.ensures
    ∙ c.number_at-2.ensures
    ∙ elim c.if-number_at-eq-NEW_MARK.branch [
      | then-number_at-eq-NEW_MARK w ↦ rw (eq-eqb (number_at 0 file) new_mark (sym c.number_at.ensures ∙ w.if-number_at-eq-NEW_MARK.true)) (ap (λ (p : ℕ). number_at p file) w.place-is)
      | else-number_at-eq-NEW_MARK w ↦ rw (ne_eqb (number_at 0 file) new_mark (λ e. w.if-number_at-eq-NEW_MARK.false (c.number_at.ensures ∙ e))) (ap (λ (p : ℕ). number_at p file) w.place-is)
    ]
