use mathlib.Core.Path.{sym, ap, ◌∙◌}
use native.Mathlib.Omega.{arith}
use lib.ListN.{drop, length-drop}
use Rattle.record.specs.Kinds.{record_length}
use Rattle.record.proofs.Marks.{length_cut, length_there}
use Rattle.record.proofs.Walks.{mark_drop}
use Rattle.record.proofs.inner.length_from.Goals as goal

pub returns-then-left-lt2 : goal.returns-then-left-lt2
returns-then-left-lt2 c =
    let a = c.args in
    sym (length_cut (drop a.place a.file.now) (omega (arith, c.left.ensures, c.if-left-lt2.true, length-drop a.place a.file.now)))

pub returns : goal.returns
returns c =
    let a = c.args in
    c.record_length.ensures
    ∙ ap record_length (c.number_at.ensures ∙ sym (mark_drop a.file.now a.place))
    ∙ sym (length_there (drop a.place a.file.now) (omega (arith, c.left.ensures, c.if-left-lt2.false, length-drop a.place a.file.now)))
