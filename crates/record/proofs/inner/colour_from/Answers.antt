use mathlib.Core.Path.{sym, ap, ◌∙◌}
use borrow.Author.Rules.{rules}
use lib.Dec.{eqb}
use Rattle.record.specs.Kinds.{in_chroma}
use Rattle.record.proofs.Colours.{longest_from, mono_cut, colour_there}
use Rattle.record.proofs.inner.colour_from.Goals as goal

-- `record::inner::colour_from` meets its contract: the mark behind the record, where there is one. Assumes nothing.
pub overflow_add-long : goal.overflow_add-long
overflow_add-long c =
    let a = c.args in
    let h = longest_from a.file.now a.place c.length_from-long.ensures in
    search rules

pub returns-then-left-long : goal.returns-then-left-long
returns-then-left-long c =
    let a = c.args in
    sym (mono_cut a.file.now a.place c.length_from-long.ensures c.left.ensures c.if-left-long.true)

pub returns : goal.returns
returns c =
    let a = c.args in
    ap (λ n. eqb n in_chroma.mark) c.number_at.ensures
    ∙ sym (colour_there a.file.now a.place c.length_from-long.ensures c.left.ensures c.if-left-long.false)
