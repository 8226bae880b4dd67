-- `inspection::inspect_body` meets its contract: the length of their plane, the tests of all records, and then their samples. Assumes nothing.
use Rattle.std.proofs.lemmas.Result.{err_from_is_err_and}
use mathlib.Core.Path.{sym, ◌∙◌}
use Rattle.inspection.proofs.Entry.{records_refused, records_fine}
use Rattle.inspection.proofs.inspect_body.Goals as goal

pub returns-in_err-test_file : goal.returns-in_err-test_file
returns-in_err-test_file c =
    let a = c.args in
    let p = err_from_is_err_and c.from_residual.result c.from_residual.ensures.1 in
    rw (p.1, p.2) (sym (records_refused a.layout a.place a.file.now a.theirs.now c.if-theirs-count.false (sym c.in_err-test_file.ensures)))

pub returns : goal.returns
returns c =
    let a = c.args in
    c.compare.ensures ∙ sym (records_fine a.layout a.place a.file.now a.theirs.now c.if-theirs-count.false (sym c.in_ok-test_file.ensures))
