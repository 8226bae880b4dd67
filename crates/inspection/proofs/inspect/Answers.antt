-- `inspection::inspect` meets its contract: the head, and then what is tested behind it. Assumes nothing.
use Rattle.std.proofs.lemmas.Result.{err_from_is_err_and}
use mathlib.Core.Path.{refl}
use Rattle.plane.proofs.Entry.{head_read}
use Rattle.inspection.proofs.Entry.{head_refuses, inspects_by}
use Rattle.inspection.proofs.inspect.Goals as goal

pub inspect_body-requires : goal.inspect_body-requires
inspect_body-requires c = (head_read c.args.file.now c.in_ok-head.ensures refl).sound

pub returns-in_err-head : goal.returns-in_err-head
returns-in_err-head c =
    let p = err_from_is_err_and c.from_residual.result c.from_residual.ensures.1 in
    rw (p.1, p.2) (head_refuses c.args.file.now c.args.theirs.now c.in_err-head.ensures refl)

pub returns : goal.returns
returns c =
    inspects_by c.args.file.now c.args.theirs.now c.inspect_body.result (head_read c.args.file.now c.in_ok-head.ensures refl) c.inspect_body.ensures
