-- `plane::decode_plane` meets its contract: the head, and then what is tested behind it. Assumes nothing.
use Rattle.std.proofs.lemmas.Result.{err_from_is_err_and}
use mathlib.Core.Path.{refl}
use Rattle.plane.proofs.Entry.{head_read, head_refused, decodes_by}
use Rattle.plane.proofs.decode_plane.Goals as goal

pub decode-requires : goal.decode-requires
decode-requires c = (head_read c.args.file.now c.in_ok-head.ensures refl).sound

pub returns-in_err-head : goal.returns-in_err-head
returns-in_err-head c =
    let p = err_from_is_err_and c.from_residual.result c.from_residual.ensures.1 in
    rw (p.1, p.2) (head_refused c.args.file.now c.args.plane.now c.in_err-head.ensures refl)

pub returns : goal.returns
returns c = decodes_by c.args.file.now c.args.plane.now (head_read c.args.file.now c.in_ok-head.ensures refl) c.decode.ensures
