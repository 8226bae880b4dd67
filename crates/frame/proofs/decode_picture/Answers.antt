-- `frame::decode_picture` meets its contract: the head, and then what is tested behind it. Assumes nothing.
use Rattle.std.proofs.lemmas.Result.{err_from_is_err_and}
use mathlib.Core.Path.{refl}
use Rattle.plane.proofs.Entry.{head_read}
use Rattle.frame.proofs.Entry.{picture_head_refused, picture_by}
use Rattle.frame.proofs.decode_picture.Goals as goal

pub decode_planes-requires : goal.decode_planes-requires
decode_planes-requires c = (head_read c.args.file.now c.in_ok-head.ensures refl).sound

pub returns-in_err-head : goal.returns-in_err-head
returns-in_err-head c =
    let a = c.args in
    let p = err_from_is_err_and c.from_residual.result c.from_residual.ensures.1 in
    rw (p.1, p.2) (picture_head_refused a.file.now a.luma.now a.cb.now a.cr.now c.in_err-head.ensures refl)

pub returns : goal.returns
returns c =
    let a = c.args in
    picture_by a.file.now a.luma.now a.cb.now a.cr.now (head_read a.file.now c.in_ok-head.ensures refl) c.decode_planes.ensures
