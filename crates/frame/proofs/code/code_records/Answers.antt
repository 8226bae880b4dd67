-- `frame::code::code_records` meets its contract: the luma record, and the chroma record over the front of what is left. Assumes nothing.
use mathlib.Core.Path.{refl}
use native.Mathlib.Omega.{arith}
use borrow.Author.Rules.{rules}
use Prim.Native.Nat.{◌+◌, ◌≤◌}
use lib.ListN.{length}
use mir.Syntax.{w32}
use mir.ValLaws.{to_z-of_z}
use Rattle.record.specs.Kinds.{in_chroma, length_of}
use Rattle.picture.specs.Both.{pair}
use Rattle.macroblock.proofs.RecordFrom.{length_record_from}
use Rattle.frame.proofs.CodingFrame.{records_made}
use Rattle.frame.proofs.code.code_records.Goals as goal

pub code_chroma-more-requires-clause-cb_len : goal.code_chroma-more-requires-clause-cb_len
code_chroma-more-requires-clause-cb_len c =
    let a = c.args in
    let n = length_record_from a.layout a.quantizer.qp a.luma.now a.m a.luma_out.now in
    let r : c.code_macroblock-used.result + length_of in_chroma ≤ length a.file.now = omega (arith, c.code_macroblock-used.ensures.value, n, c.requires.in_chroma_in_bounds.0) in
    (c.requires.luma_len.1, c.requires.luma_len.2, search rules)

pub returns-clause-value : goal.returns-clause-value
returns-clause-value c =
    let a = c.args in
    let cb_same = to_z-of_z w32 a.offsets.cb (search rules) in
    let cr_same = to_z-of_z w32 a.offsets.cr (search rules) in
    let x = c.code_macroblock-used.ensures in
    let y = c.code_chroma-more.ensures in
    (records_made a.layout a.quantizer.qp a.offsets.cb a.offsets.cr a.luma.now (pair a.cb.now a.cr.now) a.m a.luma_out.now (pair a.cb_out.now a.cr_out.now) a.file.now
    c.requires.in_chroma_in_bounds.0 c.number.ensures cb_same cr_same refl x.value x.file_after y.value y.file_after).next

pub returns-clause-file_after : goal.returns-clause-file_after
returns-clause-file_after c =
    let a = c.args in
    let cb_same = to_z-of_z w32 a.offsets.cb (search rules) in
    let cr_same = to_z-of_z w32 a.offsets.cr (search rules) in
    let x = c.code_macroblock-used.ensures in
    let y = c.code_chroma-more.ensures in
    (records_made a.layout a.quantizer.qp a.offsets.cb a.offsets.cr a.luma.now (pair a.cb.now a.cr.now) a.m a.luma_out.now (pair a.cb_out.now a.cr_out.now) a.file.now
    c.requires.in_chroma_in_bounds.0 c.number.ensures cb_same cr_same refl x.value x.file_after y.value y.file_after).filled
