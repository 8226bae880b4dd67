-- `frame::code::code_frame` meets its contract: the head, and a loop over macroblocks, each over the front of what is left. Assumes nothing.
use mathlib.Core.Path.{refl}
use Prim.Native.Nat.{◌+◌, ◌≤◌}
use native.Mathlib.Omega.{arith}
use borrow.Author.Rules.{rules}
use lib.ListN.{length}
use Rattle.record.specs.Kinds.{in_fours, in_chroma, length_of}
use Rattle.picture.specs.Both.{pair}
use Rattle.plane.proofs.Coding.{same_area}
use Rattle.frame.proofs.CodingFrame.{frame_begun, frame_room, frame_more, frame_done}
use Rattle.frame.proofs.code.code_frame.Goals as goal
use Rattle.frame.proofs.code.code_frame.Goals.{In-loop-m}

-- what is left behind the place has room for both records of macroblock m
room : (c : In-loop-m) → c.loop-m.place + (length_of in_fours + length_of in_chroma) ≤ length c.loop-m.file
room c =
    let a = c.args in
    let chroma = pair a.cb.now a.cr.now in
    let i = c.loop-m.invariant in
    let r = frame_room a.layout a.quantizer.qp a.offsets.cb a.offsets.cr a.luma.now chroma _ _ _ i c.loop-m-test.true in
    let e = same_area _ i.front in
    omega (arith, r, e)

pub loop-m-init : goal.loop-m-init
loop-m-init c =
    let a = c.args in
    let chroma = pair a.cb.now a.cr.now in
    let rebuilt = pair a.cb_out.now a.cr_out.now in
    let r = c.requires.layout_in_bounds in
    frame_begun a.layout a.quantizer.qp a.offsets.cb a.offsets.cr a.luma.now chroma a.luma_out.now rebuilt a.file.now
    r.1 (record { cbs = r.2; crs = r.3 }) r.0 c.write_head-place.ensures.file_after c.write_head-place.ensures.value

pub code_records-used-requires-clause-in_chroma_in_bounds : goal.code_records-used-requires-clause-in_chroma_in_bounds
code_records-used-requires-clause-in_chroma_in_bounds c =
    let i = c.loop-m.invariant in
    let enough = room (goal.at.code_records-used-requires-clause-in_chroma_in_bounds c).In-loop-m in
    (search rules, i.kept, i.long.cbs, i.long.crs)

pub loop-m-preserved : goal.loop-m-preserved
loop-m-preserved c =
    let a = c.args in
    let chroma = pair a.cb.now a.cr.now in
    let e = c.code_records-used.ensures in
    frame_more a.layout a.quantizer.qp a.offsets.cb a.offsets.cr a.luma.now chroma _ _ _ c.requires.sound.0.some c.loop-m.invariant c.loop-m-test.true
    refl e.value e.file_after e.luma_out_after e.cr_out_after

pub returns : goal.returns
returns c =
    let a = c.args in
    let chroma = pair a.cb.now a.cr.now in
    let rebuilt = pair a.cb_out.now a.cr_out.now in
    let d =
    frame_done a.layout a.quantizer.qp a.offsets.cb a.offsets.cr a.luma.now chroma a.luma_out.now rebuilt a.file.now
    c.write_head-place.ensures.file_after c.loop-m.invariant c.loop-m-test.false in
    record { value = d.0; file_after = d.1; luma_out_after = d.2; cr_out_after = d.3 }
