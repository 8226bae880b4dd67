-- `plane::code::code_file` meets its contract: the head, and a loop over macroblocks, each over the front of what is left. Assumes nothing.
use mathlib.Core.Path.{refl}
use Prim.Native.Nat.{◌+◌, ◌≤◌}
use native.Mathlib.Omega.{arith}
use borrow.Author.Rules.{rules}
use lib.ListN.{length}
use Rattle.record.specs.Kinds.{in_fours, length_of}
use Rattle.plane.proofs.Coding.{file_begun, same_area, room_left, file_more, file_done}
use Rattle.plane.proofs.code.code_file.Goals as goal

pub loop-m-init : goal.loop-m-init
loop-m-init c =
    let a = c.args in
    let r = c.requires.layout_in_bounds in
    let w = c.write_head-place.ensures in
    file_begun a.layout a.quantizer.qp a.plane.now a.rebuilt.now a.file.now r.1 r.0 w.file_after w.value

-- what is left behind the place has room for record m
pub code_macroblock-used-requires-clause-in_fours_in_bounds : goal.code_macroblock-used-requires-clause-in_fours_in_bounds
code_macroblock-used-requires-clause-in_fours_in_bounds c =
    let r = room_left c.args.layout c.args.quantizer.qp c.args.plane.now _ _ c.loop-m.invariant c.loop-m-test.true in
    let e = same_area _ c.loop-m.invariant.front in
    let left : c.loop-m.place + length_of in_fours ≤ length c.loop-m.file = omega (arith, r, e) in
    (search rules, c.loop-m.invariant.kept)

pub loop-m-preserved : goal.loop-m-preserved
loop-m-preserved c =
    let e = c.code_macroblock-used.ensures in
    file_more _ _ _ _ _ c.requires.sound.0.some c.loop-m.invariant c.loop-m-test.true refl e.value e.file_after e.rebuilt_after

pub returns : goal.returns
returns c =
    let a = c.args in
    let d =
    file_done a.layout a.quantizer.qp a.plane.now a.rebuilt.now a.file.now c.write_head-place.ensures.file_after c.loop-m.invariant c.loop-m-test.false in
    record { value = d.0; file_after = d.1; rebuilt_after = d.2 }
