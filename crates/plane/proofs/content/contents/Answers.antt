-- `plane::content::contents` meets its contract: a loop that leaves at the first macroblock whose records' content is not fine. Assumes nothing.
use Rattle.std.proofs.lemmas.Result.{err_from_is_err_and}
use mathlib.Core.Path.{sym, ◌∙◌}
use Prim.Native.Nat.{◌*◌}
use native.Mathlib.Omega.{arith}
use Rattle.lists.proofs.Chains.{chain_none, chain_one, chain_stop}
use Rattle.plane.specs.Decode.{macroblock_tests}
use Rattle.plane.proofs.Walking.{walking_none, next_is, next_inside}
use Rattle.plane.proofs.content.contents.Goals as goal

pub loop-m-init : goal.loop-m-init
loop-m-init c =
    let a = c.args in
    (omega arith, walking_none a.layout a.file.now a.start, chain_none _)

pub returns-in_err-test_records : goal.returns-in_err-test_records
returns-in_err-test_records c =
    let a = c.args in
    let p = err_from_is_err_and c.from_residual.result c.from_residual.ensures.1 in
    rw (p.1, p.2) (sym (chain_stop (macroblock_tests a.layout a.start a.file.now) (a.layout.width * a.layout.height) c.loop-m.m _ c.loop-m-test.true c.loop-m.invariant.2
    (sym c.in_err-test_records.ensures)))

pub next_place-place-requires : goal.next_place-place-requires
next_place-place-requires c =
    let a = c.args in
    next_inside a.layout a.file.now a.start c.requires.2 c.loop-m.m c.loop-m-test.true c.loop-m.invariant.1 c.requires.1

pub loop-m-preserved : goal.loop-m-preserved
loop-m-preserved c =
    let a = c.args in (
      omega (arith, c.loop-m-test.true),
      c.next_place-place.ensures ∙ next_is a.layout a.file.now a.start c.loop-m.m c.loop-m.invariant.1 c.requires.1,
      chain_one (macroblock_tests a.layout a.start a.file.now) c.loop-m.m c.loop-m.invariant.2 ∙ sym c.in_ok-test_records.ensures,
    )
