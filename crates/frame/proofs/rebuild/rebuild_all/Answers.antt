-- `frame::rebuild::rebuild_all` meets its contract: a loop over macroblocks, each by its own records. Assumes nothing.
use mathlib.Core.Path.{sym, ◌∙◌}
use Prim.Native.Nat.{◌*◌}
use native.Mathlib.Omega.{arith}
use borrow.Author.Rules.{rules}
use Rattle.lists.proofs.Chains.{chain_pass}
use Rattle.lists.proofs.Fold.{folding_none, folding_more, folding_done}
use Rattle.plane.specs.Decode.{macroblock_tests}
use Rattle.plane.proofs.Entry.{records_passed}
use Rattle.plane.proofs.Walking.{walking_none, next_is, next_inside}
use Rattle.frame.specs.Decode.{cb_from, cr_from}
use Rattle.frame.proofs.rebuild.rebuild_all.Goals as goal

pub loop-m-init : goal.loop-m-init
loop-m-init c =
    let a = c.args in
    (c.requires.cb_len.0, c.requires.cb_len.1, walking_none a.layout a.file.now a.start, folding_none _ _ _, folding_none _ _ _)

pub rebuild_at-requires-clause-among : goal.rebuild_at-requires-clause-among
rebuild_at-requires-clause-among c =
    let a = c.args in
    let p = c.requires.sound in
    -- the form passed, and the content
    let passed = records_passed a.layout a.start a.file.now a.cb.now p.1 in (
      record { sound = p.0; macroblock = c.loop-m-test.true; block = omega arith },
      record { told = sym p.2; fine = passed.0; at = c.loop-m.invariant.2 },
      chain_pass (macroblock_tests a.layout a.start a.file.now) (a.layout.width * a.layout.height) c.loop-m.m c.loop-m-test.true passed.1,
    )

pub next_place-place-requires : goal.next_place-place-requires
next_place-place-requires c =
    let a = c.args in
    let passed = records_passed a.layout a.start a.file.now a.cb.now c.requires.sound.1 in
    next_inside a.layout a.file.now a.start passed.0 c.loop-m.m c.loop-m-test.true c.loop-m.invariant.2 (sym c.requires.sound.2)

pub loop-m-preserved : goal.loop-m-preserved
loop-m-preserved c =
    let a = c.args in
    let i = c.loop-m.invariant in
    let e = c.rebuild_at.ensures in (
      search rules,
      search rules,
      c.next_place-place.ensures ∙ next_is a.layout a.file.now a.start c.loop-m.m i.2 (sym c.requires.sound.2),
      folding_more _ _ _ i.3 c.loop-m-test.true e.cb_after,
      folding_more _ _ _ i.4 c.loop-m-test.true e.cr_after,
    )

pub returns-clause-cb_after : goal.returns-clause-cb_after
unfolding cb_from
returns-clause-cb_after c = folding_done _ _ _ c.loop-m.invariant.3 c.loop-m-test.false

pub returns-clause-cr_after : goal.returns-clause-cr_after
unfolding cr_from
returns-clause-cr_after c = folding_done _ _ _ c.loop-m.invariant.4 c.loop-m-test.false
