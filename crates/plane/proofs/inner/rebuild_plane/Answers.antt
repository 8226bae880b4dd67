-- `plane::inner::rebuild_plane` meets its contract: a loop over macroblocks, each by its own luma record. Assumes nothing.
use mathlib.Core.Path.{ap, ◌∙◌}
use mathlib.Core.List.{List}
use Prim.Native.Nat.{ℕ}
use native.Mathlib.Omega.{arith}
use borrow.Author.Rules.{rules}
use Rattle.lists.proofs.Fold.{folding_none, folding_more, folding_done}
use Rattle.macroblock.specs.Rebuild.{rebuilt_step}
use Rattle.plane.specs.Decode.{rebuilt_from}
use Rattle.plane.proofs.Accepted.{luma_lent, next_accepted}
use Rattle.plane.proofs.Walking.{walking_none, next_is}
use Rattle.plane.proofs.inner.rebuild_plane.Goals as goal

pub loop-m-init : goal.loop-m-init
loop-m-init c =
    (c.requires.2, walking_none c.args.layout c.args.file.now c.args.start, folding_none _ _ _)

-- what is lent is macroblock m's luma record
pub overflow_add-end : goal.overflow_add-end
overflow_add-end c =
    let h = (luma_lent c.args.layout c.args.file.now c.args.start c.requires.1 c.loop-m.m c.loop-m-test.true c.loop-m.invariant.1 c.length_from.ensures).inside in
    search rules

pub slice_bounds-rebuild_macroblock-end : goal.slice_bounds-rebuild_macroblock-end
slice_bounds-rebuild_macroblock-end c =
    (luma_lent c.args.layout c.args.file.now c.args.start c.requires.1 c.loop-m.m c.loop-m-test.true c.loop-m.invariant.1 c.length_from.ensures).inside

pub rebuild_macroblock-requires-clause-among : goal.rebuild_macroblock-requires-clause-among
rebuild_macroblock-requires-clause-among c =
    let lent = luma_lent c.args.layout c.args.file.now c.args.start c.requires.1 c.loop-m.m c.loop-m-test.true c.loop-m.invariant.1 c.length_from.ensures in
    (record { sound = c.requires.0; macroblock = c.loop-m-test.true; block = omega arith }, lent.size, c.loop-m.invariant.0)

pub rebuild_macroblock-requires-clause-part_value : goal.rebuild_macroblock-requires-clause-part_value
rebuild_macroblock-requires-clause-part_value c =
    (luma_lent c.args.layout c.args.file.now c.args.start c.requires.1 c.loop-m.m c.loop-m-test.true c.loop-m.invariant.1 c.length_from.ensures).passed

pub next_place-place-requires : goal.next_place-place-requires
next_place-place-requires c =
    let a = c.args in
    next_accepted a.layout a.file.now a.start c.requires.1 c.loop-m.m c.loop-m-test.true c.loop-m.invariant.1 c.colour_from-colour.ensures

pub loop-m-preserved : goal.loop-m-preserved
loop-m-preserved c =
    let a = c.args in
    let lent = luma_lent a.layout a.file.now a.start c.requires.1 c.loop-m.m c.loop-m-test.true c.loop-m.invariant.1 c.length_from.ensures in
    let made = c.rebuild_macroblock.ensures ∙ ap (λ (p : List ℕ). rebuilt_step a.layout c.loop-m.m p c.loop-m.plane) lent.part in (
      search rules,
      c.next_place-place.ensures ∙ next_is a.layout a.file.now a.start c.loop-m.m c.loop-m.invariant.1 c.colour_from-colour.ensures,
      folding_more _ _ _ c.loop-m.invariant.2 c.loop-m-test.true made,
    )

pub returns : goal.returns
unfolding rebuilt_from
returns c = folding_done _ _ _ c.loop-m.invariant.2 c.loop-m-test.false
