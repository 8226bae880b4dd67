-- `inspection::compare` meets its contract: a loop over macroblocks, each rebuilt beside their plane, that leaves at the first sample that differs.
-- Assumes nothing.
use mathlib.Core.Path.{◌≡◌, refl, sym, ap, ◌∙◌}
use mathlib.Core.List.{List}
use Prim.Native.Nat.{ℕ, ◌<◌}
use native.Mathlib.Omega.{arith}
use borrow.Author.Rules.{rules}
use Rattle.lists.specs.First.{first, found}
use Rattle.lists.proofs.First.{found_some, found_none, searching_none}
use Rattle.picture.specs.Whole.{whole_of}
use Rattle.macroblock.specs.Rebuild.{rebuilt_step}
use Rattle.plane.specs.Decode.{luma_in, decoded}
use Rattle.plane.proofs.Accepted.{LumaLent, luma_lent, next_accepted}
use Rattle.plane.proofs.Walking.{walking_none, next_is}
use Rattle.inspection.specs.Inspect.{unlike}
use Rattle.inspection.proofs.Differences.{differing_more, differing_here, differing_done}
use Rattle.inspection.proofs.Entry.{rebuilt_beside}
use Rattle.inspection.proofs.compare.Goals as goal
use Rattle.inspection.proofs.compare.Goals.{After-length_from, After-first_in_macroblock}

pub loop-m-init : goal.loop-m-init
loop-m-init c = (walking_none c.args.layout c.args.file.now c.args.start, searching_none _ _)

-- what is lent is macroblock m's luma record
lent : (c : After-length_from) → LumaLent c.args.layout c.args.file.now c.args.start c.loop-m.m c.loop-m.place c.length_from.result
lent c = luma_lent c.args.layout c.args.file.now c.args.start c.requires.1 c.loop-m.m c.loop-m-test.true c.loop-m.invariant.0 c.length_from.ensures

pub overflow_add-end : goal.overflow_add-end
overflow_add-end c = let h = (lent (goal.at.overflow_add-end c).After-length_from).inside in search rules

pub slice_bounds-first_in_macroblock-end : goal.slice_bounds-first_in_macroblock-end
slice_bounds-first_in_macroblock-end c = (lent (goal.at.slice_bounds-first_in_macroblock-end c).After-length_from).inside

pub first_in_macroblock-requires-clause-among : goal.first_in_macroblock-requires-clause-among
first_in_macroblock-requires-clause-among c =
    let size = (lent (goal.at.first_in_macroblock-requires-clause-among c).After-length_from).size in
    (record { sound = c.requires.0; macroblock = c.loop-m-test.true; block = omega arith }, size, c.requires.2)

pub first_in_macroblock-requires-clause-part_value : goal.first_in_macroblock-requires-clause-part_value
first_in_macroblock-requires-clause-part_value c = (lent (goal.at.first_in_macroblock-requires-clause-part_value c).After-length_from).passed

-- the decoder's plane, and the first sample of macroblock m in which theirs is not that one: it is what is looked for
abbrev ours : After-first_in_macroblock → List ℕ
ours c = decoded c.args.layout (luma_in c.args.file.now c.args.start)

abbrev sample : After-first_in_macroblock → ℕ
sample c = first 256 (unlike (whole_of 16 c.args.layout c.loop-m.m (ours c)) (whole_of 16 c.args.layout c.loop-m.m c.args.theirs.now))

looked : (c : After-first_in_macroblock) → c.first_in_macroblock.result ≡ found 256 (sample c)
looked c =
    let a = c.args in
    let l = a.layout in
    let m = c.loop-m.m in
    let theirs = a.theirs.now in
    let beside =
    ap (λ (p : List ℕ). whole_of 16 l m (rebuilt_step l m p theirs)) (lent (goal.at.After-first_in_macroblock c).After-length_from).part
    ∙ rebuilt_beside l c.requires.0.some (luma_in a.file.now a.start) theirs c.requires.2 m c.loop-m-test.true c.loop-m.invariant.1 in
    c.first_in_macroblock.ensures ∙ ap (λ (p : List ℕ). found 256 (first 256 (unlike p (whole_of 16 l m theirs)))) beside

pub overflow_add-result : goal.overflow_add-result
overflow_add-result c =
    let is = found_some 256 _ (sym c.first_in_macroblock.ensures ∙ c.in-Some.is) in
    let low : c.in-Some.sample < 256 = omega (arith, is.0, is.1) in
    search rules

pub returns-in-Some : goal.returns-in-Some
returns-in-Some c =
    let p = (goal.at.returns-in-Some c).After-first_in_macroblock in
    let is = found_some 256 (sample p) (sym (looked p) ∙ c.in-Some.is) in
    differing_here c.args.layout c.requires.0.some (ours p) c.args.theirs.now c.loop-m.m c.loop-m-test.true c.loop-m.invariant.1 c.in-Some.sample is.0 (omega (arith, is.0, is.1))

pub next_place-place-requires : goal.next_place-place-requires
next_place-place-requires c =
    let a = c.args in
    next_accepted a.layout a.file.now a.start c.requires.1 c.loop-m.m c.loop-m-test.true c.loop-m.invariant.0 c.colour_from-colour.ensures

pub loop-m-preserved : goal.loop-m-preserved
loop-m-preserved c =
    let a = c.args in
    let p = (goal.at.loop-m-preserved c).After-first_in_macroblock in (
      c.next_place-place.ensures ∙ next_is a.layout a.file.now a.start c.loop-m.m c.loop-m.invariant.0 c.colour_from-colour.ensures,
      differing_more a.layout c.requires.0.some (ours p) a.theirs.now c.loop-m.m c.loop-m-test.true c.loop-m.invariant.1 (sample p) refl
          (found_none 256 (sample p) (sym (looked p) ∙ c.in_default.is)),
    )

pub returns : goal.returns
returns c =
    let a = c.args in
    differing_done a.layout c.requires.0.some (decoded a.layout (luma_in a.file.now a.start)) a.theirs.now c.loop-m.invariant.1 c.loop-m-test.false
