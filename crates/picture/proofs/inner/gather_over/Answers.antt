-- `picture::inner::gather_over` meets its contract: the neighbours group by group, each read where it stands. Assumes nothing.
use mathlib.Core.Path.{◌≡◌, sym, ap, ◌∙◌}
use mathlib.Core.Bool.{Bool, true, false, ◌&&◌}
use borrow.Author.Tests.{lt-ltb, le-ltb}
use lib.Dec.{ltb}
use Rattle.picture.specs.Order.{column_in, row_in}
use Rattle.picture.specs.Whole.{with_whole}
use Rattle.picture.proofs.Around.{in_groups, listed}
use Rattle.picture.proofs.Nearby.{Read, reach_corner_over, reach_above_over, reach_right_over, reach_left_over, corner_over, above_over, right_over, left_over}
use Rattle.picture.proofs.inner.gather_over.Goals as goal
use Rattle.picture.proofs.inner.gather_over.Goals.{After-has_corner, then-below, else-below, then-behind, else-behind, then-below-2+then-behind-2, else-below-2, else-below-2-via-then-below-2+else-behind-2, else-below-2-via-else-below-2}

-- which rows are read, by the tests that were made
module _ (c : After-has_corner) where
  abbrev below : Bool
  below = ltb 0 c.row_inside-below.result

  abbrev behind : Bool
  behind = ltb 0 c.column_inside-behind.result

  inside : Read c.requires.among c.args.own.now c.args.plane.now c.requires.plane_len.0 c.requires.plane_len.1 true c.own_rows-inside.result
  inside = let e = c.own_rows-inside.ensures in record { samples = e.samples; step = e.stride; first = e.at }

  outside : Read c.requires.among c.args.own.now c.args.plane.now c.requires.plane_len.0 c.requires.plane_len.1 false c.plane_rows-outside.result
  outside = let e = c.plane_rows-outside.ensures in record { samples = e.samples; step = e.stride; first = e.at }

  over : Read c.requires.among c.args.own.now c.args.plane.now c.requires.plane_len.0 c.requires.plane_len.1 below c.if-below.over
  over =
      elim c.if-below.branch [
        | then-below w ↦ rw (lt-ltb 0 c.row_inside-below.result w.if-below.true, w.over-is) inside
        | else-below w ↦ rw (le-ltb 0 c.row_inside-below.result w.if-below.false, w.over-is) outside
      ]

  beside : Read c.requires.among c.args.own.now c.args.plane.now c.requires.plane_len.0 c.requires.plane_len.1 behind c.if-behind.beside
  beside =
      elim c.if-behind.branch [
        | then-behind w ↦ rw (lt-ltb 0 c.column_inside-behind.result w.if-behind.true, w.beside-is) inside
        | else-behind w ↦ rw (le-ltb 0 c.column_inside-behind.result w.if-behind.false, w.beside-is) outside
      ]

  across : Read c.requires.among c.args.own.now c.args.plane.now c.requires.plane_len.0 c.requires.plane_len.1 (below && behind) c.if-below-2.across
  across =
      elim c.if-below-2.branch [
        | then-below-2+then-behind-2 w ↦ rw (lt-ltb 0 c.row_inside-below.result w.if-below-2.true, lt-ltb 0 c.column_inside-behind.result w.if-behind-2.true, w.across-is) inside
        | else-below-2 w ↦
            elim w.else-below-2.branch [
              | else-below-2-via-then-below-2+else-behind-2 v ↦ rw (lt-ltb 0 c.row_inside-below.result v.if-below-2.true, le-ltb 0 c.column_inside-behind.result v.if-behind-2.false, w.across-is) outside
              | else-below-2-via-else-below-2 v ↦ rw (le-ltb 0 c.row_inside-below.result v.if-below-2.false, w.across-is) outside
            ]
      ]

  row : below ≡ ltb 0 (row_in c.args.b)
  row = ap (ltb 0) c.row_inside-below.ensures.0

  column : behind ≡ ltb 0 (column_in c.args.b)
  column = ap (ltb 0) c.column_inside-behind.ensures.0

  both : (below && behind) ≡ (ltb 0 (row_in c.args.b) && ltb 0 (column_in c.args.b))
  both = rw (row, column)

pub sample-corner-requires : goal.sample-corner-requires
sample-corner-requires c = rw c.has_corner.ensures (reach_corner_over c.requires.among c.args.own.now c.args.plane.now c.requires.plane_len.0 c.requires.plane_len.1 _ (across c) (both c))

pub four-above-requires : goal.four-above-requires
four-above-requires c =
    let d = (goal.at.four-above-requires c).After-has_corner in
    rw c.has_above.ensures (reach_above_over c.requires.among c.args.own.now c.args.plane.now c.requires.plane_len.0 c.requires.plane_len.1 _ (over d) (row d))

pub four-right-requires : goal.four-right-requires
four-right-requires c =
    let d = (goal.at.four-right-requires c).After-has_corner in
    rw c.has_upper_right.ensures (reach_right_over c.requires.among c.args.own.now c.args.plane.now c.requires.plane_len.0 c.requires.plane_len.1 _ (over d) (row d))

pub four-left-requires : goal.four-left-requires
four-left-requires c =
    let d = (goal.at.four-left-requires c).After-has_corner in
    rw c.has_left.ensures (reach_left_over c.requires.among c.args.own.now c.args.plane.now c.requires.plane_len.0 c.requires.plane_len.1 _ (beside d) (column d))

pub returns : goal.returns
returns c =
    let a = c.args in
    let r = c.requires in
    let d = (goal.at.returns c).After-has_corner in
    listed _ _ _ c.in_one_list.ensures
    (c.sample-corner.ensures ∙ rw c.has_corner.ensures (corner_over r.among a.own.now a.plane.now r.plane_len.0 r.plane_len.1 _ (across d) (both d)))
    (c.four-above.ensures ∙ rw c.has_above.ensures (above_over r.among a.own.now a.plane.now r.plane_len.0 r.plane_len.1 _ (over d) (row d)))
    (c.four-right.ensures ∙ rw c.has_upper_right.ensures (right_over r.among a.own.now a.plane.now r.plane_len.0 r.plane_len.1 _ (over d) (row d)))
    (c.four-left.ensures ∙ rw c.has_left.ensures (left_over r.among a.own.now a.plane.now r.plane_len.0 r.plane_len.1 _ (beside d) (column d)))
    ∙ sym (in_groups a.layout a.m a.b (with_whole 16 a.layout a.m a.own.now a.plane.now))
