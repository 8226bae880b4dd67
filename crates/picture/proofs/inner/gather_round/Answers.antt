-- `picture::inner::gather_round` meets its contract: the neighbours group by group, each behind the macroblock's first sample.
-- Assumes nothing.
use mathlib.Core.Path.{◌∙◌}
use native.Mathlib.Omega.{arith}
use Rattle.lists.proofs.Stores.{storing_none}
use Rattle.picture.specs.Whole.{gathered_round}
use Rattle.picture.proofs.Round.{first_above, first_left, first_corner}
use Rattle.picture.proofs.Rows.{reach_round_corner, reach_round_above, reach_round_left, corner_run, above_run, left_run, stored_in_turn}
use Rattle.picture.proofs.inner.gather_round.Goals as goal

-- ---- the three lines
pub line-requires : goal.line-requires
line-requires c =
    let p = c.requires.among in
    (rw (c.has_corner-corner.ensures, first_corner p.0, c.whole_place-at.ensures, c.requires.plane_len.0) (reach_round_corner p.0 c.args.s p.1 p.2), omega (arith, c.requires.plane_len.1))

pub line-requires-2 : goal.line-requires-2
line-requires-2 c =
    let p = c.requires.among in
    (rw (c.has_above-above.ensures, first_above p.0, c.whole_place-at.ensures, c.requires.plane_len.0) (reach_round_above p.0 c.args.s p.1 p.2), omega (arith, c.line.auto.out, c.requires.plane_len.1))

pub line-requires-3 : goal.line-requires-3
line-requires-3 c =
    let p = c.requires.among in
    (rw (c.has_left-left.ensures, first_left p.0, c.whole_place-at.ensures, c.requires.plane_len.0) (reach_round_left p.0 c.args.s p.1 p.2), omega (arith, c.line-2.auto.out, c.line.auto.out, c.requires.plane_len.1))

pub returns : goal.returns
unfolding gathered_round
returns c =
    let p = c.requires.among in
    let n = c.args.s in
    let plane = c.args.plane.now in
    let one = corner_run p.0 n p.1 p.2 plane (c.has_corner-corner.ensures ∙ first_corner p.0) c.whole_place-at.ensures c.line.ensures (storing_none _ _ _ _) in
    let two = above_run p.0 n p.1 p.2 plane (c.has_above-above.ensures ∙ first_above p.0) c.whole_place-at.ensures c.line-2.ensures one in
    let three = left_run p.0 n p.1 p.2 plane (c.has_left-left.ensures ∙ first_left p.0) c.whole_place-at.ensures c.line-3.ensures two in
    stored_in_turn three (omega arith) c.requires.plane_len.1
