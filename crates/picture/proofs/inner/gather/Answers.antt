-- `picture::inner::gather` meets its contract: the neighbours group by group, each behind the block's first sample.
-- Assumes nothing.
use mathlib.Core.Path.{sym, ◌∙◌}
use Rattle.picture.proofs.Around.{reach_corner, reach_above, reach_right, reach_left, gathered_parts, listed}
use Rattle.picture.proofs.inner.gather.Goals as goal

pub sample-corner-requires : goal.sample-corner-requires
sample-corner-requires c =
    rw (c.has_corner.ensures, c.plane_rows-rows.ensures.stride, c.plane_rows-rows.ensures.at, c.requires.plane_len) (reach_corner c.requires.among)

pub four-above-requires : goal.four-above-requires
four-above-requires c =
    rw (c.has_above.ensures, c.plane_rows-rows.ensures.samples, c.plane_rows-rows.ensures.stride, c.plane_rows-rows.ensures.at, c.requires.plane_len) (reach_above c.requires.among)

pub four-right-requires : goal.four-right-requires
four-right-requires c =
    rw (c.has_upper_right.ensures, c.plane_rows-rows.ensures.samples, c.plane_rows-rows.ensures.stride, c.plane_rows-rows.ensures.at, c.requires.plane_len) (reach_right c.requires.among)

pub four-left-requires : goal.four-left-requires
four-left-requires c =
    rw (c.has_left.ensures, c.plane_rows-rows.ensures.samples, c.plane_rows-rows.ensures.stride, c.plane_rows-rows.ensures.at, c.requires.plane_len) (reach_left c.requires.among)

pub returns : goal.returns
returns c =
    listed _ _ _ c.in_one_list.ensures c.sample-corner.ensures c.four-above.ensures c.four-right.ensures c.four-left.ensures
    ∙ rw (c.has_left.ensures, c.has_upper_right.ensures, c.has_above.ensures, c.has_corner.ensures, c.plane_rows-rows.ensures.samples, c.plane_rows-rows.ensures.stride, c.plane_rows-rows.ensures.at) (sym (gathered_parts c.requires.among c.args.plane.now))
