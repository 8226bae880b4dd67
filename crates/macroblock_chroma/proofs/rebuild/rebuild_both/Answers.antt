-- `macroblock_chroma::rebuild::rebuild_both` meets its contract: each plane by its half of the levels. Assumes nothing.
use mathlib.Core.Path.{sym, ap, subst, ◌∙◌}
use Rattle.whole.specs.Bounds.{Each}
use Rattle.whole.proofs.Lists.{each_take, each_drop}
use Rattle.macroblock_chroma.specs.Fine.{in_range}
use Rattle.macroblock_chroma.proofs.rebuild.rebuild_both.Goals as goal

pub rebuild_one-requires-clause-each : goal.rebuild_one-requires-clause-each
rebuild_one-requires-clause-each c =
    let q = c.requires.levels_len in
    let front = c.split_at.ensures.front in
    (subst (Each 32768) (sym front) (each_take 32768 64 c.args.levels.now q.1), ap (in_range c.args.both.cb.qp) front ∙ q.2)

pub rebuild_one-requires-2-clause-each : goal.rebuild_one-requires-2-clause-each
rebuild_one-requires-2-clause-each c =
    let q = c.requires.levels_len in
    let back = c.split_at.ensures.back in
    (subst (Each 32768) (sym back) (each_drop 32768 64 c.args.levels.now q.1), ap (in_range c.args.both.cr.qp) back ∙ q.3)
