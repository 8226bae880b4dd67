-- `macroblock_chroma::inner::rebuild_chroma` meets its contract: both quantizers, the mode and the levels of the record. Assumes nothing.
use mathlib.Core.Path.{◌≡◌, sym, subst, ◌∙◌}
use native.Mathlib.Omega.{arith}
use borrow.Author.Rules.{rules}
use lib.ListN.{take, drop}
use Rattle.whole.specs.Bounds.{Each}
use Rattle.quantizer.proofs.Offsets.{plane_legal}
use Rattle.chroma.specs.Rules.{permitted}
use Rattle.picture.proofs.Round.{flags_any_side}
use Rattle.macroblock_chroma.specs.Content.{quantizers_of, cb_levels_in, cr_levels_in}
use Rattle.macroblock_chroma.specs.Fine.{in_range}
use Rattle.macroblock_chroma.proofs.Contents.{both_small}
use Rattle.macroblock_chroma.proofs.Making.{cb_made, cr_made}
use Rattle.macroblock_chroma.proofs.Offsets.{PlanesQuantized, offsets_handed, both_legal, both_there}
use Rattle.macroblock_chroma.proofs.inner.rebuild_chroma.Goals as goal
use Rattle.macroblock_chroma.proofs.inner.rebuild_chroma.Goals.{After-both_quantizers, After-unwrap-both}
use Rattle.record.specs.Records.{cb_offset_in, cr_offset_in}

-- both quantizers are those of the record's offsets,
handed_at : (c : After-both_quantizers) → c.both_quantizers.result ≡ quantizers_of c.args.qp (cb_offset_in c.args.part.now) (cr_offset_in c.args.part.now)
handed_at c = offsets_handed _ _ _ c.both_quantizers.ensures (search rules) (search rules) c.cb_offset-cb_offset.ensures c.cr_offset-cr_offset.ensures

planes_at : (c : After-unwrap-both) → PlanesQuantized c.args.qp (cb_offset_in c.args.part.now) (cr_offset_in c.args.part.now) c.unwrap-both.result.cb c.unwrap-both.result.cr
planes_at c = both_legal _ _ _ (handed_at (goal.at.After-unwrap-both c).After-both_quantizers) c.unwrap-both.ensures

-- and an offset of a fine record is never refused
pub unwrap-both-requires : goal.unwrap-both-requires
unwrap-both-requires c =
    both_there _ _ _ (handed_at (goal.at.unwrap-both-requires c).After-both_quantizers) c.requires.among.3.cb_offset c.requires.among.3.cr_offset

-- ---- both planes

pub rebuild_both-requires-clause-among : goal.rebuild_both-requires-clause-among
rebuild_both-requires-clause-among c =
    let planes = planes_at (goal.at.rebuild_both-requires-clause-among c).After-unwrap-both in
    let near = c.requires.among.0 in
    let flags = c.flags_round-flags.ensures ∙ flags_any_side 16 8 (omega arith) (omega arith) c.args.layout near.sound.some near.sound.rows c.args.m near.macroblock in
    (near, flags, (λ i. permitted (flags i) (c.chroma_mode-mode.ensures i)) ∙ c.requires.among.3.mode, plane_legal _ _ planes.cbs, plane_legal _ _ planes.crs)

pub rebuild_both-requires-clause-levels_len : goal.rebuild_both-requires-clause-levels_len
unfolding cb_levels_in cr_levels_in
rebuild_both-requires-clause-levels_len c =
    let planes = planes_at (goal.at.rebuild_both-requires-clause-levels_len c).After-unwrap-both in
    let fine = c.requires.among.3 in
    let e = c.both_levels.ensures in (
      search rules,
      subst (Each 32768) (sym e) (both_small c.args.part.now),
      (λ i. in_range (planes.cbs.is i) (take 64 (e i))) ∙ fine.cb_range,
      (λ i. in_range (planes.crs.is i) (drop 64 (e i))) ∙ fine.cr_range,
    )

pub returns-clause-cb_after : goal.returns-clause-cb_after
returns-clause-cb_after c =
    let planes = planes_at (goal.at.returns-clause-cb_after c).After-unwrap-both in
    let a = c.args in
    cb_made a.layout a.m a.cb.now a.qp a.part.now planes.cbs.is c.chroma_mode-mode.ensures c.both_levels.ensures c.rebuild_both.ensures.cb_after

pub returns-clause-cr_after : goal.returns-clause-cr_after
returns-clause-cr_after c =
    let planes = planes_at (goal.at.returns-clause-cr_after c).After-unwrap-both in
    let a = c.args in
    cr_made a.layout a.m a.cr.now a.qp a.part.now planes.crs.is c.chroma_mode-mode.ensures c.both_levels.ensures c.rebuild_both.ensures.cr_after
