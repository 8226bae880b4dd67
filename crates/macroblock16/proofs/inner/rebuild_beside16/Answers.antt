-- `macroblock16::inner::rebuild_beside16` meets its contract: the prediction of its record's mode, and the samples of its levels. Assumes nothing.
use mathlib.Core.Path.{sym, subst, ◌∙◌}
use borrow.Author.Rules.{rules}
use Rattle.whole.specs.Bounds.{Each}
use Rattle.quantizer.proofs.Range.{built_legal}
use Rattle.residual_whole.specs.Rebuilt.{dc_fits, first_ac}
use Rattle.macroblock16.proofs.Contents.{fine16, levels_small16}
use Rattle.macroblock16.proofs.Making.{whole_made}
use Rattle.macroblock16.proofs.inner.rebuild_beside16.Goals as goal

pub rebuilt-requires-clause-each : goal.rebuilt-requires-clause-each
rebuilt-requires-clause-each c =
    let f = fine16 c.args.layout c.args.m c.args.part.now c.requires.part_value in
    let number = (built_legal c.qp.result c.new.ensures c.unwrap-quantizer.ensures).0 ∙ c.qp.ensures in
    let e = c.whole_levels.ensures in (
      subst (Each 32768) (sym e) (levels_small16 c.args.part.now),
      (λ i. dc_fits 16 (number i) (e i)) ∙ f.dc,
      (λ i. first_ac 16 (number i) (e i)) ∙ f.ac,
    )

pub returns : goal.returns
returns c =
    let number = (built_legal c.qp.result c.new.ensures c.unwrap-quantizer.ensures).0 ∙ c.qp.ensures in
    whole_made c.requires.among.0 c.args.part.now c.args.plane.now c.requires.among.2
    c.flags_round-flags.ensures c.gather_round.ensures c.whole_mode-mode.ensures c.fill.ensures number c.whole_levels.ensures c.rebuilt.ensures (search rules)
