-- `macroblock_chroma::code::predict_both` meets its contract: gathered and read in both planes, then one choice. Assumes nothing.
use mathlib.Core.Path.{◌∙◌}
use native.Mathlib.Omega.{arith}
use Rattle.picture.proofs.Round.{flags_any_side}
use Rattle.macroblock_chroma.proofs.Making.{both_predicted}
use Rattle.macroblock_chroma.proofs.code.predict_both.Goals as goal

pub returns : goal.returns
returns c =
    let a = c.args in
    let g = c.requires.among.0 in
    let flags = c.flags_round-flags.ensures ∙ flags_any_side 16 8 (omega arith) (omega arith) a.layout g.sound.some g.sound.rows a.m g.macroblock in
    both_predicted a.layout a.m _ _ c.choose_for_both.result flags c.gather_round.ensures c.gather_round-2.ensures c.read_whole.ensures c.read_whole-2.ensures c.choose_for_both.ensures
