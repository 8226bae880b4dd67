-- `macroblock_chroma::rebuild::rebuild_one` meets its contract: gathered, predicted, stored. Assumes nothing.
use Rattle.macroblock_chroma.proofs.Making.{turn_made}
use Rattle.macroblock_chroma.proofs.rebuild.rebuild_one.Goals as goal

pub returns : goal.returns
returns c =
    let a = c.args in
    turn_made a.layout a.m a.plane.now a.quantizer.qp a.mode a.levels.now
    c.requires.among.1 c.gather_round.ensures c.fill.ensures c.store_one.ensures
