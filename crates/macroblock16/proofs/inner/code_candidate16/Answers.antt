-- `macroblock16::inner::code_candidate16` meets its contract: gathered, read, chosen, coded. Assumes nothing.
use Rattle.macroblock16.proofs.Making.{candidate_made}
use Rattle.macroblock16.proofs.inner.code_candidate16.Goals as goal

pub returns : goal.returns
returns c =
    let a = c.args in
    candidate_made a.layout a.m a.quantizer.qp a.plane.now a.rebuilt.now c.choose-best.result
    c.flags_round-flags.ensures c.gather_round.ensures c.read_whole.ensures c.choose-best.ensures c.levels.ensures
