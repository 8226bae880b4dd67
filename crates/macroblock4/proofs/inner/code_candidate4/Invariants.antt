use Rattle.macroblock4.proofs.Coding.{BlocksCoded}
use Rattle.macroblock4.proofs.inner.code_candidate4.Given as goal

abbrev pub invariant-loop-b : goal.invariant-loop-b
invariant-loop-b l =
    BlocksCoded l.layout l.quantizer.qp l.plane l.m l.initial.rebuilt l.levels l.rebuilt l.mode-items l.sad l.b
