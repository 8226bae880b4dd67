-- `plane::code::code_file` meets its contract: the head, and a loop over macroblocks, each over the front of what is left. Assumes nothing.
use Rattle.plane.proofs.Coding.{FileCoded}
use Rattle.plane.proofs.code.code_file.Given as goal

abbrev pub invariant-loop-m : goal.invariant-loop-m
invariant-loop-m l = FileCoded l.layout l.quantizer.qp l.plane l.initial.rebuilt l.initial.file l.file l.rebuilt l.place l.m
