-- `frame::code::code_frame` meets its contract: the head, and a loop over macroblocks, each over the front of what is left. Assumes nothing.
use Rattle.picture.specs.Both.{pair}
use Rattle.frame.proofs.CodingFrame.{FrameCoded}
use Rattle.frame.proofs.code.code_frame.Given as goal

abbrev pub invariant-loop-m : goal.invariant-loop-m
invariant-loop-m l =
    FrameCoded l.layout l.quantizer.qp l.offsets.cb l.offsets.cr l.luma (pair l.cb l.cr) l.initial.luma_out (pair l.initial.cb_out l.initial.cr_out) l.initial.file
    l.file l.luma_out (pair l.cb_out l.cr_out) l.place l.m
