-- `fleecebutton::fb_decode_plane` meets its contract: the word of the answer of `decode_plane`. Assumes nothing.
use Rattle.fleecebutton.proofs.Words.{sent}
use Rattle.fleecebutton.proofs.fb_decode_plane.Goals as goal

pub returns : goal.returns
returns c = let p = c.decode_plane.ensures in sent _ _ _ p.says p.wrote c.of_answer.ensures
