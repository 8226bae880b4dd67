-- `fleecebutton::fb_predict` meets its contract: the word of the answer of `predict`. Assumes nothing.
use Rattle.fleecebutton.proofs.Words.{sent}
use Rattle.fleecebutton.proofs.fb_predict.Goals as goal

pub returns : goal.returns
returns c = let p = c.predict.ensures in sent _ _ _ p.says p.wrote c.of_answer.ensures
