-- `fleecebutton::fb_inspect` meets its contract: the word of the answer of `inspect`. Assumes nothing.
use Rattle.fleecebutton.proofs.Words.{says_sent}
use Rattle.fleecebutton.proofs.fb_inspect.Goals as goal

pub returns : goal.returns
returns c = says_sent 0 c.inspect.ensures c.of_answer.ensures
