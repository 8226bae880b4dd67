-- `fleecebutton::fb_code_block` meets its contract: the word of the answer of `code_block`. Assumes nothing.
use mathlib.Core.Path.{refl}
use borrow.Author.Rules.{rules}
use Rattle.lists.proofs.Bytes.{bytes_known}
use Rattle.intra4.specs.Entry.{best_in}
use Rattle.fleecebutton.specs.Word.{choice_value}
use Rattle.fleecebutton.proofs.Words.{choice_sent, mapped, word_mapped}
use Rattle.fleecebutton.proofs.fb_code_block.Goals as goal

pub returns : goal.returns
returns c =
    let p = c.code_block-coded.ensures in
    record { word = choice_sent _ _ p.says p.best (word_mapped (mapped (λ r. choice_value (best_in r)) _ _ c.map.ensures.cases (λ x n k. search rules) (λ e. refl)) c.of_value.ensures); levels = p.levels; rebuilt = p.rebuilt; bytes = (bytes_known _ c.type_inv.neighbours, bytes_known _ c.type_inv.samples) }
