-- `macroblock4::content::first_mode` meets its contract: the first block whose mode does not hold. Assumes nothing.
use Rattle.std.proofs.Common.{rules, tests, ◌≡◌, true, false, not}
use Rattle.std.proofs.lemmas.Iterator.{first_from_Range}
use Rattle.lists.proofs.First.{first_found}
use Rattle.macroblock4.specs.Content.{mode_holds, first_mode}
use Rattle.macroblock4.proofs.content.first_mode.Goals as goal

pub returns : goal.returns
unfolding first_mode
returns c =
    let a = c.args in
    first_found (λ b. not (mode_holds a.layout a.m a.part.now b)) 16 c.find.result
    (first_from_Range _ _ _ _ (λ b. not (mode_holds a.layout a.m a.part.now b) ≡ true) (λ b. not (mode_holds a.layout a.m a.part.now b) ≡ false) c.find.ensures.ran
    (λ x q k. search (rules, tests)) (λ x q k. search (rules, tests)))
