-- `residual_whole::rebuilt::all_fit` meets its contract: the test of each number. Assumes nothing.
use Rattle.std.proofs.Common.{rules, tests, ◌≡◌, true, false, pos, negsuc}
use Rattle.std.proofs.lemmas.Iterator.{YieldsList-from_slice, cases_from_all}
use Rattle.whole.specs.Range.{inside}
use Rattle.residual_whole.proofs.Samples.{all_fit_is}
use Rattle.residual_whole.proofs.rebuilt.all_fit.Goals as goal

pub returns : goal.returns
returns c =
    let l = c.args.numbers.now in
    all_fit_is l c.all.result (cases_from_all _ _ c.all.result (λ z. inside (negsuc 32767) (pos 32767) z ≡ true) (λ z. inside (negsuc 32767) (pos 32767) z ≡ false) c.all.ensures.ran (YieldsList-from_slice l cc)
    (λ x q k. search (rules, tests)) (λ x q k. search (rules, tests)))
