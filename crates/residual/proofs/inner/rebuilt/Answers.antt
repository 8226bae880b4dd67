-- `residual::inner::rebuilt` meets its contract: the prediction itself where all levels are 0. Assumes nothing.
use mathlib.Core.Path.{◌≡◌, sym, ◌∙◌}
use borrow.Author.Rules.{rules}
use lib.ListN.{length}
use Rattle.residual.proofs.Zeros.{rebuilt_zeros}
use Rattle.residual.proofs.inner.rebuilt.Goals as goal

pub returns-then-all_zero : goal.returns-then-all_zero
returns-then-all_zero c =
    let long : length c.args.prediction ≡ 16 = search rules in
    let sixteen : length c.args.levels ≡ 16 = search rules in
    rebuilt_zeros c.args.quantizer.qp c.args.prediction c.args.levels long c.requires.1 sixteen (sym c.all_zero.ensures ∙ c.if-all_zero.true)
