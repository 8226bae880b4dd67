-- `residual::inner::all_zero` meets its contract: sixteen zeros, or a number is found outside 0 to 0. Assumes nothing.
use borrow.Author.Rules.{rules}
use mathlib.Core.Path.{◌≡◌}
use lib.ListN.{length}
use Rattle.std.proofs.lemmas.Bool.Decides.{Decides-int_eq, same_from_decides}
use Rattle.std.proofs.lemmas.Slice.Eq.{slice_eq-Decides}
use Rattle.residual.proofs.Zeros.{all_zero_decides}
use Rattle.residual.proofs.inner.all_zero.Goals as goal

pub returns : goal.returns
returns c =
    let l = c.args.numbers in
    let many : length l ≡ 16 = search rules in
    same_from_decides _ _ (slice_eq-Decides Decides-int_eq _ _ _ c.eq.ensures) (all_zero_decides l many)
