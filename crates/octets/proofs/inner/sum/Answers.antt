use Rattle.std.proofs.Common.{◌≡◌, ◌+◌, ◌%◌, ◌∙◌, rules}
use Rattle.std.specs.List.{fold}
use Rattle.octets.proofs.Sums.{sum_folded}
use Rattle.octets.proofs.inner.sum.Goals as goal

pub returns : goal.returns
returns c =
    let folded : c.fold.result ≡ fold (λ s b. (s + b) % 65536) 0 c.args.bytes.now = search rules in
    folded ∙ sum_folded c.args.bytes.now
