use Rattle.std.proofs.Common.{◌+◌, ◌*◌, get_or, rules}
use Rattle.lists.proofs.Made.{made_tab}
use Rattle.octets.specs.Modes.{paired, packed}
use Rattle.octets.proofs.inner.packed.Goals as goal

pub returns : goal.returns
unfolding packed
returns c = made_tab _ _ _ 8 (λ k. paired (get_or c.args.modes (2 * k) 0) (get_or c.args.modes (2 * k + 1) 0)) (λ k y q h a. search rules) c.from_fn.ensures.items
