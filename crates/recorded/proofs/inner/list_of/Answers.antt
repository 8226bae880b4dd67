use Rattle.std.proofs.Common.{rules, ◌*◌}
use Rattle.lists.proofs.Made.{made_tab}
use Rattle.recorded.specs.Numbers.{of_signed}
use Rattle.recorded.proofs.inner.list_of.Goals as goal

pub returns : goal.returns
returns c = made_tab _ _ _ 17 (λ k. of_signed (4 * k) c.args.part.now) (λ k y q h a. search rules) c.from_fn.ensures.items
