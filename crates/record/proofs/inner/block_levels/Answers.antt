-- `record::inner::block_levels` meets its contract: level k at place k. Assumes nothing.
use borrow.Author.Rules.{rules}
use Rattle.lists.proofs.Made.{made_tab}
use Rattle.record.specs.Records.{level_in, levels_in}
use Rattle.record.proofs.inner.block_levels.Goals as goal

pub returns : goal.returns
unfolding levels_in
returns c = made_tab _ _ _ 16 (λ k. level_in c.args.block k c.args.part.now) (λ k y q h a. search rules) c.from_fn.ensures.items
