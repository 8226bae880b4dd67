-- `transform::inner::in_raster` meets its contract: the number at place k from row k / 4 and column k % 4. Assumes nothing.
use borrow.Author.Rules.{rules}
use Prim.Native.Nat.{◌/◌, ◌%◌}
use Rattle.lists.specs.Tab.{grid}
use Rattle.lists.proofs.Made.{made_tab}
use Rattle.transform.specs.Quads.{matrix}
use Rattle.transform.proofs.inner.in_raster.Goals as goal

pub returns : goal.returns
unfolding grid
returns c = made_tab _ _ _ 16 (λ k. matrix c.args.rows (k / 4) (k % 4)) (λ k y q h p. search rules) c.from_fn.ensures.items
