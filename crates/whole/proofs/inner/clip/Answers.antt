use Rattle.std.proofs.Common.{arith}
use Rattle.std.proofs.lemmas.Int.{to_z-of_z}
use borrow.Author.Differences.{ints}
use Rattle.whole.proofs.Order.{clip_clamped}
use Rattle.whole.proofs.inner.clip.Goals as goal

pub returns : goal.returns
returns c = grind (arith, ints, to_z-of_z, clip_clamped c.args.high c.args.z)
