-- `octets::inner::write_levels` meets its contract: two stores a turn. Assumes nothing.
use Rattle.std.proofs.Common.{length}
use Rattle.lists.proofs.Pairs.{Pairing}
use Rattle.octets.proofs.Levels.{high_at, low_at}
use Rattle.octets.proofs.inner.write_levels.Given as goal

abbrev pub invariant-loop-k : goal.invariant-loop-k
invariant-loop-k l = Pairing (high_at l.levels) (low_at l.levels) (length l.levels) l.out l.k
