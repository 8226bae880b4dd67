-- `head::inner::fill` meets its contract: the two bytes of a number at a turn, then the sum. Assumes nothing.
use Rattle.std.proofs.Common.{◌*◌, take}
use Rattle.lists.proofs.Parts.{Growing}
use Rattle.head.specs.Heads.{words}
use Rattle.head.proofs.inner.fill.Given as goal

abbrev pub invariant-loop-k : goal.invariant-loop-k
invariant-loop-k l = Growing l.head (words (take l.k l.numbers)) (2 * l.k)
