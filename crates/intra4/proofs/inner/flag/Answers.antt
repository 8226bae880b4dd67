-- `intra4::inner::flag` meets its contract: a mask by 1 is the remainder by 2. Assumes nothing.
use mathlib.Core.Path.{ap}
use Prim.Native.Nat.{ℕ, ◌/◌, ◌^◌}
use lib.Dec.{eqb}
use lib.Bits.{and_mask}
use Rattle.intra4.specs.Samples.{bit_of}
use Rattle.intra4.proofs.inner.flag.Goals as goal

pub returns : goal.returns
unfolding bit_of
returns c = ap (λ (n : ℕ). eqb n 1) (and_mask (c.args.flags / 2 ^ c.args.k) 1)
