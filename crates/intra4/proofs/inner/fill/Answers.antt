-- `intra4::inner::fill` meets its contract: the rows hold what the mask leaves. Assumes nothing.
use mathlib.Core.Path.{ap, ◌∙◌}
use Prim.Native.Nat.{ℕ}
use native.Mathlib.Omega.{arith}
use Rattle.intra4.specs.Code.{filled}
use Rattle.intra4.proofs.Masked.{filled_is, mode_below_9}
use Rattle.intra4.proofs.inner.fill.Goals as goal

pub put-requires : goal.put-requires
put-requires c = omega (arith, mode_below_9 _ _ c.requires.1)

pub returns : goal.returns
returns c =
    let r = c.resolve.ensures in
    filled_is c.args.neighbours.now _ _ c.requires.0 c.requires.1 r.0 r.1
    (c.put.ensures ∙ ap (λ (f : ℕ). filled c.resolve.result.top c.resolve.result.left f c.args.mode) r.2)
