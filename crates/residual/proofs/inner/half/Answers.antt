-- `residual::inner::half` meets its contract: the shift does not wrap. Assumes nothing.
use mathlib.Core.Path.{◌≡◌, ap}
use Prim.Native.Nat.{ℕ, ◌*◌, ◌/◌, ◌%◌, ◌^◌}
use native.Mathlib.Omega.{arith}
use lib.Pow.{pow_mono}
use Rattle.residual.proofs.inner.half.Goals as goal

pub returns : goal.returns
returns c =
    let small = pow_mono {i = c.args.shift} {j = 4} (omega arith) in
    let whole : 1 * 2 ^ c.args.shift % 4294967296 ≡ 2 ^ c.args.shift = omega arith in
    (ap (λ (n : ℕ). n / 2) whole, omega arith)
