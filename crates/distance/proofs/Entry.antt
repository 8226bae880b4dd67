-- Laws of the entry point.
--     spread_small, grown_small     the greatest spread, and how large it grows
-- Assumes nothing.
use Prim.Native.Nat.{ℕ, ◌*◌, ◌^◌, ◌<◌, ◌≤◌}
use native.Mathlib.Nat.{mul-le-mul}
use lib.Dec.{leb, leb→le}
use lib.Pow.{pow_mono}
use Rattle.lists.proofs.Every.{every_at}
use Rattle.distance.specs.Distance.{spread_of}

pub spread_small : (r : ℕ) → r < 6 → spread_of r ≤ 1101
spread_small r h = leb→le _ _ (every_at 6 (λ r. leb (spread_of r) 1101) tt r h)

pub grown_small : (spread period : ℕ) → spread ≤ 1101 → period ≤ 8 → spread * 2 ^ period ≤ 281856
grown_small spread period h k = mul-le-mul h (pow_mono {i = period} {j = 8} k)
