-- Sums over a size, and how far apart two numbers are. Assumes nothing.
use Rattle.std.specs.Prelude.{ℕ, zero, suc, ◌+◌, ◌-◌}

-- f 0 + f 1 + .. + f (n - 1): what a loop leaves that adds f 0, f 1, .. in turn
unfoldable pub total : ℕ → (ℕ → ℕ) → ℕ
total zero f = 0
total (suc n) f = total n f + f n

-- |a - b|: one of the two differences is 0
abbrev pub gap : ℕ → ℕ → ℕ
gap a b = (a - b) + (b - a)
