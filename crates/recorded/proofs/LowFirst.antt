-- Numbers of bytes with the low byte first, as the library says them.
--     low_two, low_four, low_eight     of two bytes, of four, of eight
-- Assumes nothing.
use Rattle.std.proofs.Common.{◌≡◌, ℕ, ◌+◌, List, get_or, ap, arith, w16, w32, w64}
use Rattle.std.specs.Int.{from_le_bytes}
use Rattle.lists.specs.Tab.{tab}
use Rattle.recorded.specs.Numbers.{of_two, of_four, of_eight}

module _ (l : List ℕ) (p : ℕ) where
  byte_at : (a b : ℕ) → a ≡ b → get_or l a 0 ≡ get_or l b 0
  byte_at a b e = ap (λ (k : ℕ). get_or l k 0) e

  pub low_two : from_le_bytes w16 (tab 2 (λ k. get_or l (p + k) 0)) ≡ of_two p l
  unfolding tab
  low_two = omega (arith, byte_at (p + 0) p (omega arith))

  pub low_four : from_le_bytes w32 (tab 4 (λ k. get_or l (p + k) 0)) ≡ of_four p l
  unfolding tab
  low_four = omega (arith, byte_at (p + 0) p (omega arith), byte_at (p + 2 + 1) (p + 3) (omega arith))

  pub low_eight : from_le_bytes w64 (tab 8 (λ k. get_or l (p + k) 0)) ≡ of_eight p l
  unfolding tab
  low_eight =
      omega (
        arith,
        byte_at (p + 0) p (omega arith),
        byte_at (p + 2 + 1) (p + 3) (omega arith),
        byte_at (p + 4 + 1) (p + 5) (omega arith),
        byte_at (p + 4 + 2) (p + 6) (omega arith),
        byte_at (p + 4 + 2 + 1) (p + 7) (omega arith),
      )
