-- "Numbers are low byte first, negative ones in two's complement" (tests/README.md), each from a place of a recorded request on.
-- Assumes nothing.
use Rattle.std.specs.Prelude.{List, ℕ, ◌+◌, ◌*◌, ℤ, get_or}
use Rattle.std.specs.Int.{w32}
use Rattle.std.proofs.Common.{to_z}
use Rattle.lists.specs.Tab.{tab}

-- the number of two bytes, of four, of eight
abbrev pub of_two : (place : ℕ) → List ℕ → ℕ
of_two place bytes = get_or bytes place 0 + 256 * get_or bytes (place + 1) 0

abbrev pub of_four : (place : ℕ) → List ℕ → ℕ
of_four place bytes = of_two place bytes + 65536 * of_two (place + 2) bytes

abbrev pub of_eight : (place : ℕ) → List ℕ → ℕ
of_eight place bytes = of_four place bytes + 4294967296 * of_four (place + 4) bytes

-- four bytes as a number that may be negative
abbrev pub of_signed : (place : ℕ) → List ℕ → ℤ
of_signed place bytes = to_z w32 (of_four place bytes)

-- a list of n such numbers
abbrev pub of_list : (n : ℕ) → List ℕ → List ℤ
of_list n bytes = tab n (λ k. of_signed (4 * k) bytes)
