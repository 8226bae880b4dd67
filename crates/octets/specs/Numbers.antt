-- "Numbers are high byte first"; levels are "signed 16 bits" (01, "Plane and record file"); offsets are "signed bytes" (02, request 05).
-- Assumes nothing.
use Rattle.std.specs.Prelude.{ℕ, ◌+◌, ◌*◌, ◌/◌, ◌%◌, List, [], ◌∷◌, ◌++◌, ℤ, slice_index}
use Rattle.std.specs.Int.{w8, w16}
use Rattle.std.proofs.Common.{of_z, to_z}

-- a number as two bytes
abbrev pub bytes_of : ℕ → List ℕ
bytes_of n = n / 256 ∷ n % 256 ∷ []

-- the number that two bytes from a place on are
abbrev pub number_at : ℕ → List ℕ → ℕ
number_at place bytes = slice_index bytes place * 256 + slice_index bytes (place + 1)

-- levels, each by the number of its 16 bits (two's complement)
unfoldable pub level_bytes : List ℤ → List ℕ
level_bytes [] = []
level_bytes (z ∷ zs) = bytes_of (of_z w16 z) ++ level_bytes zs

-- the level that two bytes from a place on are
abbrev pub level_at : ℕ → List ℕ → ℤ
level_at place bytes = to_z w16 (number_at place bytes)

-- a number of eight signed bits as a byte (two's complement)
abbrev pub signed_byte : ℤ → ℕ
signed_byte z = of_z w8 z

-- and the number that a byte is
abbrev pub signed_in : ℕ → ℤ
signed_in byte = to_z w8 byte
