-- The sum at the end of a record (01, "Plane and record file"). Assumes nothing.
use Rattle.std.specs.Prelude.{ℕ, ◌+◌, ◌-◌, ◌%◌, Bool, List, [], ◌∷◌, ◌++◌, length, take, ◌==◌}
use Rattle.octets.specs.Numbers.{bytes_of, number_at}

-- the sum of a list
unfoldable pub sum_of : List ℕ → ℕ
sum_of [] = 0
sum_of (x ∷ xs) = x + sum_of xs

-- "all earlier bytes of the record, added modulo 65536"
abbrev pub record_sum : List ℕ → ℕ
record_sum bytes = sum_of bytes % 65536

-- "Every record starts with a two-byte mark and ends with a two-byte sum: all earlier bytes of the record"
unfoldable pub summed : List ℕ → List ℕ
summed bytes = bytes ++ bytes_of (record_sum bytes)

-- the last two bytes are the sum of the earlier ones
unfoldable pub sum_holds : List ℕ → Bool
sum_holds bytes = number_at (length bytes - 2) bytes == record_sum (take (length bytes - 2) bytes)
