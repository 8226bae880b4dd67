-- "The level's size is (|Y|*MF+f)/2^q rounded down, and its sign is that of Y; size 0 is plain 0."
-- (01, "Transform, quantizer, rescaling".) Assumes nothing.
use Rattle.std.specs.Prelude.{ℕ, ◌+◌, ◌*◌, ◌/◌, ◌^◌, ℤ, pos, negsuc, neg_ℤ, nat_abs}

-- a size with the sign of y; size 0 has none
abbrev pub signed : ℤ → ℕ → ℤ
signed (pos y) size = pos size
signed (negsuc y) size = neg_ℤ (pos size)

-- the level of y by a multiplier, what is added, and the divisor
unfoldable pub level_by : ℕ → ℕ → ℕ → ℤ → ℤ
level_by mf f divisor y = signed y ((nat_abs y * mf + f) / divisor)

-- "q=15+p; f=2^q/3 rounded down", p being the period
abbrev pub q_of : ℕ → ℕ
q_of p = 15 + p

abbrev pub f_of : ℕ → ℕ
f_of p = 2 ^ q_of p / 3

-- the one quantizing rule: s = 0 for a block; 1 for chroma DC, "(|T|*MFa+2f)/2^(q+1)"; 2 for luma DC, "(|T|*MFa+4f)/2^(q+2)"
abbrev pub level_of : ℕ → ℕ → ℕ → ℤ → ℤ
level_of s p mf y = level_by mf (2 ^ s * f_of p) (2 ^ (q_of p + s)) y
