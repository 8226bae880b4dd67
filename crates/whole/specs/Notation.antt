-- Whole numbers as the paper writes them: "-255", "(value+32)>>6". Assumes nothing.
use Rattle.std.specs.Prelude.{ℕ, ◌^◌, ℤ, pos, neg_ℤ}
use Rattle.std.specs.Int.Signed.{shr_z}

-- "-255"
abbrev pub minus : ℕ → ℤ
minus n = neg_ℤ (pos n)

-- "shifts round down"
infixl 5 ◌>>◌
abbrev pub ◌>>◌ : ℤ → ℕ → ℤ
z >> n = shr_z z (2 ^ n)
