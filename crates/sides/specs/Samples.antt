-- What stands round n by n samples, and the mask that leaves a missing sample without a value (02, Req 01 and Req 05; ITU-T H.264, 8.3.3 and
-- 8.3.4). n is 16 for Intra 16x16, 8 for chroma. A side, and what stands round, are those of `intra4/specs/Samples`. Assumes nothing.
use Rattle.std.specs.Prelude.{◌≡◌, true, List, ℕ, ◌+◌, take, drop}
use Rattle.intra4.specs.Samples.{Round, bit_of, corner_of, masked}

-- lent are the corner p[-1, -1], then the n samples above, p[0, -1] to p[n-1, -1],
abbrev pub above_of : ℕ → List ℕ → List ℕ
above_of n l = take n (drop 1 l)

-- then the n at the left, p[-1, 0] to p[-1, n-1]
abbrev pub left_of : ℕ → List ℕ → List ℕ
left_of n l = take n (drop (n + 1) l)

-- all that a prediction may see: bit 0 of the flags says that what is above is present, bit 1 what is at the left, bit 2 the corner
abbrev pub mask : ℕ → List ℕ → ℕ → Round
mask n l f = masked (above_of n l) (left_of n l) (corner_of l) f

-- lists that agree wherever the flags f say that a sample is present
pub record AgreeWherePresent (n f : ℕ) (l l' : List ℕ) : Type 0 where
  pub above : bit_of f 0 ≡ true → above_of n l ≡ above_of n l'
  pub left : bit_of f 1 ≡ true → left_of n l ≡ left_of n l'
  pub corner : bit_of f 2 ≡ true → corner_of l ≡ corner_of l'
