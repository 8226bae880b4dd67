-- Sums over a size, and the unit matrix (01: "C X C-transposed", "4 times the unit matrix"). Assumes nothing.
use Rattle.std.specs.Prelude.{cond, ℕ, zero, suc, eqb, ℤ, pos, ◌+ℤ◌}

-- f 0 + .. + f (n - 1)
abbrev pub sum : ℕ → (ℕ → ℤ) → ℤ
sum zero f = pos 0
sum (suc n) f = sum n f +ℤ f n

-- the unit matrix's entry in row i, column j
abbrev pub unit : ℕ → ℕ → ℤ
unit i j = cond (eqb i j) (pos 1) (pos 0)
