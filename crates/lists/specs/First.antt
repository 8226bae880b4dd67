-- The first offence: what a scan finds. Assumes nothing.
use Rattle.std.specs.Prelude.{Bool, cond, ℕ, zero, suc, ltb, Option, Some, None}

-- the least number below n that passes the test, and n where none does
unfoldable pub first : ℕ → (ℕ → Bool) → ℕ
first zero p = zero
first (suc n) p = cond (ltb (first n p) n) (first n p) (cond (p n) n (suc n))

-- a place that was looked for below n, and None where the search ended at n
unfoldable pub found : (n k : ℕ) → Option ℕ
found n k = cond (ltb k n) (Some k) None
