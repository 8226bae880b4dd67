-- What a loop leaves whose stores are scattered. Assumes nothing.
use Rattle.std.specs.Prelude.{List, ℕ, zero, suc, set}

-- d after the stores of v 0 at p 0, .., v (n - 1) at p (n - 1), in that order
unfoldable pub stores : {A : Type 0} → ℕ → (ℕ → ℕ) → (ℕ → A) → List A → List A
stores zero p v d = d
stores (suc n) p v d = set (stores n p v d) (p n) (v n)
