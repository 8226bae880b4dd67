-- Bounds on the size of whole numbers (01: "outside -255..255" and its like). Assumes nothing.
use Rattle.std.specs.Prelude.{List, [], ◌∷◌, ℕ, ◌≤◌, ℤ, nat_abs}

-- z lies in -B..B. A record, so that B and z can be inferred from a hypothesis
pub record Within (B : ℕ) (z : ℤ) : Type 0 where
  pub size : nat_abs z ≤ B

-- each number of the list lies in -B..B
abbrev pub Each : ℕ → List ℤ → Type 0
Each B [] = Unit {0}
Each B (z ∷ l) = Within B z × Each B l
