-- "outside -32768..32767", "first index" (01, "What is sent back, and in which order it is tested"). Assumes nothing.
use Rattle.std.specs.Prelude.{◌≡◌, Bool, true, false, not, ◌&&◌, List, ℕ, ◌<◌, ℤ, pos, length, get_or}
use Rattle.std.specs.Int.Signed.{le_z}
use Rattle.lists.specs.First.{first}

-- low ≤ z ≤ high
unfoldable pub inside : ℤ → ℤ → ℤ → Bool
inside low high z = le_z low z && le_z z high

-- the place of the first number outside low..high, and the length where there is none
unfoldable pub first_outside : ℤ → ℤ → List ℤ → ℕ
first_outside low high l = first (length l) (λ i. not (inside low high (get_or l i (pos 0))))

-- "first index": this one is outside, none before
pub record FirstOffence (low high : ℤ) (l : List ℤ) (i : ℕ) : Type 0 where
  pub here : inside low high (get_or l i (pos 0)) ≡ false
  pub before : (j : ℕ) → j < i → inside low high (get_or l j (pos 0)) ≡ true
