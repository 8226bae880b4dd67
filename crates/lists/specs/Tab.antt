-- A list by the rule of its elements: what a loop leaves that stores f 0, f 1, .. in turn.
-- The size stands before rule and list in every definition of this crate. Assumes nothing.
use Rattle.std.specs.Prelude.{List, [], ◌∷◌, ◌++◌, ℕ, zero, suc, ◌+◌, ◌*◌, ◌/◌, ◌%◌, get_or}

-- f 0, f 1, .., f (n - 1)
unfoldable pub tab : {A : Type 0} → ℕ → (ℕ → A) → List A
tab zero f = []
tab (suc n) f = tab n f ++ (f n ∷ [])

-- the rule at the k-th of n columns and n rows in raster order; the column stands first, as in the paper's (x,y)
abbrev pub in_raster : {A : Type 0} → ℕ → (ℕ → ℕ → A) → ℕ → A
in_raster n rule k = rule (k % n) (k / n)

-- a rule at all places of n columns and n rows, in raster order
unfoldable pub grid : {A : Type 0} → ℕ → (ℕ → ℕ → A) → List A
grid n rule = tab (n * n) (in_raster n rule)

-- a square of n rows and n columns in raster order with rows and columns exchanged: at column x, row y stands what stood at column y, row x;
-- `blank` would stand for what a shorter list lacks
unfoldable pub turned : {A : Type 0} → A → ℕ → List A → List A
turned blank n l = grid n (λ x y. get_or l (n * x + y) blank)
