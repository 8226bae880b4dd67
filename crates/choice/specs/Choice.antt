-- SAD, and the least cost with "the lower number on a tie" (01, "Samples round a block"), over any number of samples and of modes.
-- Assumes nothing.
use Rattle.std.specs.Prelude.{◌≡◌, cond, List, ℕ, ◌<◌, ◌≤◌, ltb, get_or}
use Rattle.lists.specs.Fold.{fold}
use Rattle.lists.specs.Total.{total, gap}

-- the sum of absolute differences over n samples
unfoldable pub sad : ℕ → List ℕ → List ℕ → ℕ
sad n a b = total n (λ k. gap (get_or a k 0) (get_or b k 0))

-- what a mode costs, if it is permitted
pub data Cost : Type 0 where
  is : ℕ → Cost
  no : Cost

-- the best so far: a mode and its cost
pub data Best : Type 0 where
  nothing : Best
  at : ℕ → ℕ → Best

-- its mode and its cost (there always is one: DC needs nothing)
abbrev pub mode_of : Best → ℕ
mode_of nothing = 0
mode_of (at mode cost) = mode

abbrev pub sad_of : Best → ℕ
sad_of nothing = 0
sad_of (at mode cost) = cost

-- after mode m has been looked at: only a strictly smaller cost takes the place
abbrev pub better : ℕ → Cost → Best → Best
better m no b = b
better m (is d) nothing = at m d
better m (is d) (at k s) = cond (ltb d s) (at m d) (at k s)

-- the best of the modes 0, .., n - 1
unfoldable pub best_of : ℕ → (ℕ → Cost) → Best
best_of n cost = fold n (λ m b. better m (cost m) b) nothing

-- "the lower number on a tie": mode m of the first n costs s, no mode costs less, every lower one costs more
pub record Least (n : ℕ) (cost : ℕ → Cost) (m s : ℕ) : Type 0 where
  pub within : m < n
  pub costs : cost m ≡ is s
  pub least : (j : ℕ) → j < n → (d : ℕ) → cost j ≡ is d → s ≤ d
  pub lower : (j : ℕ) → j < m → (d : ℕ) → cost j ≡ is d → s < d
