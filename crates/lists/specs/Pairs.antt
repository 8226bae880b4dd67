-- What a loop leaves that stores twice in a turn. Assumes nothing.
use Rattle.std.specs.Prelude.{List, [], ◌∷◌, ◌++◌, ℕ, zero, suc}

-- f 0, g 0, f 1, g 1, .., f (n - 1), g (n - 1)
unfoldable pub pairs : {A : Type 0} → ℕ → (ℕ → A) → (ℕ → A) → List A
pairs zero f g = []
pairs (suc n) f g = pairs n f g ++ (f n ∷ g n ∷ [])
