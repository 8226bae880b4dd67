-- What a loop makes of a state. Assumes nothing.
use Rattle.std.specs.Prelude.{ℕ, zero, suc}

-- a after the turns 0, .., n - 1, where turn k takes a state s to f k s
unfoldable pub fold : {A : Type 0} → ℕ → (ℕ → A → A) → A → A
fold zero f a = a
fold (suc n) f a = f n (fold n f a)
