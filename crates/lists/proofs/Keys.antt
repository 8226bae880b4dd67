-- A `match` on a number whose keys are 0, 1, .. in order, one to an arm: what its arm `_` knows. Assumes nothing.
use mathlib.Core.Path.{◌≡◌}
use Prim.Native.Nat.{ℕ, zero, suc, ◌≤◌, zero-le}
use native.Mathlib.Omega.{arith}

-- m is none of 0, .., n - 1, as `c.match.rest` says it
abbrev pub NoneBelow : ℕ → ℕ → Type 0
NoneBelow m zero = Unit {0}
NoneBelow m (suc n) = NoneBelow m n × (m ≡ n → ⊥)

pub at_least : (n m : ℕ) → NoneBelow m n → n ≤ m
at_least zero m h = zero-le
at_least (suc n) m h = let l : n ≤ m = at_least n m h.0 in let k : m ≡ n → ⊥ = h.1 in omega arith
