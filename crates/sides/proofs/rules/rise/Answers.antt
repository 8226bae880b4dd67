-- `sides::rules::rise` meets its contract: straight-line code. Assumes nothing.
use mathlib.Core.Path.{refl}
use mathlib.Core.List.{List, [], ◌∷◌}
use Prim.Native.Nat.{ℕ, ◌-◌, ◌/◌}
use native.Mathlib.Omega.{arith}
use lib.IntN.{ℤ, pos}
use lib.ListN.{get_or}
use mir.Syntax.{w32}
use Rattle.whole.specs.Bounds.{Within}
use Rattle.whole.proofs.Bound.{within_less}
use Rattle.whole.proofs.Steps.{Code, inp, sub, mul, exact_of, size_of, at_most, bounded_at}
use Rattle.sides.specs.Code.{rise_of}
use Rattle.sides.proofs.rules.rise.Goals as goal

abbrev bounds : List ℕ
bounds = 600000 ∷ 16 ∷ 8 ∷ []

abbrev away : Code
away = sub (inp 1) (inp 2)

abbrev all : Code
all = mul (inp 0) away

pub returns : goal.returns
unfolding rise_of
returns c =
    let numbers : List ℤ = c.args.b ∷ pos c.args.k ∷ pos (c.args.n / 2 - 1) ∷ [] in
    let small : (i : ℕ) → Within (at_most bounds i) (get_or numbers i (pos 0)) = bounded_at bounds numbers refl (c.requires.2, (record { size = omega arith }, (record { size = omega arith }, tt))) in
    let e = exact_of w32 (at_most bounds) numbers small all tt in
    (e, rw e (within_less (size_of w32 (at_most bounds) numbers small all tt) tt))
