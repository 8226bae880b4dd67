-- `sides::rules::tilt` meets its contract: straight-line code over the gain and the slope. Assumes nothing.
use mathlib.Core.Path.{refl, ap₂}
use mathlib.Core.List.{List, [], ◌∷◌}
use Prim.Native.Nat.{ℕ, ◌^◌}
use lib.IntN.{ℤ, pos, ◌+ℤ◌, ◌*ℤ◌}
use lib.ListN.{get_or}
use lib.Signed.{shr_z}
use mir.Syntax.{w32}
use Rattle.whole.specs.Bounds.{Within}
use Rattle.whole.proofs.Bound.{within_less}
use Rattle.whole.proofs.Steps.{Code, inp, num, add, mul, shr, exact_of, size_of, at_most, bounded_at}
use Rattle.sides.specs.Plane.{tilt}
use Rattle.sides.proofs.rules.tilt.Goals as goal

abbrev bounds : List ℕ
bounds = 34 ∷ 16320 ∷ []

abbrev product : Code
product = mul (inp 0) (inp 1)

abbrev rounded : Code
rounded = add product (num (pos 32))

pub returns : goal.returns
unfolding tilt
returns c =
    let numbers : List ℤ = c.gain.result ∷ c.slope.result ∷ [] in
    let small : (i : ℕ) → Within (at_most bounds i) (get_or numbers i (pos 0)) = bounded_at bounds numbers refl (c.gain.ensures.1, (c.slope.ensures.1, tt)) in
    let e = exact_of w32 (at_most bounds) numbers small (shr rounded 6) tt in
    let s = size_of w32 (at_most bounds) numbers small (shr rounded 6) tt in
    rw e (ap₂ (λ (g h : ℤ). shr_z (g *ℤ h +ℤ pos 32) (2 ^ 6)) c.gain.ensures.0 c.slope.ensures.0, within_less s tt)
