-- `residual::inner::level` meets its contract: nothing wraps, since a coefficient is at most 65280 and a multiplier at most 13107.
-- Assumes nothing.
use mathlib.Core.Path.{◌≡◌, sym, subst, ap, ◌∙◌}
use mathlib.Core.List.{[], ◌∷◌}
use Prim.Native.Nat.{ℕ, ◌+◌, ◌*◌, ◌/◌, ◌^◌, ◌≤◌}
use native.Mathlib.Nat.{mul-le-mul, div-le_self}
use native.Mathlib.Omega.{arith}
use lib.IntN.{pos, nat_abs}
use mir.Syntax.{w32}
use mir.ValLaws.{to_z-of_z}
use Rattle.whole.specs.Bounds.{Each}
use Rattle.whole.proofs.Order.{plain_lt}
use Rattle.whole.proofs.Steps.{inp, num, sub, exact}
use Rattle.residual.specs.Quantize.{signed, level_by}
use Rattle.residual.proofs.Quantize.{signed_low, signed_high}
use Rattle.residual.proofs.inner.level.Goals as goal
use Rattle.residual.proofs.inner.level.Goals.{After-absolute}

-- what `absolute` returned is the size of y
size_is : (c : After-absolute) → c.absolute.result ≡ nat_abs c.args.y
size_is c = c.absolute.ensures ∙ ap nat_abs (to_z-of_z w32 c.args.y c.ranges.y)

product_small : (c : After-absolute) → c.absolute.result * c.args.mf ≤ 65280 * 13107
product_small c = mul-le-mul (subst (λ (n : ℕ). n ≤ 65280) (sym (size_is c)) c.requires.0.size) c.requires.1

-- the level's size, and that it is small
abbrev size : After-absolute → ℕ
size c = (c.absolute.result * c.args.mf + c.args.f) / 2 ^ c.args.q

size_small : (c : After-absolute) → size c ≤ 900000000
size_small c =
    omega (arith, div-le_self (c.absolute.result * c.args.mf + c.args.f) (2 ^ c.args.q), product_small c, c.requires.2)

each : (c : After-absolute) → Each 900000000 (pos (size c) ∷ [])
each c = (record { size = size_small c }, tt)

size_same : (c : After-absolute) → size c ≡ (nat_abs c.args.y * c.args.mf + c.args.f) / 2 ^ c.args.q
size_same c = ap (λ (n : ℕ). (n * c.args.mf + c.args.f) / 2 ^ c.args.q) (size_is c)

pub returns-then-y-lt0 : goal.returns-then-y-lt0
unfolding level_by
returns-then-y-lt0 c =
    exact w32 900000000 (pos (size c.before) ∷ []) (each c.before) (sub (num (pos 0)) (inp 0)) tt
    ∙ signed_low c.args.y (size c.before) (plain_lt w32 c.args.y c.ranges.y (pos 0) c.if-y-lt0.true)
    ∙ ap (signed c.args.y) (size_same c.before)

pub returns-else-y-lt0 : goal.returns-else-y-lt0
unfolding level_by
returns-else-y-lt0 c =
    exact w32 900000000 (pos (size c.before) ∷ []) (each c.before) (inp 0) tt
    ∙ signed_high c.args.y (size c.before) (plain_lt w32 c.args.y c.ranges.y (pos 0) c.if-y-lt0.false)
    ∙ ap (signed c.args.y) (size_same c.before)
