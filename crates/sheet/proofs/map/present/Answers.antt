use mathlib.Core.Path.{◌≡◌, ap, ◌∙◌}
use mathlib.Core.Bool.{Bool, true, false, cond}
use Prim.Native.Nat.{ℕ, ◌≤◌}
use native.Mathlib.Omega.{arith}
use mir.Val.{bool_byte}
use Rattle.lists.proofs.Total.{totalling_none, totalling_more, totalling_done}
use Rattle.sheet.specs.Errors.{present_count}
use Rattle.sheet.proofs.map.present.Goals as goal

-- what a byte adds to the count
counted : {v : ℕ} (b : Bool) → v ≡ bool_byte b → (v ≡ cond b 1 0) × (v ≤ 1)
counted true e = (e, omega (arith, e))
counted false e = (e, omega (arith, e))

pub loop-byte-init : goal.loop-byte-init
loop-byte-init c = totalling_none _ _ _

pub loop-byte-preserved : goal.loop-byte-preserved
loop-byte-preserved c =
    let one = counted _ (c.from-count.ensures ∙ ap bool_byte c.is_present.ensures) in
    totalling_more _ _ _ c.loop-byte.invariant (omega arith) one.0 one.1

pub returns : goal.returns
unfolding present_count
returns c = totalling_done _ _ _ c.loop-byte.invariant (omega arith)
