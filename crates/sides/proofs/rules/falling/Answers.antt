-- `sides::rules::falling` meets its contract: a loop that adds weighted samples of at most 2040, and the corner behind it. Assumes nothing.
use mathlib.Core.Path.{◌≡◌, sym, ap, ◌∙◌}
use mathlib.Core.List.{List, ◌∷◌}
use Prim.Native.Nat.{ℕ, suc, ◌+◌, ◌*◌, ◌-◌, ◌/◌, ◌<◌, ◌≤◌}
use native.Mathlib.Omega.{arith}
use lib.ListN.{get_or}
use Rattle.lists.specs.Total.{total}
use Rattle.lists.proofs.Total.{totalling_none, totalling_more, totalling_done}
use Rattle.sides.specs.Code.{falling}
use Rattle.sides.proofs.rules.falling.Invariants.{term}
use Rattle.sides.proofs.rules.falling.Goals as goal

-- before the last turn the place is past the corner
past : {v : ℕ} (last corner : ℕ) (side : List ℕ) (i : ℕ) → i < last → v ≡ (i + 1) * get_or side (last - 1 - i) 0 → v ≡ term last corner side i
unfolding term
past last corner side i l e =
    let q : last - i ≡ suc (last - 1 - i) = omega arith in
    e ∙ ap (λ (k : ℕ). (i + 1) * get_or (corner ∷ side) k 0) (sym q)

-- and in the last turn it is the corner
done : {s v : ℕ} (n corner : ℕ) (side : List ℕ) → 2 ≤ n → s ≡ total (n / 2 - 1) (term (n / 2 - 1) corner side) → v ≡ (n / 2 - 1 + 1) * corner → s + v ≡ falling n corner side
unfolding falling total term
done n corner side h e f =
    let q : n / 2 ≡ suc (n / 2 - 1) = omega arith in
    let z : n / 2 - 1 - (n / 2 - 1) ≡ 0 = omega arith in
    let t : total (n / 2) (term (n / 2 - 1) corner side) ≡ total (suc (n / 2 - 1)) (term (n / 2 - 1) corner side) = ap (λ (k : ℕ). total k (term (n / 2 - 1) corner side)) q in
    let g : (n / 2 - 1 + 1) * corner ≡ term (n / 2 - 1) corner side (n / 2 - 1) = ap (λ (k : ℕ). (n / 2 - 1 + 1) * get_or (corner ∷ side) k 0) (sym z) in
    (λ i. e i + (f ∙ g) i) ∙ sym t

pub loop-i-init : goal.loop-i-init
loop-i-init c = totalling_none _ _ _

pub loop-i-preserved : goal.loop-i-preserved
loop-i-preserved c =
    totalling_more _ _ _ c.loop-i.invariant (omega arith) (past _ _ _ _ (omega arith) c.weighted-sum.ensures.0) c.weighted-sum.ensures.1

pub returns : goal.returns
returns c =
    let a = c.args in
    (done a.n a.corner a.side.now (omega arith) (totalling_done _ _ _ c.loop-i.invariant (omega arith)) c.weighted.ensures.0, omega arith)
