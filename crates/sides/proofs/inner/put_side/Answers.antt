-- `sides::inner::put_side` meets its contract: two loops that store the rule in raster order, of a row that begins with the side. Assumes nothing.
use mathlib.Core.Path.{◌≡◌, sym, ap, ◌∙◌}
use mathlib.Core.Bool.{Bool, true, false, cond}
use mathlib.Core.List.{List, []}
use Prim.Native.Nat.{ℕ, ◌<◌}
use native.Mathlib.Omega.{arith}
use borrow.Author.Rules.{rules}
use lib.ListN.{length, get_or, take}
use lib.Seq.{get_or-take}
use Rattle.lists.proofs.Tab.{squaring_none, squaring_more, squaring_done}
use Rattle.intra4.specs.Rules.{row_of, vertical, horizontal}
use Rattle.sides.proofs.inner.put_side.Goals as goal
use Rattle.sides.proofs.inner.put_side.Goals.{then-above, else-above}

module _ (n : ℕ) (side own : List ℕ) (e : take (length side) own ≡ side) (long : length side ≡ n) where
  own_at : (k : ℕ) → k < n → get_or own k 0 ≡ get_or side k 0
  own_at k h = sym (get_or-take (length side) own k 0 (omega arith)) ∙ ap (λ (l : List ℕ). get_or l k 0) e

  stored : (b : Bool) {x y k v : ℕ} → x < n → y < n → k ≡ cond b x y → v ≡ get_or own k 0 → v ≡ cond b vertical horizontal (row_of [] side) x y
  unfolding vertical horizontal
  stored true {x} h l p q = q ∙ ap (λ (j : ℕ). get_or own j 0) p ∙ own_at x h
  stored false {x} {y} h l p q = q ∙ ap (λ (j : ℕ). get_or own j 0) p ∙ own_at y l

pub loop-y-init : goal.loop-y-init
loop-y-init c = squaring_none _ _ (omega arith)

pub loop-x-preserved : goal.loop-x-preserved
loop-x-preserved c =
    let place : c.if-above.out ≡ cond c.args.above c.loop-x.x c.loop-y.y =
    elim c.if-above.branch [ then-above w ↦ rw w.if-above.true w.out-is | else-above w ↦ rw w.if-above.false w.out-is ] in
    squaring_more _ _ c.loop-x.invariant (omega arith) (omega arith)
    (stored c.args.n c.args.side.now c.row_of-own.result c.row_of-own.ensures (omega arith) c.args.above (omega arith) (omega arith) place (search rules))

pub returns : goal.returns
returns c = squaring_done _ _ c.loop-y.invariant (omega arith)
