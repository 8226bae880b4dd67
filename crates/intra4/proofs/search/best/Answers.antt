-- `intra4::search::best` meets its contract. Assumes nothing.
use mathlib.Core.Path.{◌≡◌, sym, ap, ◌∙◌}
use mathlib.Core.List.{List, []}
use Prim.Native.Nat.{ℕ, ◌*◌, ◌≤◌}
use native.Mathlib.Omega.{arith}
use lib.ListN.{length, get_or}
use borrow.Author.Rules.{rules}
use Rattle.intra4.specs.Choice.{sad}
use Rattle.choice.proofs.Looking.{looking_none, looking_more, looking_done}
use Rattle.intra4.proofs.Area.{area_looked, area_passed}
use Rattle.intra4.proofs.search.best.Goals as goal
use Rattle.intra4.proofs.search.best.Goals.{then-permitted, else-permitted}

pub loop-mode-init : goal.loop-mode-init
loop-mode-init c = looking_none _ _ c.unsettled-best.ensures

-- what is permitted is weighed by its row of the area, and any other mode is passed over
pub loop-mode-preserved : goal.loop-mode-preserved
loop-mode-preserved c =
    let a = c.args in
    let m = c.loop-mode.mode in
    looking_more _ _ c.loop-mode.invariant (omega arith) (elim c.if-permitted.branch [
      | then-permitted w ↦ (
          let l : length (get_or a.area.now m []) ≡ 16 = search rules in
          let row = ap (λ (k : ℕ). get_or a.area.now k []) w.from.ensures in
          let cost : w.from-then-permitted.result ≡ sad (length (get_or a.area.now m [])) (get_or a.area.now m []) a.samples.now =
          w.from-then-permitted.ensures ∙ w.sad-cost.ensures.0 ∙ ap (λ (x : List ℕ). sad (length x) x a.samples.now) row in
          let small : w.from-then-permitted.result ≤ 255 * length (get_or a.area.now m []) = rw (w.from-then-permitted.ensures, ← row) w.sad-cost.ensures.1 in
          rw w.best-is (area_looked a.area.now a.flags m a.samples.now c.loop-mode.best (sym c.permitted.ensures ∙ w.if-permitted.true) l cost small w.look-best.ensures)
          )
      | else-permitted w ↦ rw (area_passed a.area.now a.flags m a.samples.now (sym c.permitted.ensures ∙ w.if-permitted.false)) (w.best-is, tt)
    ])

pub returns : goal.returns
returns c = looking_done _ _ c.loop-mode.invariant (omega arith)
