-- `residual_whole::inner::first_ac` meets its contract: two loops that are left at the first number outside 16 bits. Assumes nothing.
use mathlib.Core.Path.{◌≡◌, sym, ap, ◌∙◌}
use mathlib.Core.Bool.{true, not}
use native.Mathlib.Omega.{arith}
use Rattle.std.proofs.lemmas.Grind.{common_steps}
use Rattle.lists.specs.First.{found}
use Rattle.lists.proofs.First.{found_at, found_end, searching_more, searching_here, searching_done}
use Rattle.residual.specs.Order.{in_zigzag}
use Rattle.residual.proofs.Scan.{wide_at, scan_clean, scan_found}
use Rattle.residual_whole.specs.Area.{blocks_of}
use Rattle.residual_whole.specs.Rebuilt.{ac_numbers, ac_fits, first_ac}
use Rattle.residual_whole.proofs.inner.first_ac.Goals as goal

pub blocks-2-preserved : goal.blocks-2-preserved
unfolding ac_fits
blocks-2-preserved c =
    let i = c.loop-number.invariant in
    (i.0, searching_more _ c.blocks-2.invariant.1 (omega arith) (ap not (scan_clean _ (searching_done _ i.2 (omega arith)))))

pub returns-after-blocks-2 : goal.returns-after-blocks-2
unfolding first_ac
returns-after-blocks-2 c =
    let end = searching_done _ c.blocks-2.invariant.1 (omega arith) in
    c.blocks-2.invariant.0 ∙ sym (found_end _ _ (omega (arith, end)))

-- what was tested is the number of this block and place
pub returns-then-not-inside : goal.returns-then-not-inside
unfolding first_ac ac_fits
returns-then-not-inside c =
    let a = c.args in
    let i = c.loop-number.invariant in
    let tested : wide_at (in_zigzag (ac_numbers a.s a.quantizer.qp a.levels.now c.blocks-2.b)) c.loop-number.number-index ≡ true = grind (arith, common_steps) in
    let wide = searching_here _ i.2 (omega arith) tested in
    let here = searching_here _ c.blocks-2.invariant.1 (omega arith) (ap not (scan_found _ c.loop-number.number-index (omega arith) wide)) in
    sym (found_at (blocks_of a.s) c.blocks-2.b (omega arith)) ∙ ap (found (blocks_of a.s)) (sym here)
