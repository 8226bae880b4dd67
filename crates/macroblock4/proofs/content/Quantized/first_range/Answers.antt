-- `macroblock4::content::Quantized::first_range` meets its contract: two loops that are left at the first number outside 16 bits. Assumes nothing.
use mathlib.Core.Path.{◌≡◌, sym, ap, ◌∙◌}
use mathlib.Core.Bool.{true, not}
use native.Mathlib.Omega.{arith}
use Rattle.std.proofs.lemmas.Grind.{common_steps}
use Rattle.lists.specs.First.{found}
use Rattle.lists.proofs.First.{found_at, found_end, searching_more, searching_here, searching_done}
use Rattle.residual.specs.Order.{in_zigzag}
use Rattle.residual.proofs.Scan.{wide_at}
use Rattle.macroblock4.specs.Content.{rescaled_in, first_range}
use Rattle.macroblock4.proofs.Contents.{range_found, range_clean, zero_range}
use Rattle.macroblock4.proofs.content.Quantized.first_range.Goals as goal

-- a block whose levels are all 0 is passed over
pub blocks-2-preserved-then-all_zero : goal.blocks-2-preserved-then-all_zero
blocks-2-preserved-then-all_zero c =
    let i = c.blocks-2.invariant in
    (i.0, searching_more _ i.1 c.blocks-2-test.true (ap not (zero_range _ _ (c.all_zero.ensures.0 c.if-all_zero.true))))

pub blocks-2-preserved : goal.blocks-2-preserved
blocks-2-preserved c =
    let i = c.loop-number.invariant in
    (i.0, searching_more _ c.blocks-2.invariant.1 c.blocks-2-test.true (ap not (range_clean _ _ (searching_done _ i.2 (omega arith)))))

pub returns-after-blocks-2 : goal.returns-after-blocks-2
unfolding first_range
returns-after-blocks-2 c =
    let end = searching_done _ c.blocks-2.invariant.1 c.blocks-2-test.false in
    c.blocks-2.invariant.0 ∙ sym (found_end _ _ (omega (arith, end)))

-- what was tested is the number of this block and place
pub returns-then-not-inside : goal.returns-then-not-inside
unfolding first_range
returns-then-not-inside c =
    let i = c.loop-number.invariant in
    let tested : wide_at (in_zigzag (rescaled_in c.args.self.part.now c.blocks-2.b)) c.loop-number.number-index ≡ true = grind (arith, common_steps) in
    let wide = searching_here _ i.2 (omega arith) tested in
    let here = searching_here _ c.blocks-2.invariant.1 c.blocks-2-test.true (ap not (range_found _ _ c.loop-number.number-index (omega arith) wide)) in
    sym (found_at 16 c.blocks-2.b c.blocks-2-test.true) ∙ ap (found 16) (sym here)
