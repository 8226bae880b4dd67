-- `residual_whole::coded::block_to_levels` meets its contract. Assumes nothing.
use borrow.Author.Rules.{rules}
use mathlib.Core.Path.{◌≡◌, sym, ap, subst, ◌∙◌}
use mathlib.Core.List.{List}
use native.Mathlib.Omega.{arith}
use lib.IntN.{ℤ, pos}
use lib.ListN.{length, get_or, drop, length-drop}
use lib.Seq.{take_all}
use mir.Syntax.{w32}
use Rattle.whole.specs.Bounds.{Within}
use Rattle.whole.proofs.Bound.{argument}
use Rattle.whole.proofs.Lists.{each_less}
use Rattle.transform.specs.Forward.{forward}
use Rattle.transform.proofs.Bounds.{forward_within}
use Rattle.residual.specs.Order.{in_zigzag}
use Rattle.residual.specs.Levels.{quantized}
use Rattle.block.specs.Block.{residual_of}
use Rattle.residual_whole.specs.Coded.{residual_in}
use Rattle.residual_whole.proofs.coded.block_to_levels.Goals as goal

pub forward_block-coefficients-requires : goal.forward_block-coefficients-requires
forward_block-coefficients-requires c = each_less 255 32768 c.lacking-residual.result c.lacking-residual.ensures.1 tt

pub returns-clause-value : goal.returns-clause-value
unfolding residual_in
returns-clause-value c =
    let w = forward_within c.lacking-residual.result c.lacking-residual.ensures.1 0 (omega arith) in
    let e = ap (λ (t : List ℤ). get_or t 0 (pos 0)) c.forward_block-coefficients.ensures in
    let v = subst (Within 4080) (sym e) w in
    let a = (argument w32 v tt).is in
    let l = c.lacking-residual.ensures.0 ∙ (λ i. residual_of (c.part-own.ensures i) (c.part.ensures i)) in
    (a ∙ e ∙ ap (λ (t : List ℤ). get_or (forward t) 0 (pos 0)) l, subst (Within 4080) (sym a) v)

pub returns-clause-ac_after : goal.returns-clause-ac_after
unfolding residual_in
returns-clause-ac_after c =
    let l = c.lacking-residual.ensures.0 ∙ (λ i. residual_of (c.part-own.ensures i) (c.part.ensures i)) in
    let all = c.in_zigzag-levels.result in
    let sixteen : length all ≡ 16 = search rules in
    let behind : c.copy.new.to ≡ drop 1 all = c.copy.ensures ∙ take_all 15 (drop 1 all) (omega (arith, length-drop 1 all, sixteen)) in
    behind ∙ ap (drop 1) (c.in_zigzag-levels.ensures ∙ ap in_zigzag (c.quantized.ensures ∙ ap (quantized c.args.quantizer.qp) l))
