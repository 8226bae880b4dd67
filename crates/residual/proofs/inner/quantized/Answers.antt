-- `residual::inner::quantized` meets its contract: forward, then a level for each place. Assumes nothing.
use Rattle.transform.specs.Forward.{forward}
use mathlib.Core.Path.{◌≡◌, sym, ap, subst, ◌∙◌}
use mathlib.Core.List.{List}
use Prim.Native.Nat.{ℕ, ◌+◌, ◌≤◌, ◌^◌}
use native.Mathlib.Omega.{arith}
use lib.IntN.{pos}
use lib.ListN.{length, get_or}
use Rattle.lists.specs.Tab.{tab}
use Rattle.whole.specs.Bounds.{Each}
use Rattle.whole.proofs.Lists.{each_less}
use Rattle.transform.proofs.Bounds.{forward_each}
use Rattle.residual.specs.Quantize.{level_by, f_of}
use Rattle.residual.proofs.Quantize.{third_small, multipliers_small, quantized_by}
use borrow.Author.Rules.{rules}
use Rattle.residual.proofs.inner.quantized.Goals as goal

pub level_all-requires : goal.level_all-requires
level_all-requires c =
    let qp = c.args.quantizer.qp in
    let sixteen : length c.forward_block-levels.result ≡ 16 = search rules in
    let many : length c.multipliers-mf.result ≡ 16 = search rules in (
      subst (Each 65280) (sym c.forward_block-levels.ensures) (each_less 9180 65280 (forward c.args.residual) (forward_each c.args.residual c.requires.1) tt),
      omega (arith, many, sixteen),
      (λ k h. subst (λ (l : List ℕ). get_or l k 0 ≤ 13107) (sym c.multipliers-mf.ensures) (multipliers_small qp k (omega (arith, h, sixteen)))),
      rw c.third.ensures (omega (arith, third_small c.period-period.result (omega arith))),
      omega arith,
    )

pub returns : goal.returns
returns c =
    let sixteen : length c.forward_block-levels.result ≡ 16 = search rules in
    let period = c.period-period.ensures in
    c.level_all.ensures
    ∙ (λ i. tab (sixteen i) (λ k. level_by (get_or (c.multipliers-mf.ensures i) k 0) ((c.third.ensures ∙ ap f_of period) i) (2 ^ (15 + (c.from.ensures ∙ period) i)) (get_or (c.forward_block-levels.ensures i) k (pos 0))))
    ∙ quantized_by c.args.quantizer.qp c.args.residual

pub forward_block-levels-requires : goal.forward_block-levels-requires
forward_block-levels-requires c = each_less 255 32768 c.args.residual c.requires.1 tt
