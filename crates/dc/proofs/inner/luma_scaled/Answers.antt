-- `dc::inner::luma_scaled` meets its contract: the scaling rule at k = 2. Assumes nothing.
use borrow.Author.Rules.{rules}
use mathlib.Core.Path.{◌≡◌, ap, ◌∙◌}
use Prim.Native.Nat.{ℕ, ◌-◌, ◌*◌, ◌/◌, ◌^◌}
use native.Mathlib.Omega.{arith}
use lib.IntN.{pos, ◌*ℤ◌}
use lib.ListN.{length}
use Rattle.quantizer.specs.Range.{period_of}
use Rattle.residual.specs.Rescale.{scaled_by}
use Rattle.residual.proofs.Rescale.{scaled_is}
use Rattle.dc.specs.Dc.{v_a, luma_scaled}
use Rattle.dc.proofs.Values.{products_fit, scaled_by_law}
use Rattle.dc.proofs.inner.luma_scaled.Goals as goal

scale_is : {s p e : ℕ} (qp : ℕ) → s ≡ v_a qp * 2 ^ e → e ≡ p - 2 → p ≡ period_of qp → s ≡ v_a qp * 2 ^ (period_of qp - 2)
scale_is qp a b c = a ∙ ap (λ (p : ℕ). v_a qp * 2 ^ p) (b ∙ ap (λ (p : ℕ). p - 2) c)

shift_is : {s e p : ℕ} (qp : ℕ) → s ≡ e → e ≡ 2 - p → p ≡ period_of qp → s ≡ 2 - period_of qp
shift_is qp a b c = a ∙ b ∙ ap (λ (p : ℕ). 2 - p) c

pub scale_all-requires : goal.scale_all-requires
scale_all-requires c =
    let qp = c.args.quantizer.qp in
    let many : length c.args.g ≡ 16 = search rules in (
      omega arith,
      (λ k l. products_fit 524288 6 16 qp (period_of qp - 2) c.args.g (scale_is qp c.scale-scale.ensures c.beyond.ensures c.period-period.ensures) (omega arith) c.requires.1 tt tt k (omega (arith, l, many))),
      c.half.ensures.1,
      omega (arith, shift_is qp c.from-shift.ensures c.beyond-2.ensures c.period-period.ensures),
    )

pub returns : goal.returns
unfolding luma_scaled
returns c =
    let qp = c.args.quantizer.qp in
    let p = period_of qp in
    let many : length c.args.g ≡ 16 = search rules in
    let shift = shift_is qp c.from-shift.ensures c.beyond-2.ensures c.period-period.ensures in
    scaled_by_law 16 qp (p - 2) (2 ^ (2 - p) / 2) (2 - p) c.args.g (λ x. scaled_by 2 p (x *ℤ pos (v_a qp))) c.scale_all.ensures many
    (scale_is qp c.scale-scale.ensures c.beyond.ensures c.period-period.ensures) (c.half.ensures.0 ∙ ap (λ (n : ℕ). 2 ^ n / 2) shift) shift (scaled_is 2 p (v_a qp))
