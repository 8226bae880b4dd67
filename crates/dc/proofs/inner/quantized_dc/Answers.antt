-- `dc::inner::quantized_dc` meets its contract: a level for each number, all by the multiplier of class a. Assumes nothing.
use mathlib.Core.Path.{◌≡◌, ap, ◌∙◌}
use Prim.Native.Nat.{ℕ, ◌+◌, ◌*◌, ◌^◌, ◌≤◌}
use native.Mathlib.Omega.{arith}
use Rattle.residual.specs.Quantize.{f_of}
use Rattle.residual.proofs.Quantize.{third_small}
use Rattle.dc.proofs.Levels.{mf_small, addend, same_small, levels_by}
use Rattle.dc.proofs.inner.quantized_dc.Goals as goal

-- what is added, before it is shifted, is at most a third of 2^23
small : {n : ℕ} (period : ℕ) → period ≤ 8 → n ≡ f_of period → n ≤ 2796202
small period h e = rw e (third_small period h)

pub level_all-requires : goal.level_all-requires
level_all-requires c =
    let mf : c.from-mf.result ≤ 13107 = rw (c.from-mf.ensures, c.mf.ensures) (mf_small c.args.quantizer.qp) in (
      c.requires.1,
      c.requires.2,
      (λ k l. same_small 16 c.from-mf.result mf k (omega (arith, l, c.requires.2))),
      (addend c.third-f.result c.args.s (small c.period-period.result (omega arith) c.third-f.ensures) c.requires.3).1,
      omega arith,
    )

pub returns : goal.returns
returns c =
    let period = c.period-period.ensures in
    levels_by 16 c.args.s c.args.quantizer.qp _ _ _ c.args.t.now _ c.level_all.ensures c.requires.2 (c.from-mf.ensures ∙ c.mf.ensures)
    ((addend c.third-f.result c.args.s (small c.period-period.result (omega arith) c.third-f.ensures) c.requires.3).0 ∙ ap (λ (n : ℕ). 2 ^ c.args.s * n) (c.third-f.ensures ∙ ap f_of period))
    (ap (λ (n : ℕ). 15 + n + c.args.s) (c.from-q.ensures ∙ period))
