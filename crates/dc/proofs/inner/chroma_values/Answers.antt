-- `dc::inner::chroma_values` meets its contract: through the 2x2 H, and the plain shift. Assumes nothing.
use borrow.Author.Rules.{rules}
use mathlib.Core.Path.{◌≡◌, refl, ap, ◌∙◌}
use Prim.Native.Nat.{ℕ, ◌*◌, ◌^◌}
use native.Mathlib.Omega.{arith}
use lib.IntN.{ℤ, pos, ◌*ℤ◌}
use lib.ListN.{length}
use lib.Signed.{shr_z}
use Rattle.quantizer.specs.Range.{period_of}
use Rattle.transform.proofs.Sides.{kept}
use Rattle.dc.specs.Dc.{v_a, chroma_scaled, chroma_values}
use Rattle.dc.proofs.Values.{products_fit, chroma_back, scaled_by_law, chroma_shift}
use Rattle.dc.proofs.inner.chroma_values.Goals as goal
use Rattle.dc.proofs.inner.chroma_values.Goals.{After-hadamard2-values, After-scale-scale}

abbrev rule : ℕ → ℤ → ℤ
rule qp x = shr_z (x *ℤ pos (v_a qp) *ℤ pos (2 ^ period_of qp)) 2

-- four numbers
many : (c : After-hadamard2-values) → length c.hadamard2-values.result ≡ 4
many c = search rules

scale-is : (c : After-scale-scale) → c.scale-scale.result ≡ v_a c.args.quantizer.qp * 2 ^ period_of c.args.quantizer.qp
scale-is c = c.scale-scale.ensures ∙ ap (λ (p : ℕ). v_a c.args.quantizer.qp * 2 ^ p) c.period.ensures

pub scale_all-requires : goal.scale_all-requires
scale_all-requires c =
    let qp = c.args.quantizer.qp in
    let g = kept 131072 c.hadamard2-values.ensures (chroma_back c.args.levels c.requires.1) in (
      omega (arith, many c.before.before.before.before),
      (λ k l. products_fit 131072 8 4 qp (period_of qp) c.hadamard2-values.result (scale-is c.before.before) (omega arith) g tt tt k (omega (arith, l, many c.before.before.before.before))),
      omega arith,
      omega arith,
    )

pub returns : goal.returns
unfolding chroma_values chroma_scaled
returns c =
    let qp = c.args.quantizer.qp in
    scaled_by_law 4 qp (period_of qp) 0 1 c.hadamard2-values.result (rule qp) c.scale_all.ensures (many c.before.before.before.before.before.before) (scale-is c.before.before.before.before) refl refl (chroma_shift (v_a qp) (period_of qp))
    ∙ ap (chroma_scaled qp) c.hadamard2-values.ensures
