-- `residual::inner::rescaled` meets its contract: each level times its scale. Assumes nothing.
use borrow.Author.Rules.{rules}
use mathlib.Core.List.{List}
use mathlib.Core.Path.{◌≡◌, sym, subst, ◌∙◌}
use Prim.Native.Nat.{ℕ}
use native.Mathlib.Omega.{arith}
use lib.IntN.{pos, ◌+ℤ◌, ◌*ℤ◌}
use lib.ListN.{length, get_or}
use lib.Signed.{shr_z}
use Rattle.lists.specs.Tab.{tab}
use Rattle.residual.specs.Rescale.{Scalable}
use Rattle.residual.proofs.Rescale.{scales_fit, rescaled_by}
use Rattle.residual.proofs.inner.rescaled.Goals as goal
use Rattle.residual.proofs.inner.rescaled.Goals.{Start}

-- sixteen levels
sixteen : (c : Start) → length c.args.levels ≡ 16
sixteen c = search rules

pub scale_all-requires : goal.scale_all-requires
scale_all-requires c =
    let many : length c.scales-scale.result ≡ 16 = search rules in (
      omega (arith, many, sixteen c.before.before.before),
      (λ k h. subst (λ (l : List ℕ). Scalable (get_or c.args.levels k (pos 0)) (get_or l k 0)) (sym c.scales-scale.ensures)
          (scales_fit c.args.quantizer.qp c.args.levels k c.requires.0 c.requires.1 (omega (arith, h, sixteen c.before.before.before)))),
      omega arith,
      omega arith,
    )

pub returns : goal.returns
returns c =
    c.scale_all.ensures
    ∙ (λ i. tab (sixteen c.before.before.before.before.before i) (λ k. shr_z (get_or c.args.levels k (pos 0) *ℤ pos (get_or (c.scales-scale.ensures i) k 0) +ℤ pos 0) 1))
    ∙ rescaled_by c.args.quantizer.qp c.args.levels
