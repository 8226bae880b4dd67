-- `residual_whole::rebuilt::dc_values` meets its contract: the levels in front, by the DC path of their count. Assumes nothing.
use borrow.Author.Rules.{rules}
use mathlib.Core.Path.{◌≡◌, sym, ap, subst, ◌∙◌}
use Prim.Native.Nat.{ℕ}
use lib.ListN.{length, take}
use Rattle.whole.specs.Bounds.{Each}
use Rattle.whole.proofs.Lists.{each_take}
use Rattle.dc.specs.Dc.{DcCount}
use Rattle.residual_whole.specs.Area.{blocks_of}
use Rattle.residual_whole.specs.Rebuilt.{dc_values, values_in}
use Rattle.residual_whole.proofs.Blocks.{side_count}
use Rattle.residual_whole.proofs.rebuilt.dc_values.Goals as goal

pub values_over-requires : goal.values_over-requires
values_over-requires c =
    let p = c.requires in
    let many : length c.copy.new.to ≡ blocks_of c.args.s = search rules in (
      p.1,
      subst DcCount (sym many) (side_count c.args.s p.0),
      subst (Each 32768) (sym c.copy.ensures) (each_take 32768 (length c.args.values.now) c.args.levels.now p.3),
    )

pub returns : goal.returns
unfolding values_in
returns c =
    let a = c.args in
    let p = c.requires in
    let many : length c.copy.new.to ≡ blocks_of a.s = search rules in
    let taken : c.copy.new.to ≡ take (blocks_of a.s) a.levels.now = c.copy.ensures ∙ ap (λ (n : ℕ). take n a.levels.now) p.4 in
    c.values_over.ensures ∙ (λ i. dc_values (many i) a.quantizer.qp (taken i))
