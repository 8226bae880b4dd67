-- `macroblock4::rebuild::rebuild_turn` meets its contract: a block's turn. Assumes nothing.
use mathlib.Core.Path.{◌≡◌, sym, ap, subst, ◌∙◌}
use Prim.Native.Nat.{ℕ, ◌*◌}
use borrow.Author.Rules.{rules}
use lib.ListN.{length, get_or}
use mir.Syntax.{w8}
use mir.Val.{Fits}
use Rattle.lists.proofs.Bytes.{bytes_known}
use Rattle.whole.specs.Bounds.{Each}
use Rattle.residual.specs.Rebuild.{rebuilt_samples}
use Rattle.picture.specs.Plane.{stored}
use Rattle.macroblock4.specs.Content.{rescaled_in}
use Rattle.macroblock4.proofs.Rebuilding.{shown_bytes, block_made}
use Rattle.macroblock4.proofs.Contents.{numbers_fit, holds_by, zero_samples}
use Rattle.macroblock4.proofs.rebuild.rebuild_turn.Goals as goal
use Rattle.macroblock4.proofs.rebuild.rebuild_turn.Goals.{then-all_zero, else-all_zero}

pub fill-requires : goal.fill-requires
fill-requires c =
    (search rules, holds_by _ _ _ _ c.flags-flags.ensures c.mode-mode.ensures c.requires.b_value.0, search rules)

pub samples-samples-requires : goal.samples-samples-requires
samples-samples-requires c =
    subst (Each 32768) (sym c.rescaled.ensures) (numbers_fit c.args.quantized.part.now c.args.b c.requires.b_value.1)

pub returns : goal.returns
returns c =
    let a = c.args in
    let p = c.fill.new.out in
    let sixteen : length p ≡ 16 = search rules in
    let own : (k : ℕ) → Fits w8 (get_or a.own.now k 0) = search rules in
    let bytes = shown_bytes a.layout a.m a.b a.own.now a.plane.now (bytes_known a.own.now own) (bytes_known a.plane.now c.type_inv.plane) _ _
    c.gather_over-neighbours.ensures c.fill.ensures in
    let made : c.if-all_zero.samples ≡ rebuilt_samples p (rescaled_in a.quantized.part.now a.b) =
    elim c.if-all_zero.branch [
      | then-all_zero w ↦ w.samples-is ∙ zero_samples a.quantized.part.now a.b (c.all_zero.ensures.0 w.if-all_zero.true) _ sixteen bytes
      | else-all_zero w ↦ w.samples-is ∙ w.samples-samples.ensures ∙ ap (rebuilt_samples p) w.rescaled.ensures
    ] in
    let stores = c.store_at.ensures ∙ (λ i. stored 4 16 (4 * c.column_inside-x.ensures.0 i) (4 * c.row_inside-y.ensures.0 i) c.if-all_zero.samples a.own.now) in
    block_made c.requires.among.0 a.quantized.part.now a.own.now a.plane.now c.requires.among.2 c.requires.among.1 c.flags-flags.ensures c.gather_over-neighbours.ensures
    c.mode-mode.ensures c.fill.ensures made stores
