-- `residual_whole::rebuilt::block_samples` meets its contract: the DC value in the place of the 0, or nothing but zeros. Assumes nothing.
use mathlib.Core.Path.{◌≡◌, sym, ap, subst, ◌∙◌}
use mathlib.Core.List.{List, ◌∷◌}
use Prim.Native.Nat.{ℕ, ◌*◌}
use borrow.Author.Rules.{rules}
use lib.IntN.{ℤ, pos}
use lib.ListN.{length, set}
use mir.Syntax.{w32}
use mir.Val.{to_z}
use mir.ValLaws.{to_z-of_z}
use Rattle.lists.specs.Bytes.{Bytes}
use Rattle.lists.proofs.Bytes.{bytes_known}
use Rattle.whole.specs.Bounds.{Within, Each}
use Rattle.residual.specs.Rebuild.{rebuilt_samples, rescaled_of, rescaled_with_dc}
use Rattle.residual.specs.Rescale.{rescaled}
use Rattle.picture.specs.Order.{column_in, row_in}
use Rattle.picture.proofs.Bytes.{block_bytes}
use Rattle.residual_whole.specs.Rebuilt.{ac_in, ac_numbers}
use Rattle.residual_whole.proofs.Samples.{places_small, each_first, nothing_rebuilt}
use Rattle.residual_whole.proofs.rebuilt.block_samples.Goals as goal

-- a DC value of 0, and levels that are all 0
pub returns-then-all_zero : goal.returns-then-all_zero
returns-then-all_zero c =
    let own = c.part-own.result in
    let ac = ac_in c.args.s c.args.levels.now c.args.b in
    let sixteen : length own ≡ 16 = search rules in
    let places : length c.ac-placed.result ≡ 16 = search rules in
    let bytes = subst Bytes (sym c.part-own.ensures) (block_bytes 4 c.args.s (4 * column_in c.args.b) (4 * row_in c.args.b) c.args.prediction.now (bytes_known c.args.prediction.now c.type_inv.prediction)) in
    nothing_rebuilt c.args.quantizer.qp c.args.dc ac own c.ac-placed.ensures places (sym c.all_zero.ensures ∙ c.if-all_zero.true)
    (sym (to_z-of_z w32 c.args.dc c.ranges.dc) ∙ ap (to_z w32) c.if-dc-eq0.true) sixteen bytes
    ∙ ap (λ (p : List ℕ). rebuilt_samples p (rescaled_with_dc c.args.quantizer.qp c.args.dc ac)) c.part-own.ensures

pub rescaled-numbers-requires : goal.rescaled-numbers-requires
rescaled-numbers-requires c =
    (c.requires.sided.1, subst (Each 32768) (sym c.ac-placed.ensures) (places_small c.args.s c.args.levels.now c.args.b c.requires.sided.4))

pub samples-requires : goal.samples-requires
unfolding ac_numbers
samples-requires c =
    -- the rescaled levels
    let numbers : c.rescaled-numbers.result ≡ rescaled_of c.args.quantizer.qp (pos 0 ∷ ac_in c.args.s c.args.levels.now c.args.b) = c.rescaled-numbers.ensures ∙ ap (rescaled _) c.ac-placed.ensures in
    each_first 32768 c.rescaled-numbers.result (pos 0) _ (subst (λ (l : List ℤ). Each 32768 (set l 0 (pos 0))) (sym numbers) c.requires.within.1)
    (subst (Within 32768) (sym (to_z-of_z w32 c.args.dc c.ranges.dc)) c.requires.within.0)

pub returns : goal.returns
returns c =
    -- the rescaled levels
    let numbers : c.rescaled-numbers.result ≡ rescaled_of c.args.quantizer.qp (pos 0 ∷ ac_in c.args.s c.args.levels.now c.args.b) = c.rescaled-numbers.ensures ∙ ap (rescaled _) c.ac-placed.ensures in
    c.samples.ensures ∙ (λ i. rebuilt_samples (c.part-own.ensures i) (set (numbers i) 0 (to_z-of_z w32 c.args.dc c.ranges.dc i)))
