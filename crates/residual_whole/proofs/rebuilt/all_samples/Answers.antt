-- `residual_whole::rebuilt::all_samples` meets its contract: a loop over the blocks. Assumes nothing.
use mathlib.Core.Path.{◌≡◌, sym, ap, subst, ◌∙◌}
use mathlib.Core.Bool.{true}
use mathlib.Core.List.{List}
use Prim.Native.Nat.{ℕ}
use native.Mathlib.Omega.{arith}
use lib.IntN.{ℤ, pos}
use lib.ListN.{length, get_or}
use mir.Syntax.{w32}
use mir.Val.{to_z, of_z}
use Rattle.whole.specs.Bounds.{Within, Each}
use Rattle.whole.proofs.Bound.{argument}
use Rattle.whole.proofs.Steps.{each_at}
use Rattle.residual.specs.Rebuild.{rebuilt_samples, rescaled_with_dc}
use Rattle.residual_whole.specs.Area.{Sided, part_in, raster_place}
use Rattle.residual_whole.specs.Rebuilt.{ac_in, values_in, dc_value_of, block_samples, whole_samples, dc_fits}
use Rattle.residual_whole.proofs.Blocks.{putting_more, putting_done}
use Rattle.residual_whole.proofs.Samples.{length_values, values_fit, ac_numbers_fit}
use Rattle.residual_whole.proofs.rebuilt.all_samples.Goals as goal

-- the DC value that is read at the block's place is that of the block, and in range
value_read : (s : ℕ) → Sided s → (qp : ℕ) (levels values : List ℤ) (b place : ℕ) → values ≡ values_in s qp levels → place ≡ raster_place s b → dc_fits s qp levels ≡ true
    → (to_z w32 (of_z w32 (get_or values place (pos 0))) ≡ dc_value_of s qp levels b) × Within 32768 (to_z w32 (of_z w32 (get_or values place (pos 0))))
unfolding dc_value_of
value_read s side qp levels values b place is-v is-p fits =
    let w : Within 32768 (get_or values place (pos 0)) = each_at 32768 values (subst (Each 32768) (sym is-v) (values_fit s side qp levels fits)) place in
    let e = (argument w32 w tt).is in
    (e ∙ (λ i. get_or (is-v i) (is-p i) (pos 0)), subst (Within 32768) (sym e) w)

-- the samples that block b is given
made : (s qp : ℕ) (prediction : List ℕ) (levels : List ℤ) (b : ℕ) {z : ℤ} {r : List ℕ} → z ≡ dc_value_of s qp levels b
    → r ≡ rebuilt_samples (part_in s b prediction) (rescaled_with_dc qp z (ac_in s levels b)) → r ≡ block_samples s qp prediction levels b
unfolding block_samples
made s qp prediction levels b is-z is-r = is-r ∙ (λ i. rebuilt_samples (part_in s b prediction) (rescaled_with_dc qp (is-z i) (ac_in s levels b)))

-- the place that is read lies among the values
pub bounds-values-place : goal.bounds-values-place
bounds-values-place c =
    omega (arith, c.place.ensures.1, ap length c.requires.each.3, length_values c.args.s c.requires.sided.0 c.args.quantizer.qp c.args.levels.now)

pub block_samples-made-requires-clause-within : goal.block_samples-made-requires-clause-within
block_samples-made-requires-clause-within c =
    let p = c.requires.sided in
    let f = c.requires.each in
    ((value_read _ p.0 _ _ c.args.values.now _ c.place.result f.3 c.place.ensures.0 f.1).1, ac_numbers_fit _ p.0 _ _ _ f.2 (omega arith))

pub loop-b-preserved : goal.loop-b-preserved
loop-b-preserved c =
    let f = c.requires.each in
    putting_more _ _ c.requires.sided.0 c.loop-b.invariant c.loop-b-test.true
    (made _ _ _ _ _ (value_read _ c.requires.sided.0 _ _ c.args.values.now _ c.place.result f.3 c.place.ensures.0 f.1).0 c.block_samples-made.ensures)
    c.put.ensures

pub returns : goal.returns
unfolding whole_samples
returns c = putting_done _ _ c.requires.sided.0 c.loop-b.invariant c.loop-b-test.false
