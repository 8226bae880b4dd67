-- The laws of one coded block, for neighbours and samples that are bytes: what a record can hold, a decoder accept and a plane take up.
--     residual_small, own_residual_small     what a prediction lacks is in -255..255: any of bytes, and the chosen one
--     bytes_samples                          what is rebuilt of any prediction and any numbers is bytes
--     block_laws                             all of `BlockLaws`, over the neighbours, the flags and the samples
-- Assumes nothing.
use mathlib.Core.Path.{◌≡◌, refl, sym, ap, subst}
use mathlib.Core.Bool.{true}
use mathlib.Core.List.{List}
use Prim.Native.Nat.{ℕ, ◌<◌, ◌≤◌}
use native.Mathlib.Omega.{arith}
use lib.IntN.{ℤ}
use lib.ListN.{length, get_or}
use Rattle.lists.specs.Bytes.{Bytes}
use Rattle.lists.proofs.Bytes.{bytes_tab}
use Rattle.whole.specs.Bounds.{Each}
use Rattle.whole.specs.Clip.{clip}
use Rattle.whole.proofs.Bound.{here, fits, bytes_differ}
use Rattle.whole.proofs.Lists.{each_tab}
use Rattle.whole.proofs.Order.{clip_le}
use Rattle.whole.proofs.Steps.{each_at}
use Rattle.quantizer.specs.Range.{highest}
use Rattle.intra4.specs.Samples.{mask}
use Rattle.intra4.specs.Rules as rules
use Rattle.intra4.specs.Choice.{Best, chosen}
use Rattle.intra4.specs.Entry.{best_samples}
use Rattle.intra4.proofs.Bytes.{best_bytes, chosen_mode}
use Rattle.residual.specs.Rebuild.{added, rebuilt_samples, rescaled_of}
use Rattle.residual.proofs.Order.{length_zigzag}
use Rattle.residual.proofs.Own.{own_levels_in_range, own_numbers_fit}
use Rattle.block.specs.Block.{residual_of, mode_of, coded_mode, prediction_of, coded_levels}
use Rattle.block.specs.Laws.{BlockLaws}
use Rattle.block.proofs.Carries.{length_samples}

pub residual_small : (samples prediction : List ℕ) → Bytes samples → Bytes prediction → Each 255 (residual_of samples prediction)
unfolding residual_of
residual_small samples prediction own near =
    each_tab 255 16 _ (λ place l. bytes_differ (get_or samples place 0) (get_or prediction place 0) (own.byte place) (near.byte place))

-- of the chosen prediction
pub own_residual_small : (n : List ℕ) (f : ℕ) (s : List ℕ) → Bytes n → Bytes s → Each 255 (residual_of s (prediction_of (mask n f) s))
own_residual_small n f s near own = residual_small s (prediction_of (mask n f) s) own (best_bytes n f near (chosen (mask n f) s))

-- "clipped to 0..255"
clip_byte : (z : ℤ) → clip 255 z < 256
clip_byte z = omega (arith, clip_le 255 z)

pub bytes_samples : (prediction : List ℕ) (d : List ℤ) → Bytes (rebuilt_samples prediction d)
unfolding rebuilt_samples added
bytes_samples prediction d = bytes_tab 16 _ (λ place l. clip_byte _)

pub block_laws : (qp : ℕ) (n : List ℕ) (f : ℕ) (s : List ℕ) → qp ≤ highest → length n ≡ 13 → Bytes n → Bytes s → BlockLaws qp n f s
block_laws qp n f s legal long near own =
    let x = residual_of s (prediction_of (mask n f) s) in
    let small = own_residual_small n f s near own in
    let levels = coded_levels qp (mask n f) s in
    let c = chosen_mode n f s long in
    let e : prediction_of (mask n f) s ≡ rules.samples_of (rules.predicted (mask n f) (coded_mode (mask n f) s)) =
    subst (λ (b : Best). best_samples (mask n f) b ≡ rules.samples_of (rules.predicted (mask n f) (mode_of b))) (sym c.is) refl in
    record {
      mode_small = subst (λ (b : Best). mode_of b < 9) (sym c.is) c.within;
      permitted = subst (λ (b : Best). rules.permitted f (mode_of b) ≡ true) (sym c.is) c.allowed;
      sixteen = length_zigzag _;
      fits = λ k. fits (here (each_at 1632 levels (own_levels_in_range qp legal x small).levels k)) tt;
      in_range = own_numbers_fit qp legal x small;
      rebuilds = ap (λ (p : List ℕ). rebuilt_samples p (rescaled_of qp levels)) e;
      made_sixteen = length_samples _ _;
      made_bytes = bytes_samples _ _;
    }
