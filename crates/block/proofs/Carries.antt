-- What a block by value carries, and the bounds that its numbers need on the way.
--     levels_small, coded_small, numbers_small     of a small residual
--     carried, nothing_carried                     what the code computes in turn, put together; and where the prediction lacks nothing
--     length_samples                               sixteen of them
-- Assumes nothing.
use mathlib.Core.Path.{◌≡◌, sym, ap, subst, ◌∙◌}
use mathlib.Core.List.{List}
use Prim.Native.Nat.{ℕ, ◌≤◌}
use native.Mathlib.Omega.{arith}
use lib.IntN.{ℤ, pos, ◌-ℤ◌}
use lib.ListN.{length, get_or}
use Rattle.lists.specs.Bytes.{Bytes}
use Rattle.lists.proofs.Tab.{length_tab, tab_same}
use Rattle.whole.specs.Bounds.{Each}
use Rattle.whole.proofs.Laws.{diff_self, diff_minus, same}
use Rattle.whole.proofs.Lists.{each_less, each_tab}
use Rattle.quantizer.specs.Range.{highest}
use Rattle.intra4.specs.Samples.{Round}
use Rattle.intra4.specs.Entry.{Picks, best_samples}
use Rattle.intra4.specs.declared.inner.Choice.{Choice}
use Rattle.intra4.proofs.Least.{lacks_nothing}
use Rattle.residual.specs.Levels.{quantized, levels_of}
use Rattle.residual.specs.Order.{in_zigzag}
use Rattle.residual.specs.Rescale.{rescaled}
use Rattle.residual.specs.Rebuild.{added, rebuilt_samples, rescaled_of}
use Rattle.residual.proofs.Order.{zigzag_each}
use Rattle.residual.proofs.Own.{length_quantized, own_numbers, own_levels_in_range}
use Rattle.residual.proofs.Zeros.{zeros, quantized_zeros, zigzag_zeros, rescaled_zeros, samples_zeros}
use Rattle.block.specs.Block.{residual_of, prediction_of}
use Rattle.block.specs.Entry.{Carries}

module _ (qp : ℕ) (x : List ℤ) (legal : qp ≤ highest) (small : Each 255 x) where
  pub levels_small : Each 32768 (quantized qp x)
  levels_small =
      each_less 1632 32768 (quantized qp x)
      (zigzag_each 1632 (quantized qp x) (length_quantized qp x) (own_levels_in_range qp legal x small).levels) tt

  pub coded_small : Each 32767 (levels_of qp x)
  coded_small = each_less 1632 32767 (levels_of qp x) (own_levels_in_range qp legal x small).levels tt

  pub numbers_small : Each 32768 (rescaled qp (quantized qp x))
  numbers_small =
      each_less 25978 32768 (rescaled qp (quantized qp x))
      (subst (Each 25978) (own_numbers qp x) (own_levels_in_range qp legal x small).numbers) tt

-- what the code computes in turn, put together: residual x, raster levels l, zigzag levels z, samples s
pub carried : (qp : ℕ) (round : Round) (block : List ℕ) (c : Choice) {x l z : List ℤ} {s : List ℕ}
    → Picks round block c
    → x ≡ residual_of block c.prediction
    → l ≡ quantized qp x
    → z ≡ in_zigzag l
    → s ≡ rebuilt_samples c.prediction (rescaled qp l)
    → Each 32767 (levels_of qp x)
    → Carries qp round block (record { mode = c.mode; sad = c.sad; levels = z; rebuilt = s })
carried qp round block c {x} {l} {z} {s} picks is_x is_l is-z is-s small =
    let p : c.prediction ≡ prediction_of round block = picks.prediction ∙ ap (best_samples round) picks.best in
    let y : x ≡ residual_of block (prediction_of round block) = is_x ∙ ap (residual_of block) p in
    let n = ap (rescaled qp) is_l ∙ sym (own_numbers qp x) ∙ ap (λ (r : List ℤ). rescaled_of qp (levels_of qp r)) y in
    record {
      best = picks.best;
      small = subst (Each 32767) (sym (is-z ∙ ap in_zigzag is_l)) small;
      levels = is-z ∙ ap in_zigzag (is_l ∙ ap (quantized qp) y);
      rebuilt = is-s ∙ (λ i. rebuilt_samples (p i) (n i));
    }

-- ---- where the SAD is 0

none_between : (n : ℕ) → pos 0 ≡ pos n -ℤ pos n
none_between n = same (diff_self (pos 0)) (diff_minus (diff_self (pos n)) (diff_self (pos n))) (omega arith)

own_residual : (block : List ℕ) → zeros ≡ residual_of block block
unfolding residual_of
own_residual block = tab_same 16 _ _ (λ place h. none_between (get_or block place 0))

module _ (qp : ℕ) (legal : qp ≤ highest) (round : Round) (block : List ℕ) (c : Choice) (picks : Picks round block c) (long : length block ≡ 16)
    (sixteen : length c.prediction ≡ 16) (bytes : Bytes c.prediction) (none : c.sad ≡ 0) where
  -- the prediction is the block
  fits : c.prediction ≡ block
  fits =
      picks.prediction
      ∙ lacks_nothing round block c.mode c.sad (sym picks.best) none (ap length (sym picks.prediction) ∙ sixteen) long

  pub nothing_carried : {z : List ℤ} → z ≡ zeros → Carries qp round block (record { mode = c.mode; sad = c.sad; levels = z; rebuilt = c.prediction })
  nothing_carried e =
      carried qp round block c picks (own_residual block ∙ ap (residual_of block) (sym fits)) (sym (quantized_zeros qp)) (e ∙ sym zigzag_zeros)
      (sym (ap (rebuilt_samples c.prediction) (rescaled_zeros qp) ∙ samples_zeros c.prediction sixteen bytes))
      (coded_small qp zeros legal (each_tab 255 16 (λ k. pos 0) (λ k h. record { size = omega arith })))

-- sixteen of them
pub length_samples : (prediction : List ℕ) (d : List ℤ) → length (rebuilt_samples prediction d) ≡ 16
unfolding rebuilt_samples added
length_samples prediction d = length_tab 16 _
