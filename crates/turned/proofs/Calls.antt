-- The claims of any two calls of the exported functions.
--     fb_forward_turns, fb_levels_turn, fb_predict_turns
-- Assumes nothing.
use mathlib.Core.Path.{◌≡◌, refl, sym, ap, ap₂, ◌∙◌}
use mathlib.Core.Bool.{false≢true}
use mathlib.Core.List.{List}
use Prim.Native.Nat.{ℕ}
use native.Mathlib.Omega.{arith}
use borrow.Author.Tests.{eqb-true, eq-eqb}
use lib.IntN.{ℤ, pos, negsuc}
use lib.ListN.{length}
use Rattle.lists.specs.Chain.{Verdict, pass, chain}
use Rattle.lists.proofs.Chain.{chain_exactly_if, holds_new}
use Rattle.lists.proofs.Tab.{length_tab}
use Rattle.lists.proofs.Turned.{length_turned}
use Rattle.whole.proofs.Range.{none_each, each_none}
use Rattle.refusal.specs.declared.Refusal.{Refusal}
use Rattle.transform.specs.Entry.{outside, forward_tests}
use Rattle.transform.specs.Forward.{forward}
use Rattle.transform.proofs.Squares.{turned_each}
use Rattle.residual.specs.Entry.{levels_tests}
use Rattle.residual.specs.Levels.{quantized, levels_of}
use Rattle.residual.specs.Order.{in_places}
use Rattle.residual.proofs.Order.{places_again}
use Rattle.intra4.specs.Entry.{predict_tests}
use Rattle.intra4.specs.Rules.{Predicted, samples, none, samples_of, predicted}
use Rattle.intra4.specs.Samples.{mask}
use Rattle.intra4.proofs.Masked.{none_exactly_if}
use Rattle.fleecebutton.specs.Word.{word_of}
use Rattle.fleecebutton.proofs.Told.{passed_word, done_word}
use Rattle.turned.specs.Square.{turned_block, turned_samples}
use Rattle.turned.specs.Exchanged.{turned_prediction}
use Rattle.turned.specs.Calls.{forward_residual, forward_before, FbForwardTurns, levels_quantizer, levels_residual, levels_before, FbLevelsTurn, predict_neighbours, predict_flags, predict_mode, predict_before, CallsExchanged, FbPredictTurns}
use Rattle.turned.proofs.Coefficients.{coefficients_turn, levels_turn}
use Rattle.turned.proofs.Prediction.{permitted_turns, prediction_turns}

-- ---- residuals in range are so turned: the last test of `forward` and `levels`

turned_inside : (x : List ℤ) → length x ≡ 16 → outside x ≡ 16 → outside (turned_block x) ≡ 16
turned_inside x long e =
    each_none (negsuc 254) (pos 255) (turned_block x) 255 tt tt (turned_each 4 255 x (none_each (negsuc 254) (pos 255) x 255 tt tt (omega (arith, long, e))))
    ∙ length_turned 4 (pos 0) x

forward_passes : (x before before' : List ℤ) → length before' ≡ 16 → chain (forward_tests x before) ≡ pass → chain (forward_tests (turned_block x) before') ≡ pass
forward_passes x before before' room v =
    let all = (chain_exactly_if (forward_tests x before)).passes.0 v in
    let inside = turned_inside x (eqb-true _ _ all.0) (eqb-true _ _ all.1.1.0) in
    (chain_exactly_if (forward_tests (turned_block x) before')).passes.1
    (eq-eqb _ _ (length_turned 4 (pos 0) x), (eq-eqb _ _ room, (eq-eqb _ _ inside, tt)))

pub fb_forward_turns : FbForwardTurns
fb_forward_turns c c' x room d =
    let v = passed_word (forward_tests (forward_residual c) (forward_before c)) 0 c.learnt.word d in
    let t = forward_passes (forward_residual c) (forward_before c) (forward_before c') room v in
    let v' = ap (λ (l : List ℤ). chain (forward_tests l (forward_before c'))) x ∙ t in (
      done_word (forward_tests (forward_residual c') (forward_before c')) 0 c'.learnt.word v',
      holds_new (forward_before c') v' c'.learnt.wrote ∙ ap forward x ∙ coefficients_turn (forward_residual c)
          ∙ ap turned_block (sym (holds_new (forward_before c) v c.learnt.wrote)),
    )

-- ---- levels

levels_pass : (qp : ℕ) (x before before' : List ℤ) → length before' ≡ 16 → chain (levels_tests qp x before) ≡ pass → chain (levels_tests qp (turned_block x) before') ≡ pass
levels_pass qp x before before' room v =
    let all = (chain_exactly_if (levels_tests qp x before)).passes.0 v in
    let inside = turned_inside x (eqb-true _ _ all.0) (eqb-true _ _ all.1.1.1.0) in
    (chain_exactly_if (levels_tests qp (turned_block x) before')).passes.1
    (eq-eqb _ _ (length_turned 4 (pos 0) x), (eq-eqb _ _ room, (all.1.1.0, (eq-eqb _ _ inside, tt))))

-- the levels as they are written, put in raster order
in_raster_law : (qp : ℕ) (x : List ℤ) → in_places (levels_of qp x) ≡ quantized qp x
unfolding quantized
in_raster_law qp x = places_again (quantized qp x) (length_tab 16 _)

pub fb_levels_turn : FbLevelsTurn
fb_levels_turn c c' same x room d =
    let qp = levels_quantizer c in
    let y = levels_residual c in
    let v = passed_word (levels_tests qp y (levels_before c)) 0 c.learnt.word d in
    let t = levels_pass qp y (levels_before c) (levels_before c') room v in
    let v' = ap₂ (λ (q : ℕ) (l : List ℤ). chain (levels_tests q l (levels_before c'))) same x ∙ t in (
      done_word (levels_tests (levels_quantizer c') (levels_residual c') (levels_before c')) 0 c'.learnt.word v',
      ap in_places (holds_new (levels_before c') v' c'.learnt.wrote ∙ ap₂ levels_of same x) ∙ in_raster_law qp (turned_block y) ∙ levels_turn qp y
          ∙ ap turned_block (sym (ap in_places (holds_new (levels_before c) v c.learnt.wrote) ∙ in_raster_law qp y)),
    )

-- ---- predictions

module _ {n n' before before' : List ℕ} {f f' m m' : ℕ} (x : CallsExchanged n f m before n' f' m' before') where
  same_tests : chain (predict_tests n' f' m' before') ≡ chain (predict_tests n f m before)
  same_tests = rw (x.long, x.room, x.legal, permitted_turns n n' f f' m m' x.neighbours x.modes)

  -- where the tests pass there is a prediction, so there are samples
  same_samples : chain (predict_tests n f m before) ≡ pass → samples_of (predicted (mask n' f') m') ≡ turned_samples (samples_of (predicted (mask n f) m))
  same_samples v =
      let all = (chain_exactly_if (predict_tests n f m before)).passes.0 v in
      let long : length n ≡ 13 = eqb-true _ _ all.0 in
      ap samples_of (prediction_turns m m' x.modes n n' f f' long x.neighbours)
      ∙ some (predicted (mask n f) m) (λ e. false≢true (sym ((none_exactly_if n f m long).0 e) ∙ all.1.1.1.0))
    where
      some : (p : Predicted) → (p ≡ none → ⊥) → samples_of (turned_prediction p) ≡ turned_samples (samples_of p)
      some (samples l) h = refl
      some none h = absurd (h refl)

pub fb_predict_turns : FbPredictTurns
fb_predict_turns c c' x =
    let tests = predict_tests (predict_neighbours c) (predict_flags c) (predict_mode c) (predict_before c) in (
      c'.learnt.word ∙ ap (λ (v : Verdict Refusal). word_of v 0) (same_tests x) ∙ sym c.learnt.word,
      λ d.
          let v = passed_word tests 0 c.learnt.word d in
          holds_new (predict_before c') (same_tests x ∙ v) c'.learnt.wrote ∙ same_samples x v ∙ ap turned_samples (sym (holds_new (predict_before c) v c.learnt.wrote)),
    )
