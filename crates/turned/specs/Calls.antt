-- The same claims (02, Req 12) of any two calls of the exported functions, over the readings that the toolchain makes of their contracts: so
-- each speaks of whatever the contract allows. A word whose low byte is 0 is that of a success. Assumes nothing.
use Rattle.std.specs.Prelude.{◌≡◌, List, ℕ, ◌%◌, leb, ℤ, length}
use contract.Lifetimes.{Lfts}
use denote.Triple.Clauses.{AtExit}
use borrow.Fn.Kind.{ParamKind, ResultKind}
use borrow.Fn.Kinds.{Dens, res_t, Out, ended_of}
use Rattle.residual.specs.Order.{in_places}
use Rattle.fleecebutton.proofs.fb_forward.Kinds as fb_forward
use Rattle.fleecebutton.proofs.fb_forward.Reads as fb_forward_reads
use Rattle.fleecebutton.proofs.fb_levels.Kinds as fb_levels
use Rattle.fleecebutton.proofs.fb_levels.Reads as fb_levels_reads
use Rattle.fleecebutton.proofs.fb_predict.Kinds as fb_predict
use Rattle.fleecebutton.proofs.fb_predict.Reads as fb_predict_reads
use Rattle.turned.specs.Square.{turned_block, turned_samples}
use Rattle.turned.specs.Exchanged.{Exchanged, Becomes}

-- a call of a function whose reading is P: what it was given, the word that it sent back, what is lent at its exit
pub record Call (n : ℕ) (ps : List (ParamKind n)) (r : ResultKind n) (P : Out n ps r) : Type 0 where
  pub lifetimes : Lfts n
  pub given : Dens lifetimes ps
  pub word : (res_t r lifetimes).Denot
  pub exit : AtExit (ended_of n ps r) lifetimes
  pub learnt : P lifetimes given word exit

-- ---- `fb_forward`: residuals that are accepted are accepted turned, and the coefficients are turned

abbrev pub ForwardCall : Type 0
ForwardCall = Call 2 fb_forward.ps fb_forward.r fb_forward_reads.Learnt

abbrev pub forward_residual : ForwardCall → List ℤ
forward_residual c = c.given.0.now

abbrev pub forward_before : ForwardCall → List ℤ
forward_before c = c.given.1.0.now

abbrev pub forward_after : ForwardCall → List ℤ
forward_after c = c.exit.1.0.now

abbrev pub FbForwardTurns : Type 0
FbForwardTurns = (c c' : ForwardCall) → forward_residual c' ≡ turned_block (forward_residual c) → length (forward_before c') ≡ 16
    → c.word % 256 ≡ 0 → (c'.word % 256 ≡ 0) × (forward_after c' ≡ turned_block (forward_after c))

-- ---- `fb_levels`: the same of the levels, which are written in zigzag order; `in_places` puts them in raster order

abbrev pub LevelsCall : Type 0
LevelsCall = Call 2 fb_levels.ps fb_levels.r fb_levels_reads.Learnt

abbrev pub levels_quantizer : LevelsCall → ℕ
levels_quantizer c = c.given.0

abbrev pub levels_residual : LevelsCall → List ℤ
levels_residual c = c.given.1.0.now

abbrev pub levels_before : LevelsCall → List ℤ
levels_before c = c.given.1.1.0.now

abbrev pub levels_after : LevelsCall → List ℤ
levels_after c = c.exit.1.1.0.now

abbrev pub FbLevelsTurn : Type 0
FbLevelsTurn = (c c' : LevelsCall) → levels_quantizer c' ≡ levels_quantizer c → levels_residual c' ≡ turned_block (levels_residual c) → length (levels_before c') ≡ 16
    → c.word % 256 ≡ 0 → (c'.word % 256 ≡ 0) × (in_places (levels_after c') ≡ turned_block (in_places (levels_after c)))

-- ---- `fb_predict`: both calls send the same word, and if they are accepted the samples are turned

abbrev pub PredictCall : Type 0
PredictCall = Call 2 fb_predict.ps fb_predict.r fb_predict_reads.Learnt

abbrev pub predict_neighbours : PredictCall → List ℕ
predict_neighbours c = c.given.0.now

abbrev pub predict_flags : PredictCall → ℕ
predict_flags c = c.given.1.0

abbrev pub predict_mode : PredictCall → ℕ
predict_mode c = c.given.1.1.0

abbrev pub predict_before : PredictCall → List ℕ
predict_before c = c.given.1.1.1.0.now

abbrev pub predict_after : PredictCall → List ℕ
predict_after c = c.exit.1.1.1.0.now

-- what two calls are given, the neighbours exchanged and all else alike: slices as long, flags both legal or both not
pub record CallsExchanged (n : List ℕ) (f m : ℕ) (before : List ℕ) (n' : List ℕ) (f' m' : ℕ) (before' : List ℕ) : Type 0 where
  pub neighbours : Exchanged n f n' f'
  pub modes : Becomes m m'
  pub long : length n' ≡ length n
  pub room : length before' ≡ length before
  pub legal : leb f' 15 ≡ leb f 15

abbrev pub FbPredictTurns : Type 0
FbPredictTurns = (c c' : PredictCall)
    → CallsExchanged (predict_neighbours c) (predict_flags c) (predict_mode c) (predict_before c) (predict_neighbours c') (predict_flags c') (predict_mode c') (predict_before c')
    → (c'.word ≡ c.word) × (c.word % 256 ≡ 0 → predict_after c' ≡ turned_samples (predict_after c))
