-- A macroblock's chroma coded, beside its neighbours in the rebuilt planes of Cb and Cr (02, Req 05). Assumes nothing.
use Rattle.std.specs.Prelude.{◌≡◌, List, ◌++◌, ℕ, ℤ}
use Rattle.quantizer.specs.Chroma.{chroma_of}
use Rattle.choice.specs.Choice.{mode_of}
use Rattle.chroma.specs.Choice.{chosen_for_both}
use Rattle.residual_whole.specs.Coded.{whole_levels}
use Rattle.record.specs.Records.{record_chroma}
use Rattle.picture.specs.declared.Layout.{Layout}
use Rattle.picture.specs.Both.{Both, both_step}
use Rattle.picture.specs.Whole.{whole_of, gathered_round, whole_turn}
use Rattle.macroblock_chroma.specs.Rebuild.{round_chroma, prediction_chroma, samples_chroma}

-- "One mode serves Cb and Cr, chosen by the summed SAD, lower number on a tie": of the rebuilt planes before macroblock m
unfoldable pub mode_for_both : Layout → (original : Both) → (m : ℕ) → (before : Both) → ℕ
mode_for_both l original m before =
    mode_of (chosen_for_both
    (round_chroma l m (gathered_round 8 l m before.cb))
    (round_chroma l m (gathered_round 8 l m before.cr))
    (whole_of 8 l m original.cb)
    (whole_of 8 l m original.cr))

-- ---- in either plane, with its quantizer, in a mode

-- the levels, "the DC path, and AC blocks"
unfoldable pub levels_chroma : Layout → (qp : ℕ) → (original : List ℕ) → (mode m : ℕ) → (neighbours : List ℕ) → List ℤ
levels_chroma l qp original mode m neighbours = whole_levels 8 qp (whole_of 8 l m original) (prediction_chroma l mode m neighbours)

-- and the samples that a decoder rebuilds
unfoldable pub coded_chroma : Layout → (qp : ℕ) → (original : List ℕ) → (mode m : ℕ) → (neighbours : List ℕ) → List ℕ
coded_chroma l qp original mode m neighbours = samples_chroma l qp mode (levels_chroma l qp original mode m neighbours) m neighbours

-- the step of macroblock m: the plane before it, and after its turn
abbrev pub plane_step_chroma : Layout → (qp : ℕ) → (original : List ℕ) → (mode m : ℕ) → (before : List ℕ) → List ℕ
plane_step_chroma l qp original mode m before = whole_turn 8 (coded_chroma l qp original mode) l m before

-- ---- in both

-- "with number, both offsets (signed bytes), mode, 64 levels of Cb then of Cr": its record, of the rebuilt planes as they stood before it
unfoldable pub record_from_chroma : Layout → (qp : ℕ) → (cb_offset cr_offset : ℤ) → (original : Both) → (m : ℕ) → (before : Both) → List ℕ
record_from_chroma l qp cb_offset cr_offset original m before =
    let mode = mode_for_both l original m before in
    record_chroma m cb_offset cr_offset mode
    (levels_chroma l (chroma_of qp cb_offset) original.cb mode m (gathered_round 8 l m before.cb)
    ++ levels_chroma l (chroma_of qp cr_offset) original.cr mode m (gathered_round 8 l m before.cr))

-- the step of macroblock m: both planes before it, and after it
unfoldable pub coded_step_chroma : Layout → (qp : ℕ) → (cb_offset cr_offset : ℤ) → (original : Both) → (m : ℕ) → (before : Both) → Both
coded_step_chroma l qp cb_offset cr_offset original m before =
    both_step (mode_for_both l original)
    (plane_step_chroma l (chroma_of qp cb_offset) original.cb)
    (plane_step_chroma l (chroma_of qp cr_offset) original.cr)
    m before

-- what is predicted for both: the mode, and the two predictions in it
pub record PredictsBoth (l : Layout) (m : ℕ) (original before : Both) (mode : ℕ) (cb_prediction cr_prediction : List ℕ) : Type 0 where
  pub chosen : mode ≡ mode_for_both l original m before
  pub cb_shown : cb_prediction ≡ prediction_chroma l mode m (gathered_round 8 l m before.cb)
  pub cr_shown : cr_prediction ≡ prediction_chroma l mode m (gathered_round 8 l m before.cr)
