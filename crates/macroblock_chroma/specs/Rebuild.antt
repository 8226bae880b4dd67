-- A macroblock's chroma rebuilt by its chroma record, each plane for itself (02, Req 05; ITU-T H.264, 8.3.4 and 8.5.4). Assumes nothing.
use Rattle.std.specs.Prelude.{List, ℕ, ℤ}
use Rattle.intra4.specs.Rules.{samples_of}
use Rattle.intra4.specs.Samples.{Round}
use Rattle.sides.specs.Samples.{mask}
use Rattle.chroma.specs.Rules.{predicted}
use Rattle.residual_whole.specs.Rebuilt.{whole_samples}
use Rattle.record.specs.Records.{chroma_mode_in}
use Rattle.picture.specs.declared.Layout.{Layout}
use Rattle.picture.specs.Whole.{flags_round, whole_turn}
use Rattle.macroblock_chroma.specs.Content.{cb_levels_in, cr_levels_in, cb_quantizer, cr_quantizer}

-- what stands round macroblock m in a plane of chroma
abbrev pub round_chroma : Layout → (m : ℕ) → (neighbours : List ℕ) → Round
round_chroma l m neighbours = mask 8 neighbours (flags_round 8 l m)

-- its prediction in a mode
unfoldable pub prediction_chroma : Layout → (mode m : ℕ) → (neighbours : List ℕ) → List ℕ
prediction_chroma l mode m neighbours = samples_of (predicted (round_chroma l m neighbours) mode)

-- its samples in a plane with this quantizer, of the mode, the plane's levels and its neighbours there
unfoldable pub samples_chroma : Layout → (qp mode : ℕ) → List ℤ → (m : ℕ) → (neighbours : List ℕ) → List ℕ
samples_chroma l qp mode levels m neighbours = whole_samples 8 qp (prediction_chroma l mode m neighbours) levels

-- the step of macroblock m by its chroma record and its QP: a plane of Cb, or of Cr, before it, and after its turn
unfoldable pub cb_step : Layout → (m qp : ℕ) → (part : List ℕ) → (plane : List ℕ) → List ℕ
cb_step l m qp part plane = whole_turn 8 (samples_chroma l (cb_quantizer qp part) (chroma_mode_in part) (cb_levels_in part)) l m plane

unfoldable pub cr_step : Layout → (m qp : ℕ) → (part : List ℕ) → (plane : List ℕ) → List ℕ
cr_step l m qp part plane = whole_turn 8 (samples_chroma l (cr_quantizer qp part) (chroma_mode_in part) (cr_levels_in part)) l m plane
