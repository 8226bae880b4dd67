-- A macroblock coded in the kind that costs less (02, Req 01). Assumes nothing.
use Rattle.std.specs.Prelude.{List, ℕ}
use Rattle.picture.specs.declared.Layout.{Layout}
use Rattle.picture.specs.Whole.{gathered_round}
use Rattle.macroblock4.specs.Code.{sads_from, record_from4, coded_step4}
use Rattle.macroblock16.specs.Code.{sad_from16, record_from16, coded_step16}
use Rattle.macroblock.specs.Winner.{taken}

-- one of two, for macroblock m of a plane beside the rebuilt one before it
abbrev pub chosen_from : {A : Type 0} → Layout → (qp : ℕ) → List ℕ → (m : ℕ) → (before : List ℕ) → (four sixteen : A) → A
chosen_from l qp original m before four sixteen =
    taken (sads_from l qp original m before) (sad_from16 l original m (gathered_round 16 l m before)) four sixteen

-- its record
unfoldable pub record_from : Layout → (qp : ℕ) → List ℕ → (m : ℕ) → (before : List ℕ) → List ℕ
record_from l qp original m before = chosen_from l qp original m before (record_from4 l qp original m before) (record_from16 l qp original m before)

-- and its step: the rebuilt plane before it, and after it
unfoldable pub coded_step : Layout → (qp : ℕ) → List ℕ → (m : ℕ) → (before : List ℕ) → List ℕ
coded_step l qp original m before = chosen_from l qp original m before (coded_step4 l qp original m before) (coded_step16 l qp original m before)
