-- A macroblock predicted whole, rebuilt by its record (02, Req 01; ITU-T H.264, 8.3.3 and 8.5.2). Assumes nothing.
use Rattle.std.specs.Prelude.{List, ℕ}
use Rattle.intra4.specs.Rules.{samples_of}
use Rattle.intra4.specs.Samples.{Round}
use Rattle.sides.specs.Rules.{predicted}
use Rattle.sides.specs.Samples.{mask}
use Rattle.residual_whole.specs.Rebuilt.{whole_samples}
use Rattle.record.specs.Records.{qp_in, whole_mode_in}
use Rattle.picture.specs.declared.Layout.{Layout}
use Rattle.picture.specs.Whole.{flags_round, whole_turn}
use Rattle.macroblock16.specs.Content.{whole_levels_in}

-- what stands round macroblock m
abbrev pub round_whole : Layout → (m : ℕ) → (neighbours : List ℕ) → Round
round_whole l m neighbours = mask 16 neighbours (flags_round 16 l m)

-- its samples, of its record and its neighbours
unfoldable pub whole_from : Layout → (part : List ℕ) → (m : ℕ) → (neighbours : List ℕ) → List ℕ
whole_from l part m neighbours = whole_samples 16 (qp_in part) (samples_of (predicted (round_whole l m neighbours) (whole_mode_in part))) (whole_levels_in part)

-- the step of macroblock m by its record: a plane before it, and after its turn
unfoldable pub rebuilt_step16 : Layout → (m : ℕ) → (part : List ℕ) → (plane : List ℕ) → List ℕ
rebuilt_step16 l m part plane = whole_turn 16 (whole_from l part) l m plane
