-- A macroblock rebuilt by its record: "sample = prediction + residual, clipped" (01, "Transform, quantizer, rescaling"), block after block in
-- the order of "blocks 0-15" (01, "Plane and record file"). Assumes nothing.
use Rattle.std.specs.Prelude.{List, ℕ}
use Rattle.intra4.specs.Samples.{mask}
use Rattle.intra4.specs.Rules as rules
use Rattle.residual.specs.Rebuild.{rebuilt_samples}
use Rattle.record.specs.Records.{mode_in}
use Rattle.picture.specs.declared.Layout.{Layout}
use Rattle.picture.specs.Plane.{turns}
use Rattle.picture.specs.Presence.{flags_of}
use Rattle.macroblock4.specs.Content.{rescaled_in}

-- the samples of block b of macroblock m, of its record and its neighbours
unfoldable pub block_from : Layout → (part : List ℕ) → (m b : ℕ) → (neighbours : List ℕ) → List ℕ
block_from l part m b neighbours = rebuilt_samples (rules.samples_of (rules.predicted (mask neighbours (flags_of 4 l m b)) (mode_in b part))) (rescaled_in part b)

-- the step of macroblock m by its record: a plane before it, and after the turns of its sixteen blocks
unfoldable pub rebuilt_step4 : Layout → (m : ℕ) → (part : List ℕ) → (plane : List ℕ) → List ℕ
rebuilt_step4 l m part plane = turns 4 (block_from l part) l m plane
