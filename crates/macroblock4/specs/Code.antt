-- Coding a macroblock of a plane beside the rebuilt one: its record, and its step (01, "Plane and record file"). Assumes nothing.
use Rattle.std.specs.Prelude.{List, ℕ, ℤ}
use Rattle.lists.specs.Parts.{parts}
use Rattle.lists.specs.Tab.{tab}
use Rattle.lists.specs.Total.{total}
use Rattle.choice.specs.Choice.{sad_of}
use Rattle.intra4.specs.Choice.{chosen}
use Rattle.intra4.specs.Samples.{Round, mask}
use Rattle.block.specs.Block.{coded_mode, coded_levels, coded_samples}
use Rattle.record.specs.Records.{record_of}
use Rattle.picture.specs.declared.Layout.{Layout}
use Rattle.picture.specs.Plane.{block_of, gathered, first_turns, turns}
use Rattle.picture.specs.Presence.{flags_of}

-- ---- a block of the original plane, beside its neighbours in the rebuilt one

-- what stands round block b of macroblock m: "One flags byte says what is present" (01, "Samples round a block")
abbrev pub round_of : Layout → (m b : ℕ) → (neighbours : List ℕ) → Round
round_of l m b neighbours = mask neighbours (flags_of 4 l m b)

-- its mode: "Choice: the permitted mode with the least SAD" (01, "Samples round a block")
unfoldable pub mode_from : Layout → List ℕ → (m b : ℕ) → (neighbours : List ℕ) → ℕ
mode_from l original m b neighbours = coded_mode (round_of l m b neighbours) (block_of 4 l m b original)

-- its SAD
unfoldable pub sad_from : Layout → List ℕ → (m b : ℕ) → (neighbours : List ℕ) → ℕ
sad_from l original m b neighbours = sad_of (chosen (round_of l m b neighbours) (block_of 4 l m b original))

-- its levels in zigzag order (01, "Transform, quantizer, rescaling")
unfoldable pub levels_from : Layout → (qp : ℕ) → List ℕ → (m b : ℕ) → (neighbours : List ℕ) → List ℤ
levels_from l qp original m b neighbours = coded_levels qp (round_of l m b neighbours) (block_of 4 l m b original)

-- and the samples that a decoder rebuilds, which stand for it from then on: "Neighbours are rebuilt samples"
unfoldable pub samples_from : Layout → (qp : ℕ) → List ℕ → (m b : ℕ) → (neighbours : List ℕ) → List ℕ
samples_from l qp original m b neighbours = coded_samples qp (round_of l m b neighbours) (block_of 4 l m b original)

-- ---- a macroblock, of the rebuilt plane as it stood before it

-- the neighbours that block b sees, when the blocks before it have had their turns: "blocks 0-15 by rows"
unfoldable pub seen : Layout → (qp : ℕ) → List ℕ → (m : ℕ) → (before : List ℕ) → (b : ℕ) → List ℕ
seen l qp original m before b = gathered 4 l m b (first_turns 4 (samples_from l qp original) l m b before)

-- "modes (8; block 2k in the low four bits, 2k+1 in the high four)": those of its sixteen blocks
abbrev pub modes_from : Layout → (qp : ℕ) → List ℕ → (m : ℕ) → (before : List ℕ) → List ℕ
modes_from l qp original m before = tab 16 (λ b. mode_from l original m b (seen l qp original m before b))

-- "levels (512: block order, zigzag, signed 16 bits)": those of its sixteen blocks, one behind the other
abbrev pub blocks_from : Layout → (qp : ℕ) → List ℕ → (m : ℕ) → (before : List ℕ) → List ℤ
blocks_from l qp original m before = parts 16 (λ b. levels_from l qp original m b (seen l qp original m before b))

-- "the sum of the sixteen 4x4 SADs" (02, Req 01)
unfoldable pub sads_from : Layout → (qp : ℕ) → List ℕ → (m : ℕ) → (before : List ℕ) → ℕ
sads_from l qp original m before = total 16 (λ b. sad_from l original m b (seen l qp original m before b))

-- "Macroblock, 527 bytes: 4D 42, number (2), QP (1), modes .., levels .., sum"
unfoldable pub record_from4 : Layout → (qp : ℕ) → List ℕ → (m : ℕ) → (before : List ℕ) → List ℕ
record_from4 l qp original m before = record_of m qp (modes_from l qp original m before) (blocks_from l qp original m before)

-- the step of macroblock m: the rebuilt plane before it, and after the turns of its sixteen blocks
unfoldable pub coded_step4 : Layout → (qp : ℕ) → List ℕ → (m : ℕ) → (before : List ℕ) → List ℕ
coded_step4 l qp original m before = turns 4 (samples_from l qp original) l m before
