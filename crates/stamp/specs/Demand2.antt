-- Demand 2: what each call gives (`Made`); what the coder rebuilds is, sample for sample, what the decoder rebuilds; and the mode is the best.
-- Assumes nothing.
use Rattle.std.specs.Prelude.{◌≡◌, ◌*◌, length}
use Rattle.choice.specs.Choice.{Least}
use Rattle.intra4.specs.Choice.{costs_of}
use Rattle.intra4.specs.Samples.{mask}
use Rattle.picture.specs.Plane.{plane_length}
use Rattle.plane.specs.Code.{in_slices}
use Rattle.stamp.specs.Answers.{Succeeds, mode_told, sad_told, written_file}
use Rattle.stamp.specs.Calls.{Exported, CallOf, fb_predict, fb_choose, fb_rebuild, fb_code_block, fb_code_plane, fb_decode_plane, fb_code_picture, fb_decode_picture, fb_inspect, word, given, before, after}
use Rattle.stamp.specs.Made.{made_of}

pub data Claim2 : Type 0 where
  fb_gives fb_plane_agrees fb_picture_agrees fb_choose_agrees fb_block_agrees fb_choose_least fb_code_block_least fb_plane_inspected fb_picture_inspected : Claim2

-- a call that succeeds gives what `made_of` says: its word tells that value and its outputs hold that content, and no other
abbrev pub Gives : {f : Exported} → CallOf f → Type 0
Gives {f} c = (word c ≡ 256 * (made_of f (given c) (before c)).0) × (after c ≡ (made_of f (given c) (before c)).1)

abbrev pub Demand2 : Claim2 → Type 0
-- every exported function, on whatever it is given: prediction, choice, transform, levels, rescaling, rebuilding, both DC paths, file and planes
Demand2 fb_gives = (f : Exported) (c : CallOf f) → Succeeds (word c) → Gives c
-- the bytes that the coder used, decoded into a plane of the right length: word 0, and the very plane that the coder left
Demand2 fb_plane_agrees = (c : CallOf fb_code_plane) (d : CallOf fb_decode_plane) → Succeeds (word c)
    → (given d).file ≡ written_file (word c) (after c).file → length (before d) ≡ plane_length 16 (in_slices (given c).width (given c).height (given c).rows)
    → (word d ≡ 0) × (after d ≡ (after c).rebuilt)
-- (02, Req 05) the same of three planes; the word's value is 1, colour
Demand2 fb_picture_agrees = (c : CallOf fb_code_picture) (d : CallOf fb_decode_picture) → Succeeds (word c)
    → (given d).file ≡ written_file (word c) (after c).file
    → let l = in_slices (given c).width (given c).height (given c).rows in
    length (before d).luma ≡ plane_length 16 l → length (before d).cb ≡ plane_length 8 l → length (before d).cr ≡ plane_length 8 l
    → (word d ≡ 256) × ((after d).luma ≡ (after c).luma) × ((after d).cb ≡ (after c).cb) × ((after d).cr ≡ (after c).cr)
-- the mode that was sent back, predicted again: word 0, and the very samples that the chooser left
Demand2 fb_choose_agrees = (c : CallOf fb_choose) → Succeeds (word c) → (p : CallOf fb_predict)
    → given p ≡ record { neighbours = (given c).neighbours; flags = (given c).flags; mode = mode_told (word c) } → length (before p) ≡ 16
    → (word p ≡ 0) × (after p ≡ after c)
-- and rebuilt with the levels that were left: words 0, and the very samples that the coder left
Demand2 fb_block_agrees = (c : CallOf fb_code_block) → Succeeds (word c)
    → (p : CallOf fb_predict) (r : CallOf fb_rebuild)
    → given p ≡ record { neighbours = (given c).neighbours; flags = (given c).flags; mode = mode_told (word c) } → length (before p) ≡ 16
    → given r ≡ record { qp = (given c).qp; prediction = after p; levels = (after c).levels } → length (before r) ≡ 16
    → (word p ≡ 0) × (word r ≡ 0) × (after r ≡ (after c).rebuilt)
-- "the permitted mode with the least SAD over 16 samples, the lower number on a tie"
Demand2 fb_choose_least = (c : CallOf fb_choose) → Succeeds (word c)
    → Least 9 (costs_of (mask (given c).neighbours (given c).flags) (given c).samples) (mode_told (word c)) (sad_told (word c))
Demand2 fb_code_block_least = (c : CallOf fb_code_block) → Succeeds (word c)
    → Least 9 (costs_of (mask (given c).neighbours (given c).flags) (given c).samples) (mode_told (word c)) (sad_told (word c))
-- (02, Req 11) "Everything our own coder writes with its rebuilt plane is accepted": the bytes used, and the luma plane that the coder left
Demand2 fb_plane_inspected = (c : CallOf fb_code_plane) (i : CallOf fb_inspect) → Succeeds (word c)
    → given i ≡ record { file = written_file (word c) (after c).file; theirs = (after c).rebuilt } → word i ≡ 0
Demand2 fb_picture_inspected = (c : CallOf fb_code_picture) (i : CallOf fb_inspect) → Succeeds (word c)
    → given i ≡ record { file = written_file (word c) (after c).file; theirs = (after c).luma } → word i ≡ 0
