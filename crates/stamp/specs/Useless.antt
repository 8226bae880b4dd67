-- The four useless builds (01, "What the stamp covers"), each contradicted at a named input, of any call with this input. Where a call is said to
-- write, 7 stood in its outputs. Assumes nothing.
use Rattle.std.specs.Prelude.{◌≡◌, List, ◌∷◌, ◌++◌, ℕ, ◌*◌, ◌<◌, pos, get_or, replicate}
use Rattle.record.specs.Kinds.{in_chroma}
use Rattle.record.specs.Records.{number_in, level_in, level_with}
use Rattle.picture.specs.Both.{pair}
use Rattle.picture.specs.Plane.{plane_length}
use Rattle.macroblock4.specs.Inputs.{light_corner, beside}
use Rattle.macroblock.specs.Code.{record_from}
use Rattle.macroblock_chroma.specs.Code.{record_from_chroma}
use Rattle.plane.specs.Code.{plane_before}
use Rattle.plane.specs.Decode.{cleared}
use Rattle.frame.specs.Code.{both_before, both_cleared}
use Rattle.stamp.specs.Answers.{Succeeds, written_file}
use Rattle.stamp.specs.Calls.{CallOf, fb_code_block, fb_code_plane, fb_decode_plane, fb_code_picture, word, given, before, after}
use Rattle.stamp.specs.Unseen.{layout_given, written_record, picture_given, luma_record, chroma_record}

-- a block's call with this input
abbrev pub BlockAt : (qp flags : ℕ) (neighbours samples : List ℕ) → CallOf fb_code_block → Type 0
BlockAt qp flags neighbours samples c = (given c ≡ record { qp = qp; flags = flags; neighbours = neighbours; samples = samples })
    × (before c ≡ record { levels = replicate 16 (pos 7); rebuilt = replicate 16 7 })

-- a plane's, of as many macroblocks side by side, with an area of so many bytes
abbrev pub PlaneAt : (macroblocks qp : ℕ) (plane : List ℕ) (area : ℕ) → CallOf fb_code_plane → Type 0
PlaneAt macroblocks qp plane area c = (given c ≡ record { width = macroblocks; height = 1; rows = 1; qp = qp; plane = plane })
    × (before c ≡ record { file = replicate area 7; rebuilt = replicate (256 * macroblocks) 7 })

-- two macroblocks of equal samples above each other; side by side they are `beside`
abbrev pub above : (first second : ℕ) → List ℕ
above first second = replicate 256 first ++ replicate 256 second

-- in a plane of chroma
abbrev pub above_chroma : (first second : ℕ) → List ℕ
above_chroma first second = replicate 64 first ++ replicate 64 second

-- a call with these, of 128 and of 138, each a slice by itself, at QP 28
abbrev pub StackedAt : CallOf fb_code_plane → Type 0
StackedAt c = (given c ≡ record { width = 1; height = 2; rows = 1; qp = 28; plane = above 128 138 }) × (before c ≡ record { file = replicate 1064 7; rebuilt = replicate 512 7 })

-- and a call with a picture whose luma is 128, and whose Cb and Cr are 128 above 138, without offsets
abbrev pub StackedChromaAt : CallOf fb_code_picture → Type 0
StackedChromaAt c =
    (given c ≡ record { width = 1; height = 2; rows = 1; qp = 28; cb_offset = pos 0; cr_offset = pos 0; luma = above 128 128; cb = above_chroma 128 138; cr = above_chroma 128 138 })
    × (before c ≡ record { file = replicate 1594 7; luma = replicate 512 7; cb = replicate 128 7; cr = replicate 128 7 })

pub data UselessClaim : Type 0 where
  fb_one_accepted fb_vertical_chosen fb_levels_not_zero fb_rebuilt_not_grey fb_plane_written fb_decoded_written fb_file_written fb_own_record fb_own_number fb_record_not_copied : UselessClaim
  fb_levels_not_copied fb_own_luma_record fb_own_chroma_record fb_chroma_levels_not_copied : UselessClaim

abbrev pub Useless : UselessClaim → Type 0
-- "One refusing everything": one macroblock of 138 at QP 51 is coded
Useless fb_one_accepted = (c : CallOf fb_code_plane) → PlaneAt 1 51 (replicate 256 138) 535 c → Succeeds (word c)
-- "One giving DC, zeros and grey always": neighbours and samples of 100, all present, give mode 0 and SAD 0
Useless fb_vertical_chosen = (c : CallOf fb_code_block) → BlockAt 28 15 (replicate 13 100) (replicate 16 100) c → word c ≡ 0
-- samples of 138 beside nothing, at QP 28: the first level is 2
Useless fb_levels_not_zero = (c : CallOf fb_code_block) → BlockAt 28 0 (replicate 13 77) (replicate 16 138) c → (after c).levels ≡ pos 2 ∷ replicate 15 (pos 0)
-- and every rebuilt sample is 136, neither 128 nor the original's 138
Useless fb_rebuilt_not_grey = (c : CallOf fb_code_block) → BlockAt 28 0 (replicate 13 77) (replicate 16 138) c → (after c).rebuilt ≡ replicate 16 136
-- "One writing nothing": a rebuilt sample of the coder
Useless fb_plane_written = (c : CallOf fb_code_plane) → PlaneAt 1 28 (replicate 256 138) 535 c → get_or (after c).rebuilt 0 0 ≡ 136
-- a sample of the decoder, of the bytes used
Useless fb_decoded_written = (c : CallOf fb_code_plane) → PlaneAt 1 28 (replicate 256 138) 535 c
    → (d : CallOf fb_decode_plane) → (given d).file ≡ written_file (word c) (after c).file → before d ≡ replicate 256 7 → get_or (after d) 0 0 ≡ 136
-- and a byte of the file; what stood behind the file is there still
Useless fb_file_written = (c : CallOf fb_code_plane) → PlaneAt 1 28 light_corner 535 c → (get_or (after c).file 9 0 ≡ 54) × (get_or (after c).file 528 0 ≡ 7)
-- "One coding macroblock 0 and copying it onward": record m of the file of any success is what macroblock m's own samples give
Useless fb_own_record = (c : CallOf fb_code_plane) → Succeeds (word c) → (m : ℕ) → m < (given c).width * (given c).height
    → let l = layout_given c in
    written_record c m ≡ record_from l (given c).qp (given c).plane m (plane_before l (given c).qp (given c).plane (cleared (plane_length 16 l)) m)
-- and bears the number m
Useless fb_own_number = (c : CallOf fb_code_plane) → Succeeds (word c) → (m : ℕ) → m < (given c).width * (given c).height → number_in (written_record c m) ≡ m
-- so of two macroblocks record 1 is no copy of record 0
Useless fb_record_not_copied = (c : CallOf fb_code_plane) → PlaneAt 2 28 (beside 128 138) 1062 c → (number_in (written_record c 0) ≡ 0) × (number_in (written_record c 1) ≡ 1)
-- nor are its levels: of 128 above 138, each seeing nothing, the first level of record 0 is 0 and that of record 1 is 2
Useless fb_levels_not_copied = (c : CallOf fb_code_plane) → StackedAt c → (level_in 0 0 (written_record c 0) ≡ pos 0) × (level_in 0 0 (written_record c 1) ≡ pos 2)
-- (02, Req 05) and of a colour picture both records of macroblock m are what its own samples give, luma's
Useless fb_own_luma_record = (c : CallOf fb_code_picture) → Succeeds (word c) → (m : ℕ) → m < (given c).width * (given c).height
    → let l = picture_given c in
    luma_record c m ≡ record_from l (given c).qp (given c).luma m (plane_before l (given c).qp (given c).luma (cleared (plane_length 16 l)) m)
-- and chroma's
Useless fb_own_chroma_record = (c : CallOf fb_code_picture) → Succeeds (word c) → (m : ℕ) → m < (given c).width * (given c).height
    → let l = picture_given c in
    let chroma = pair (given c).cb (given c).cr in
    chroma_record c m
    ≡ record_from_chroma l (given c).qp (given c).cb_offset (given c).cr_offset chroma m (both_before l (given c).qp (given c).cb_offset (given c).cr_offset chroma (both_cleared l) m)
-- so here, too, levels are not copied: the first of Cb is 0 in the first chroma record and 5 in the second
Useless fb_chroma_levels_not_copied = (c : CallOf fb_code_picture) → StackedChromaAt c
    → (level_with in_chroma 0 (chroma_record c 0) ≡ pos 0) × (level_with in_chroma 0 (chroma_record c 1) ≡ pos 5)
