-- "A missing sample has no value" (demand 1) in planes and pictures: what is not present to a macroblock, outside the picture, later, or "in another
-- slice" (02, Req 02), changes nothing of it, whether it is predicted by 4x4, by 16x16, or is chroma. Any macroblocks are taken that see none but each other;
-- the macroblocks of a slice are such, so that a slice stands alone. And what is not present to a 4x4 block changes nothing of this block. Assumes nothing.
use Rattle.std.specs.Prelude.{◌≡◌, Bool, true, false, List, ℕ, ◌-◌, ◌/◌, ◌%◌, ◌<◌, eqb, length, get_or}
use Rattle.head.specs.Entry.{long_at}
use Rattle.record.specs.Records.{colour_at, qp_in, is_whole, mode_in, levels_in}
use Rattle.picture.specs.declared.Layout.{Layout}
use Rattle.picture.specs.Order.{count_of, block_column, block_row, macroblock_in}
use Rattle.picture.specs.Plane.{stride, plane_length, sample_at, block_of}
use Rattle.picture.specs.Presence.{slice_of, macroblock_present, touches, neighbour_column, neighbour_row, present_at, flags_of}
use Rattle.plane.specs.Code.{in_slices, behind_head}
use Rattle.plane.specs.Decode.{record_in, luma_in, chroma_in, layout_in}
use Rattle.stamp.specs.Answers.{Succeeds, mode_told, written_file}
use Rattle.stamp.specs.Calls.{CallOf, fb_predict, fb_rebuild, fb_code_block, fb_code_plane, fb_decode_plane, fb_code_picture, fb_decode_picture, word, given, before, after}

-- macroblocks that see none but each other: whichever is present to one of them, "inside the picture, earlier, and in the same slice", and stands
-- beside it, is one of them
abbrev pub Closed : Layout → (these : ℕ → Bool) → Type 0
Closed l these = (m k : ℕ) → these m ≡ true → macroblock_present l m k ≡ true → touches l m k ≡ true → these k ≡ true

-- those of a slice
abbrev pub of_slice : Layout → (slice : ℕ) → ℕ → Bool
of_slice l slice m = eqb (slice_of l m) slice

-- two planes, whose macroblocks have s by s samples, have the same samples in these macroblocks
abbrev pub SameIn : (s : ℕ) → Layout → (these : ℕ → Bool) → (p q : List ℕ) → Type 0
SameIn s l these p q = (i : ℕ) → i < plane_length s l → these (macroblock_in s l (i % stride s l) (i / stride s l)) ≡ true → get_or p i 0 ≡ get_or q i 0

-- ---- coders: two pictures of one size, slicing and QP that have the same samples in these macroblocks

abbrev pub layout_given : CallOf fb_code_plane → Layout
layout_given c = in_slices (given c).width (given c).height (given c).rows

abbrev pub file_of : CallOf fb_code_plane → List ℕ
file_of c = written_file (word c) (after c).file

-- record m of that file
abbrev pub written_record : CallOf fb_code_plane → ℕ → List ℕ
written_record c m = record_in (file_of c) (behind_head (layout_given c)) m

-- the records of these macroblocks are the same, and the rebuilt samples
abbrev pub PlaneAlike : (these : ℕ → Bool) (c c' : CallOf fb_code_plane) → Type 0
PlaneAlike these c c' = layout_given c' ≡ layout_given c → (given c').qp ≡ (given c).qp → SameIn 16 (layout_given c) these (given c).plane (given c').plane
    → ((m : ℕ) → m < count_of (layout_given c) → these m ≡ true → written_record c m ≡ written_record c' m)
    × SameIn 16 (layout_given c) these (after c).rebuilt (after c').rebuilt

abbrev pub picture_given : CallOf fb_code_picture → Layout
picture_given c = in_slices (given c).width (given c).height (given c).rows

abbrev pub frame_of : CallOf fb_code_picture → List ℕ
frame_of c = written_file (word c) (after c).file

-- both records of macroblock m in that file
abbrev pub luma_record : CallOf fb_code_picture → ℕ → List ℕ
luma_record c m = luma_in (frame_of c) (behind_head (picture_given c)) m

abbrev pub chroma_record : CallOf fb_code_picture → ℕ → List ℕ
chroma_record c m = chroma_in (frame_of c) (behind_head (picture_given c)) m

-- of a colour picture both records of each, and the samples of all three planes
abbrev pub PictureAlike : (these : ℕ → Bool) (c c' : CallOf fb_code_picture) → Type 0
PictureAlike these c c' = let l = picture_given c in
    picture_given c' ≡ l → (given c').qp ≡ (given c).qp → (given c').cb_offset ≡ (given c).cb_offset → (given c').cr_offset ≡ (given c).cr_offset
    → SameIn 16 l these (given c).luma (given c').luma → SameIn 8 l these (given c).cb (given c').cb → SameIn 8 l these (given c).cr (given c').cr
    → ((m : ℕ) → m < count_of l → these m ≡ true → (luma_record c m ≡ luma_record c' m) × (chroma_record c m ≡ chroma_record c' m))
    × SameIn 16 l these (after c).luma (after c').luma × SameIn 8 l these (after c).cb (after c').cb × SameIn 8 l these (after c).cr (after c').cr

-- ---- decoders: two files of one size and slicing, whoever wrote them, that have the same records of these macroblocks

abbrev pub SameLuma : (these : ℕ → Bool) (file file' : List ℕ) → Type 0
SameLuma these file file' = (m : ℕ) → m < count_of (layout_in file) → these m ≡ true → luma_in file (long_at file) m ≡ luma_in file' (long_at file') m

abbrev pub SameChroma : (these : ℕ → Bool) (file file' : List ℕ) → Type 0
SameChroma these file file' = (m : ℕ) → m < count_of (layout_in file) → these m ≡ true → chroma_in file (long_at file) m ≡ chroma_in file' (long_at file') m

-- the samples of these macroblocks are the same
abbrev pub DecodedAlike : (these : ℕ → Bool) (d d' : CallOf fb_decode_plane) → Type 0
DecodedAlike these d d' = layout_in (given d').file ≡ layout_in (given d).file → SameLuma these (given d).file (given d').file
    → SameIn 16 (layout_in (given d).file) these (after d) (after d')

-- and where both are colour, those of both planes of chroma
abbrev pub PlanesAlike : (these : ℕ → Bool) (d d' : CallOf fb_decode_picture) → Type 0
PlanesAlike these d d' = let file = (given d).file in let file' = (given d').file in let l = layout_in file in
    layout_in file' ≡ l → SameLuma these file file'
    → SameIn 16 l these (after d).luma (after d').luma
    × (colour_at (long_at file) file ≡ true → colour_at (long_at file') file' ≡ true → SameChroma these file file'
    → SameIn 8 l these (after d).cb (after d').cb × SameIn 8 l these (after d).cr (after d').cr)

-- ---- a block inside a macroblock of the 4x4 kind

-- thirteen neighbours, "M, A to H, I to L", that are block b's in a plane wherever one is present to it; for a missing one any number may stand
pub record NeighboursOf (l : Layout) (m b : ℕ) (plane neighbours : List ℕ) : Type 0 where
  pub long : length neighbours ≡ 13
  pub there : (k : ℕ) → k < 13 → present_at 4 l m b k ≡ true
      → get_or neighbours k 0 ≡ sample_at (stride 16 l) plane (neighbour_column 4 (block_column l m b) k - 1) (neighbour_row 4 (block_row l m b) k - 1)

-- of such neighbours in the rebuilt plane, `fb_code_block` gives the mode and the levels that the record has, and the samples that the plane has
abbrev pub BlocksCoded : (l : Layout) (qp : ℕ) (original rebuilt : List ℕ) (m : ℕ) (part : List ℕ) → Type 0
BlocksCoded l qp original rebuilt m part = is_whole part ≡ false → (b : ℕ) → b < 16 → (n : List ℕ) → NeighboursOf l m b rebuilt n
    → (k : CallOf fb_code_block) → given k ≡ record { qp = qp; flags = flags_of 4 l m b; neighbours = n; samples = block_of 4 l m b original }
    → length (before k).levels ≡ 16 → length (before k).rebuilt ≡ 16
    → Succeeds (word k) × (mode_told (word k) ≡ mode_in b part) × ((after k).levels ≡ levels_in b part) × ((after k).rebuilt ≡ block_of 4 l m b rebuilt)

-- and `fb_predict` and `fb_rebuild` give, of the mode and the levels that the record has, the samples that the plane has
abbrev pub BlocksDecoded : (l : Layout) (plane : List ℕ) (m : ℕ) (part : List ℕ) → Type 0
BlocksDecoded l plane m part = is_whole part ≡ false → (b : ℕ) → b < 16 → (n : List ℕ) → NeighboursOf l m b plane n
    → (p : CallOf fb_predict) (r : CallOf fb_rebuild)
    → given p ≡ record { neighbours = n; flags = flags_of 4 l m b; mode = mode_in b part } → length (before p) ≡ 16
    → given r ≡ record { qp = qp_in part; prediction = after p; levels = levels_in b part } → length (before r) ≡ 16
    → Succeeds (word p) × Succeeds (word r) × (after r ≡ block_of 4 l m b plane)

pub data UnseenClaim : Type 0 where
  fb_code_plane_unseen fb_code_picture_unseen fb_decode_plane_unseen fb_decode_picture_unseen : UnseenClaim
  fb_code_plane_slice_alone fb_code_picture_slice_alone fb_decode_plane_slice_alone fb_decode_picture_slice_alone : UnseenClaim
  fb_code_plane_block_alone fb_code_picture_block_alone fb_decode_plane_block_alone fb_decode_picture_block_alone : UnseenClaim

abbrev pub Unseen : UnseenClaim → Type 0
Unseen fb_code_plane_unseen = (c c' : CallOf fb_code_plane) → Succeeds (word c) → Succeeds (word c')
    → (these : ℕ → Bool) → Closed (layout_given c) these → PlaneAlike these c c'
Unseen fb_code_picture_unseen = (c c' : CallOf fb_code_picture) → Succeeds (word c) → Succeeds (word c')
    → (these : ℕ → Bool) → Closed (picture_given c) these → PictureAlike these c c'
Unseen fb_decode_plane_unseen = (d d' : CallOf fb_decode_plane) → Succeeds (word d) → Succeeds (word d')
    → (these : ℕ → Bool) → Closed (layout_in (given d).file) these → DecodedAlike these d d'
Unseen fb_decode_picture_unseen = (d d' : CallOf fb_decode_picture) → Succeeds (word d) → Succeeds (word d')
    → (these : ℕ → Bool) → Closed (layout_in (given d).file) these → PlanesAlike these d d'
-- (02, Req 02) "a slice is predicted from nothing outside it"
Unseen fb_code_plane_slice_alone = (c c' : CallOf fb_code_plane) → Succeeds (word c) → Succeeds (word c') → (slice : ℕ) → PlaneAlike (of_slice (layout_given c) slice) c c'
Unseen fb_code_picture_slice_alone = (c c' : CallOf fb_code_picture) → Succeeds (word c) → Succeeds (word c') → (slice : ℕ) → PictureAlike (of_slice (picture_given c) slice) c c'
Unseen fb_decode_plane_slice_alone = (d d' : CallOf fb_decode_plane) → Succeeds (word d) → Succeeds (word d') → (slice : ℕ) → DecodedAlike (of_slice (layout_in (given d).file) slice) d d'
Unseen fb_decode_picture_slice_alone = (d d' : CallOf fb_decode_picture) → Succeeds (word d) → Succeeds (word d') → (slice : ℕ) → PlanesAlike (of_slice (layout_in (given d).file) slice) d d'
-- (01, "Plane and record file") "A neighbour is present exactly if it lies inside the picture and its block comes earlier in this order": each block goes by
-- those neighbours in the rebuilt plane, and by no other byte
Unseen fb_code_plane_block_alone = (c : CallOf fb_code_plane) → Succeeds (word c) → (m : ℕ) → m < count_of (layout_given c)
    → BlocksCoded (layout_given c) (given c).qp (given c).plane (after c).rebuilt m (written_record c m)
Unseen fb_code_picture_block_alone = (c : CallOf fb_code_picture) → Succeeds (word c) → (m : ℕ) → m < count_of (picture_given c)
    → BlocksCoded (picture_given c) (given c).qp (given c).luma (after c).luma m (luma_record c m)
Unseen fb_decode_plane_block_alone = (d : CallOf fb_decode_plane) → Succeeds (word d) → (m : ℕ) → m < count_of (layout_in (given d).file)
    → BlocksDecoded (layout_in (given d).file) (after d) m (luma_in (given d).file (long_at (given d).file) m)
Unseen fb_decode_picture_block_alone = (d : CallOf fb_decode_picture) → Succeeds (word d) → (m : ℕ) → m < count_of (layout_in (given d).file)
    → BlocksDecoded (layout_in (given d).file) (after d).luma m (luma_in (given d).file (long_at (given d).file) m)
