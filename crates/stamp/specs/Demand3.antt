-- Demand 3: the coefficients hold all of a block (01, "Weights for carrying coefficients back"). Assumes nothing.
use Rattle.std.specs.Prelude.{◌≡◌, true, false, List, ◌↔◌, ℕ, ◌<◌, ℤ, pos, ◌*ℤ◌, length, get_or, take, drop}
use Rattle.lists.specs.Tab.{tab}
use Rattle.whole.specs.Bounds.{Each}
use Rattle.quantizer.specs.Chroma.{chroma_of}
use Rattle.quantizer.specs.Range.{period_of}
use Rattle.intra4.specs.Rules.{samples_of}
use Rattle.transform.specs.Carried.{weighted, carried_back, scaled, products, Multiple}
use Rattle.transform.specs.Entry.{Takes}
use Rattle.residual.specs.Order.{in_zigzag}
use Rattle.residual.specs.Quantize.{level_of}
use Rattle.residual.specs.Rescale.{mf_at}
use Rattle.block.specs.Block.{residual_of}
use Rattle.sides.specs.Rules.{predicted}
use Rattle.residual_whole.specs.Area.{blocks_of, raster_block}
use Rattle.residual_whole.specs.Coded.{residual_in, dc_levels}
use Rattle.residual_whole.specs.Rebuilt.{ac_in}
use Rattle.record.specs.Records.{is_whole, whole_mode_in, levels_in, chroma_mode_in}
use Rattle.picture.specs.declared.Layout.{Layout}
use Rattle.picture.specs.Order.{count_of}
use Rattle.picture.specs.Plane.{block_of}
use Rattle.picture.specs.Presence.{flags_of}
use Rattle.picture.specs.Whole.{whole_of, gathered_round}
use Rattle.macroblock16.specs.Content.{whole_levels_in}
use Rattle.macroblock16.specs.Rebuild.{round_whole}
use Rattle.macroblock_chroma.specs.Content.{cb_levels_in, cr_levels_in}
use Rattle.macroblock_chroma.specs.Rebuild.{prediction_chroma}
use Rattle.stamp.specs.Answers.{Succeeds}
use Rattle.stamp.specs.Calls.{CallOf, fb_choose, fb_forward, fb_levels, fb_code_block, fb_code_plane, fb_code_picture, word, given, before, after}
use Rattle.stamp.specs.Unseen.{layout_given, written_record, picture_given, luma_record, chroma_record, NeighboursOf}

-- sixteen numbers which, carried back, are each 400 times a number in -255..255
abbrev pub CarryBack : List ℤ → Type 0
CarryBack y = (length y ≡ 16) × ((place : ℕ) → place < 16 → Multiple (get_or (carried_back y) place (pos 0)))

-- the levels of sixteen coefficients y, in zigzag order: "The level's size is (|Y|*MF+f)/2^q rounded down, and its sign is that of Y"
abbrev pub levels_from : (qp : ℕ) → (y : List ℤ) → List ℤ
levels_from qp y = in_zigzag (tab 16 (λ place. level_of 0 (period_of qp) (mf_at qp place) (get_or y place (pos 0))))

-- ---- the record of macroblock m, whose blocks the coder found beside the samples that it left in the rebuilt plane

-- of the 4x4 kind: each block's levels are those of what the samples of `fb_choose` lack
abbrev pub FoursOfForward : (l : Layout) (qp : ℕ) (original rebuilt : List ℕ) (m : ℕ) (part : List ℕ) → Type 0
FoursOfForward l qp original rebuilt m part = is_whole part ≡ false → (b : ℕ) → b < 16 → (n : List ℕ) → NeighboursOf l m b rebuilt n
    → (h : CallOf fb_choose) (d : CallOf fb_forward)
    → given h ≡ record { neighbours = n; flags = flags_of 4 l m b; samples = block_of 4 l m b original } → length (before h) ≡ 16
    → (given d).residual ≡ residual_of (block_of 4 l m b original) (after h) → length (before d) ≡ 16
    → Succeeds (word h) × Succeeds (word d) × (levels_in b part ≡ levels_from qp (after d))

-- of a macroblock predicted whole, which has s by s samples, "16 DC levels, 16 times 15 AC levels" (02, Req 01) or "4 DC, then 4 times 15 AC" (02, Req 05):
-- `fb_forward` of what the prediction lacks in each block leaves the coefficients of which these are the levels, the AC all but the first of a
-- block's, the DC by their DC path those of the first coefficients "by the row and column of their blocks"
abbrev pub WholeOfForward : (s qp : ℕ) (samples prediction : List ℕ) (levels : List ℤ) → Type 0
WholeOfForward s qp samples prediction levels = (d : ℕ → CallOf fb_forward)
    → ((b : ℕ) → b < blocks_of s → ((given (d b)).residual ≡ residual_in s samples prediction b) × (length (before (d b)) ≡ 16))
    → ((b : ℕ) → b < blocks_of s → Succeeds (word (d b)) × (ac_in s levels b ≡ drop 1 (levels_from qp (after (d b)))))
    × (take (blocks_of s) levels ≡ dc_levels (blocks_of s) qp (tab (blocks_of s) (λ place. get_or (after (d (raster_block s place))) 0 (pos 0))))

-- of the 16x16 kind, predicted in the mode that the record has
abbrev pub SixteensOfForward : (l : Layout) (qp : ℕ) (original rebuilt : List ℕ) (m : ℕ) (part : List ℕ) → Type 0
SixteensOfForward l qp original rebuilt m part = is_whole part ≡ true
    → WholeOfForward 16 qp (whole_of 16 l m original) (samples_of (predicted (round_whole l m (gathered_round 16 l m rebuilt)) (whole_mode_in part))) (whole_levels_in part)

-- of luma, of either kind
abbrev pub LumaOfForward : (l : Layout) (qp : ℕ) (original rebuilt : List ℕ) (m : ℕ) (part : List ℕ) → Type 0
LumaOfForward l qp original rebuilt m part = FoursOfForward l qp original rebuilt m part × SixteensOfForward l qp original rebuilt m part

-- and of one plane of chroma, predicted in the record's mode
abbrev pub ChromaOfForward : (l : Layout) (qp : ℕ) (original rebuilt : List ℕ) (mode m : ℕ) (levels : List ℤ) → Type 0
ChromaOfForward l qp original rebuilt mode m levels = WholeOfForward 8 qp (whole_of 8 l m original) (prediction_chroma l mode m (gathered_round 8 l m rebuilt)) levels

pub data Claim3 : Type 0 where
  fb_forward_succeeds_exactly_if fb_forward_carried_back fb_forward_products fb_forward_one_block fb_forward_left fb_forward_reached : Claim3
  fb_levels_of_forward fb_code_block_of_forward fb_code_plane_of_forward fb_code_picture_of_forward fb_chroma_of_forward : Claim3

abbrev pub Demand3 : Claim3 → Type 0
-- it succeeds exactly if both slices have sixteen numbers and each residual lies in -255..255
Demand3 fb_forward_succeeds_exactly_if = (c : CallOf fb_forward) → Succeeds (word c) ↔ Takes (given c).residual (before c)
-- "C-transposed times the weighted Y times C is 400X"
Demand3 fb_forward_carried_back = (c : CallOf fb_forward) → Succeeds (word c) → carried_back (after c) ≡ scaled (pos 400) (given c).residual
-- so the summed products of two blocks are to be had of what was left of them
Demand3 fb_forward_products = (c c' : CallOf fb_forward) → Succeeds (word c) → Succeeds (word c')
    → pos 400 *ℤ products (given c).residual (given c').residual ≡ products (weighted (after c)) (after c')
-- and one block only has these coefficients
Demand3 fb_forward_one_block = (c c' : CallOf fb_forward) → Succeeds (word c) → Succeeds (word c') → after c ≡ after c' → (given c).residual ≡ (given c').residual
-- exactly the numbers that carry back are what a success leaves: whatever was left does, and of all that do there is a block, of sixteen numbers in
-- -255..255, with which every call that has room succeeds and leaves them
Demand3 fb_forward_left = (c : CallOf fb_forward) → Succeeds (word c) → CarryBack (after c)
Demand3 fb_forward_reached = (y : List ℤ) → CarryBack y
    → (x : List ℤ) × (length x ≡ 16) × Each 255 x × ((c : CallOf fb_forward) → (given c).residual ≡ x → length (before c) ≡ 16 → Succeeds (word c) × (after c ≡ y))
-- "Demand 3 speaks of demand 2's transform": what `fb_levels` takes `fb_forward` takes, and the levels are those of the coefficients that it leaves
Demand3 fb_levels_of_forward = (c : CallOf fb_levels) (d : CallOf fb_forward) → Succeeds (word c) → (given d).residual ≡ (given c).residual → length (before d) ≡ 16
    → Succeeds (word d) × (after c ≡ levels_from (given c).qp (after d))
-- and so are the levels of `fb_code_block`, of what the samples of `fb_choose` lack
Demand3 fb_code_block_of_forward = (c : CallOf fb_code_block) (h : CallOf fb_choose) (d : CallOf fb_forward) → Succeeds (word c)
    → given h ≡ record { neighbours = (given c).neighbours; flags = (given c).flags; samples = (given c).samples } → length (before h) ≡ 16
    → (given d).residual ≡ residual_of (given c).samples (after h) → length (before d) ≡ 16
    → Succeeds (word h) × Succeeds (word d) × ((after c).levels ≡ levels_from (given c).qp (after d))
-- and so are those of every luma record that a coder writes
Demand3 fb_code_plane_of_forward = (c : CallOf fb_code_plane) → Succeeds (word c) → (m : ℕ) → m < count_of (layout_given c)
    → LumaOfForward (layout_given c) (given c).qp (given c).plane (after c).rebuilt m (written_record c m)
Demand3 fb_code_picture_of_forward = (c : CallOf fb_code_picture) → Succeeds (word c) → (m : ℕ) → m < count_of (picture_given c)
    → LumaOfForward (picture_given c) (given c).qp (given c).luma (after c).luma m (luma_record c m)
-- and of every chroma record, Cb's and Cr's
Demand3 fb_chroma_of_forward = (c : CallOf fb_code_picture) → Succeeds (word c) → (m : ℕ) → m < count_of (picture_given c)
    → let part = chroma_record c m in
    ChromaOfForward (picture_given c) (chroma_of (given c).qp (given c).cb_offset) (given c).cb (after c).cb (chroma_mode_in part) m (cb_levels_in part)
    × ChromaOfForward (picture_given c) (chroma_of (given c).qp (given c).cr_offset) (given c).cr (after c).cr (chroma_mode_in part) m (cr_levels_in part)
