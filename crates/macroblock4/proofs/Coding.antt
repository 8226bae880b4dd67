-- What the coder computes of a block and of a macroblock is what the definitions say.
--     block_coded, turn_coded                        a block by value, of the flags, neighbours and samples that the code has read; stored
--     modes_small                                    of any macroblock: modes fit four bits
--     BlocksCoded: blocks_none, blocks_more, blocks_done     the loop over the blocks of a macroblock
-- Assumes nothing.
use mathlib.Core.Path.{◌≡◌, ap, subst, ◌∙◌}
use mathlib.Core.List.{List, ◌++◌}
use Prim.Native.Nat.{ℕ, ◌+◌, ◌-◌, ◌*◌, ◌<◌, ◌≤◌}
use native.Mathlib.Omega.{arith}
use borrow.Rule.Slice.PartMut.{put_mid}
use lib.IntN.{ℤ}
use lib.ListN.{length, get_or, set}
use Rattle.lists.specs.Parts.{parts}
use Rattle.lists.proofs.Fold.{Folding, folding_none, folding_more, folding_done}
use Rattle.lists.proofs.Parts.{Growing, growing_none, growing_part, growing_done, parts_more}
use Rattle.lists.proofs.Places.{tab_places}
use Rattle.lists.proofs.Total.{Totalling, totalling_none, totalling_more, totalling_done}
use Rattle.lists.proofs.Tab.{Filling, filling_none, filling_more, filling_done}
use Rattle.intra4.specs.Samples.{mask}
use Rattle.intra4.proofs.Least.{some_mode}
use Rattle.choice.specs.Choice.{mode_of, sad_of}
use Rattle.block.specs.Entry.{Carries}
use Rattle.block.specs.declared.inner.Block.{Block}
use Rattle.picture.specs.declared.Layout.{Layout}
use Rattle.picture.specs.Order.{block_count}
use Rattle.picture.specs.Plane.{plane_length, block_of, with_block, gathered, turn}
use Rattle.picture.specs.Presence.{flags_of}
use Rattle.picture.proofs.Start.{length_turn, turns_four}
use Rattle.macroblock4.specs.Code.{mode_from, sad_from, levels_from, samples_from, seen, modes_from, sads_from, blocks_from, coded_step4}
use Rattle.macroblock4.proofs.RecordFrom.{length_levels_from}

-- ---- a block

-- a block by value is that of block b of macroblock m, beside these neighbours
pub record BlockCoded (l : Layout) (qp : ℕ) (original : List ℕ) (m b : ℕ) (neighbours : List ℕ) (x : Block) : Type 0 where
  pub mode : x.mode ≡ mode_from l original m b neighbours
  pub sad : x.sad ≡ sad_from l original m b neighbours
  pub levels : x.levels ≡ levels_from l qp original m b neighbours
  pub samples : x.rebuilt ≡ samples_from l qp original m b neighbours

pub block_coded : (l : Layout) (qp : ℕ) (original : List ℕ) (m b : ℕ) (plane : List ℕ) (x : Block) {flags : ℕ} {n s : List ℕ}
    → flags ≡ flags_of 4 l m b → n ≡ gathered 4 l m b plane → s ≡ block_of 4 l m b original → Carries qp (mask n flags) s x
    → BlockCoded l qp original m b (gathered 4 l m b plane) x
unfolding mode_from sad_from levels_from samples_from
block_coded l qp original m b plane x {flags} {n} {s} is_f is-n is-s c =
    let d : Carries qp (mask (gathered 4 l m b plane) (flags_of 4 l m b)) (block_of 4 l m b original) x = subst (λ (t : List ℕ). Carries qp (mask (gathered 4 l m b plane) (flags_of 4 l m b)) t x) is-s (rw (is_f, is-n) at c) in
    record {
      mode = ap mode_of d.best;
      sad = ap sad_of d.best;
      levels = d.levels;
      samples = d.rebuilt;
    }

-- what has been stored is the block's turn
pub turn_coded : (l : Layout) (qp : ℕ) (original : List ℕ) (m b : ℕ) (plane : List ℕ) (x : Block) → BlockCoded l qp original m b (gathered 4 l m b plane) x
    → {s after : List ℕ} → after ≡ with_block 4 l m b s plane → s ≡ x.rebuilt → after ≡ turn 4 (samples_from l qp original) l m b plane
unfolding turn
turn_coded l qp original m b plane x c e g = e ∙ ap (λ (v : List ℕ). with_block 4 l m b v plane) (g ∙ c.samples)

module _ (l : Layout) (qp : ℕ) (original : List ℕ) (m : ℕ) where
  mode_small : (b : ℕ) (neighbours : List ℕ) → mode_from l original m b neighbours < 16
  unfolding mode_from
  mode_small b neighbours =
      let c = some_mode (mask neighbours (flags_of 4 l m b)) (block_of 4 l m b original) in
      let e = ap mode_of c.2 in
      omega (arith, e, c.3.within)

  -- ---- a macroblock, of the rebuilt plane before it

  module _ (before : List ℕ) where
    abbrev mode_at : ℕ → ℕ
    mode_at b = mode_from l original m b (seen l qp original m before b)

    abbrev sad_at : ℕ → ℕ
    sad_at b = sad_from l original m b (seen l qp original m before b)

    abbrev levels_at : ℕ → List ℤ
    levels_at b = levels_from l qp original m b (seen l qp original m before b)

    pub modes_small : (k : ℕ) → get_or (modes_from l qp original m before) k 0 < 16
    modes_small = tab_places (λ (mode : ℕ). mode < 16) 0 (omega arith) 16 mode_at (λ k h. mode_small k (seen l qp original m before k))

    -- b of its blocks have had their turns; that a SAD is one of 32 bits lets the sum be known to fit
    pub record BlocksCoded (levels : List ℤ) (rebuilt modes : List ℕ) (sum b : ℕ) : Type 0 where
      pub kept : length rebuilt ≡ plane_length 16 l
      pub turned : Folding 16 (turn 4 (samples_from l qp original) l m) before rebuilt b
      pub chosen : Filling 16 mode_at modes b
      pub cost : Totalling 16 sad_at 4294967295 sum b
      pub room : length levels ≡ 256
      pub filled : Growing levels (parts b levels_at) (16 * b)

    pub blocks_none : {levels : List ℤ} {modes : List ℕ} → length before ≡ plane_length 16 l → length modes ≡ 16 → length levels ≡ 256 → BlocksCoded levels before modes 0 0
    unfolding parts
    blocks_none {levels} {modes} h k r = record {
      kept = h;
      turned = folding_none _ _ _;
      chosen = filling_none _ _ k;
      cost = totalling_none _ _ _;
      room = r;
      filled = growing_none levels;
    }

    -- block b has been coded: its mode r, its SAD s, its levels w, and the plane after its turn
    pub blocks_more : {levels : List ℤ} {rebuilt modes : List ℕ} {sum b : ℕ} → BlocksCoded levels rebuilt modes sum b → b < 16
        → {r s : ℕ} {w : List ℤ} {after : List ℕ}
        → r ≡ mode_from l original m b (gathered 4 l m b rebuilt)
        → s ≡ sad_from l original m b (gathered 4 l m b rebuilt) → s ≤ 4294967295
        → w ≡ levels_from l qp original m b (gathered 4 l m b rebuilt)
        → after ≡ turn 4 (samples_from l qp original) l m b rebuilt
        → length (put_mid (16 * b) (16 * b + 16 - 16 * b) levels w) ≡ length levels
        → BlocksCoded (put_mid (16 * b) (16 * b + 16 - 16 * b) levels w) after (set modes b r) (sum + s) (b + 1)
    unfolding seen
    blocks_more {levels} {rebuilt} {modes} {sum} {b} c h {r} {s} {w} {after} is-r is-s low is-w is-after same =
        let e = ap (gathered 4 l m b) (c.turned.is ∙ turns_four (samples_from l qp original) l m b before) in
        let long = ap length is-w ∙ length_levels_from l qp original m b (gathered 4 l m b rebuilt) in
        let n : 16 * (b + 1) ≡ 16 * b + 16 = omega arith in
        let g = growing_part w (16 * b + 16) c.filled (omega arith) (omega (arith, c.room)) (omega (arith, long)) in
        record {
          kept = ap length is-after ∙ length_turn 4 (samples_from l qp original) l m b rebuilt ∙ c.kept;
          turned = folding_more _ _ _ c.turned h is-after;
          chosen = filling_more _ _ c.chosen h (is-r ∙ ap (mode_from l original m b) e);
          cost = totalling_more _ _ _ c.cost h (is-s ∙ ap (sad_from l original m b) e) low;
          room = same ∙ c.room;
          filled = rw (n, parts_more) (subst (λ (v : List ℤ). Growing (put_mid (16 * b) (16 * b + 16 - 16 * b) levels w) (parts b levels_at ++ v) (16 * b + 16)) (is-w ∙ ap (levels_from l qp original m b) e) g);
        }

    pub record BlocksDone (levels : List ℤ) (rebuilt modes : List ℕ) (sum : ℕ) : Type 0 where
      pub modes_are : modes ≡ modes_from l qp original m before
      pub sum_is : sum ≡ sads_from l qp original m before
      pub levels_are : levels ≡ blocks_from l qp original m before
      pub rebuilt_is : rebuilt ≡ coded_step4 l qp original m before

    pub blocks_done : {levels : List ℤ} {rebuilt modes : List ℕ} {sum b : ℕ} → BlocksCoded levels rebuilt modes sum b → 16 ≤ b → BlocksDone levels rebuilt modes sum
    unfolding coded_step4 block_count sads_from
    blocks_done {levels} {rebuilt} {modes} {sum} {b} c h =
        let e : b ≡ 16 = omega (arith, c.turned.below) in
        let g = rw e at c.filled in
        record {
          modes_are = filling_done _ _ c.chosen h;
          sum_is = totalling_done _ _ _ c.cost h;
          levels_are = growing_done g (omega (arith, c.room));
          rebuilt_is = folding_done _ _ _ c.turned h ∙ turns_four (samples_from l qp original) l m 16 before;
        }
