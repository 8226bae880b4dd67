-- What the coder computes of a macroblock is what the definitions say, for either side.
--     residual_within, dc_within                 of bytes: residuals within 255, DC coefficients within 4080
--     length_dc, dc_each, length_ac              a DC coefficient for each block, fifteen AC levels
--     Coding: coding_none, coding_more, coding_dc     the loop over the blocks
--     coded_whole                                and the DC levels before them
-- Assumes nothing.
use mathlib.Core.Path.{◌≡◌, sym, ap, subst, ◌∙◌}
use mathlib.Core.List.{List, ◌++◌, append_assoc, append-nil}
use Prim.Native.Nat.{ℕ, ◌+◌, ◌-◌, ◌*◌, ◌<◌, ◌≤◌}
use native.Mathlib.Nat.{not-suc-le-zero}
use native.Mathlib.Omega.{arith}
use borrow.Author.Count.{below_more}
use borrow.Rule.Slice.PartMut.{put_mid}
use lib.IntN.{ℤ, pos}
use lib.ListN.{length, get_or, set, take, drop, length-drop}
use lib.Seq.{drop_at, length-take-le}
use Rattle.lists.specs.Bytes.{Bytes}
use Rattle.lists.specs.Parts.{parts}
use Rattle.lists.proofs.Parts.{Growing, growing_part, parts_more}
use Rattle.lists.proofs.Tab.{length_tab}
use Rattle.lists.proofs.Stores.{Storing, storing_none, storing_more, storing_done}
use Rattle.whole.specs.Bounds.{Within, Each}
use Rattle.whole.proofs.Lists.{each_tab}
use Rattle.transform.specs.Forward.{forward}
use Rattle.transform.proofs.Bounds.{forward_within}
use Rattle.residual.specs.Levels.{quantized}
use Rattle.residual.proofs.Order.{length_zigzag}
use Rattle.dc.specs.Path.{ac_of}
use Rattle.block.proofs.Laws.{residual_small}
use Rattle.picture.specs.Order.{column_in, row_in}
use Rattle.picture.proofs.Bytes.{block_bytes}
use Rattle.residual_whole.specs.Area.{Sided, blocks_of, raster_place, raster_block}
use Rattle.residual_whole.specs.Coded.{residual_in, whole_dc, dc_levels, whole_levels}
use Rattle.residual_whole.proofs.Blocks.{square, block_of_place, stored_by_place}

module _ (s : ℕ) (samples prediction : List ℕ) where
  -- the DC coefficient and the AC levels of block b
  abbrev dc_in : ℕ → ℤ
  dc_in b = get_or (forward (residual_in s samples prediction b)) 0 (pos 0)

  abbrev ac_beside : ℕ → ℕ → List ℤ
  ac_beside qp b = ac_of qp (residual_in s samples prediction b)

  pub length_dc : length (whole_dc s samples prediction) ≡ blocks_of s
  unfolding whole_dc
  length_dc = length_tab (blocks_of s) _

  module _ (side : Sided s) where
    -- where each DC coefficient is within B, so are they all in their places
    dc_each : (B : ℕ) → ((b : ℕ) → b < blocks_of s → Within B (dc_in b)) → Each B (whole_dc s samples prediction)
    unfolding whole_dc
    dc_each B h = each_tab B (blocks_of s) _ (λ k l. h (raster_block s k) (block_of_place s side k l))

    module _ (own : Bytes samples) (near : Bytes prediction) where
      pub residual_within : (b : ℕ) → Each 255 (residual_in s samples prediction b)
      unfolding residual_in
      residual_within b =
          residual_small _ _
          (block_bytes 4 s (4 * column_in b) (4 * row_in b) samples own)
          (block_bytes 4 s (4 * column_in b) (4 * row_in b) prediction near)

      pub dc_within : Each 4080 (whole_dc s samples prediction)
      dc_within = dc_each 4080 (λ b h. forward_within (residual_in s samples prediction b) (residual_within b) 0 (omega arith))

pub length_ac : (qp : ℕ) (x : List ℤ) → length (ac_of qp x) ≡ 15
length_ac qp x = simp length-drop (omega (arith, length_zigzag (quantized qp x)))

-- ---- the loop over the blocks

module _ (s qp : ℕ) (samples prediction : List ℕ) (start zeros : List ℤ) where
  -- the DC coefficients of the first b blocks stand by their places, and their AC levels behind what stood in front
  pub record Coding (levels coefficients : List ℤ) (b : ℕ) : Type 0 where
    pub room : length levels ≡ s * s
    pub long : length zeros ≡ blocks_of s
    pub stored : Storing (raster_place s) (dc_in s samples prediction) (blocks_of s) zeros coefficients b
    pub small : (k : ℕ) → k < b → Within 4080 (dc_in s samples prediction k)
    pub filled : Growing levels (take (blocks_of s) start ++ parts b (ac_beside s samples prediction qp)) (blocks_of s + 15 * b)

  module _ (side : Sided s) where
    pub coding_none : length start ≡ s * s → length zeros ≡ blocks_of s → Coding start zeros 0
    unfolding parts
    coding_none e z = record {
      room = e;
      long = z;
      stored = storing_none _ _ (blocks_of s) zeros;
      small = λ k h. absurd (not-suc-le-zero h);
      filled =
          let n : blocks_of s + 15 * 0 ≡ blocks_of s = omega arith in
          rw n (record { room = omega (arith, (square s side).levels); is = sym (append-nil (take (blocks_of s) start)) });
    }

    -- block b has been coded: its DC coefficient r at its place, and its AC levels w
    pub coding_more : {levels coefficients : List ℤ} {b : ℕ} → Coding levels coefficients b → b < blocks_of s
        → {place : ℕ} {r v : ℤ} {w : List ℤ}
        → place ≡ raster_place s b → r ≡ dc_in s samples prediction b → Within 4080 r → v ≡ r → w ≡ ac_beside s samples prediction qp b
        → length (put_mid (blocks_of s + 15 * b) (blocks_of s + 15 * b + 15 - (blocks_of s + 15 * b)) levels w) ≡ length levels
        → Coding (put_mid (blocks_of s + 15 * b) (blocks_of s + 15 * b + 15 - (blocks_of s + 15 * b)) levels w) (set coefficients place v) (b + 1)
    coding_more {levels} {coefficients} {b} c h {place} {r} {v} {w} is-place is-r within is-v is-w same =
        let at = blocks_of s + 15 * b in
        let e : blocks_of s + 15 * (b + 1) ≡ blocks_of s + 15 * b + 15 = omega arith in
        let n = ap length is-w ∙ length_ac qp (residual_in s samples prediction b) in
        let g = growing_part w (blocks_of s + 15 * b + 15) c.filled (omega arith) (omega (arith, c.room, (square s side).levels)) (omega (arith, n)) in
        record {
          room = same ∙ c.room;
          long = c.long;
          stored = storing_more _ _ (blocks_of s) c.stored h is-place (is-v ∙ is-r);
          small = below_more _ _ c.small (subst (Within 4080) is-r within);
          filled =
              rw (e, parts_more, ← (append_assoc (take (blocks_of s) start) (parts b (ac_beside s samples prediction qp)) (ac_beside s samples prediction qp b)))
              (subst (λ (t : List ℤ). Growing (put_mid at (at + 15 - at) levels w) ((take (blocks_of s) start ++ parts b (ac_beside s samples prediction qp)) ++ t) (at + 15)) is-w g);
        }

    -- all blocks have been coded
    module _ {levels coefficients : List ℤ} {b : ℕ} (c : Coding levels coefficients b) (h : blocks_of s ≤ b) where
      pub coding_dc : (coefficients ≡ whole_dc s samples prediction) × Each 4080 coefficients
      unfolding whole_dc
      coding_dc =
          let e : coefficients ≡ whole_dc s samples prediction =
          storing_done _ _ (blocks_of s) c.stored h ∙ stored_by_place s side (dc_in s samples prediction) (pos 0) zeros c.long in
          (e, subst (Each 4080) (sym e) (dc_each s samples prediction side 4080 (λ k l. c.small k (omega arith))))

-- and the DC levels w of the coefficients stand in front
pub coded_whole : (s : ℕ) → Sided s → (qp : ℕ) (samples prediction : List ℕ) (start : List ℤ) {levels coefficients w : List ℤ} → length start ≡ s * s
    → coefficients ≡ whole_dc s samples prediction → levels ≡ take (blocks_of s) start ++ parts (blocks_of s) (ac_beside s samples prediction qp) → w ≡ dc_levels (blocks_of s) qp coefficients
    → w ++ drop (blocks_of s) levels ≡ whole_levels s qp samples prediction
unfolding whole_levels
coded_whole s side qp samples prediction start {levels} {coefficients} {w} long is_c is_l is_w =
    let back : drop (blocks_of s) levels ≡ parts (blocks_of s) (ac_beside s samples prediction qp) =
    ap (drop (blocks_of s)) is_l ∙ drop_at (take (blocks_of s) start) (parts (blocks_of s) (ac_beside s samples prediction qp)) (blocks_of s) (length-take-le (blocks_of s) start (omega (arith, (square s side).levels))) in
    (λ i. (is_w ∙ ap (dc_levels (blocks_of s) qp) is_c) i ++ back i)
