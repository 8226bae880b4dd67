-- The record of a coded macroblock: sixteen levels for each block, and so a record of the 4x4 kind.
--     length_levels_from, length_blocks_from     sixteen levels for each block, so 256 for a macroblock
--     length_record_from4, own_record_from4, not_whole_from4        the record's length; its form is fine; its kind
--     same_record                                records of the same modes and levels, block by block
-- Assumes nothing.
use mathlib.Core.Path.{◌≡◌}
use mathlib.Core.Bool.{false}
use mathlib.Core.List.{List}
use Prim.Native.Nat.{ℕ, ◌<◌}
use lib.ListN.{length}
use Rattle.lists.proofs.Parts.{length_parts, parts_same}
use Rattle.lists.proofs.Tab.{tab_same}
use Rattle.residual.proofs.Order.{length_zigzag}
use Rattle.record.specs.Kinds.{in_fours, length_of, expected_luma}
use Rattle.record.specs.Records.{record_of, is_whole}
use Rattle.record.proofs.Back.{Own, length_record, own_record, not_whole}
use Rattle.picture.specs.declared.Layout.{Layout}
use Rattle.macroblock4.specs.Code.{mode_from, levels_from, seen, modes_from, blocks_from, record_from4}

module _ (l : Layout) (qp : ℕ) (original : List ℕ) where
  pub length_levels_from : (m b : ℕ) (neighbours : List ℕ) → length (levels_from l qp original m b neighbours) ≡ 16
  unfolding levels_from
  length_levels_from m b neighbours = length_zigzag _

  pub length_blocks_from : (m : ℕ) (before : List ℕ) → length (blocks_from l qp original m before) ≡ in_fours.levels
  length_blocks_from m before =
      length_parts 16 (λ b. levels_from l qp original m b (seen l qp original m before b)) 16
      (λ b h. length_levels_from m b (seen l qp original m before b))

  pub length_record_from4 : (m : ℕ) (before : List ℕ) → length (record_from4 l qp original m before) ≡ length_of in_fours
  unfolding record_from4
  length_record_from4 m before = length_record m qp (modes_from l qp original m before) (blocks_from l qp original m before) (length_blocks_from m before)

  pub own_record_from4 : (m : ℕ) (before : List ℕ) → Own (expected_luma m) (record_from4 l qp original m before)
  unfolding record_from4
  own_record_from4 m before = own_record m qp (modes_from l qp original m before) (blocks_from l qp original m before) (length_blocks_from m before)

  pub not_whole_from4 : (m : ℕ) (before : List ℕ) → is_whole (record_from4 l qp original m before) ≡ false
  unfolding record_from4
  not_whole_from4 m before = not_whole m qp (modes_from l qp original m before) (blocks_from l qp original m before)

-- of two planes, from two rebuilt planes before the macroblock
pub same_record : (l : Layout) (qp m : ℕ) (p q before after : List ℕ)
    → ((b : ℕ) → b < 16 → mode_from l p m b (seen l qp p m before b) ≡ mode_from l q m b (seen l qp q m after b))
    → ((b : ℕ) → b < 16 → levels_from l qp p m b (seen l qp p m before b) ≡ levels_from l qp q m b (seen l qp q m after b))
    → record_from4 l qp p m before ≡ record_from4 l qp q m after
unfolding record_from4
same_record l qp m p q before after same-modes same-levels =
    let modes : modes_from l qp p m before ≡ modes_from l qp q m after = tab_same 16 _ _ same-modes in
    let blocks : blocks_from l qp p m before ≡ blocks_from l qp q m after = parts_same 16 _ _ same-levels in
    λ i. record_of m qp (modes i) (blocks i)
