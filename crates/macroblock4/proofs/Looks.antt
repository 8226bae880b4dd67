-- What a macroblock of 4x4 blocks makes is a step of it, and looks only at what is present to it.
--     rebuilt_step4_law               by a record
--     coded_step4_law, sads_look4, record_looks4   when it is coded: its step, the sum of its SADs, and its record
--     coded_bytes4                a plane of bytes stays one
-- Assumes nothing.
use mathlib.Core.Path.{ap}
use mathlib.Core.List.{List}
use Prim.Native.Nat.{ℕ, ◌<◌, ◌≤◌}
use Rattle.lists.specs.Bytes.{Bytes}
use Rattle.lists.proofs.Total.{total_same}
use Rattle.quantizer.specs.Range.{highest}
use Rattle.picture.specs.declared.Layout.{Layout}
use Rattle.picture.specs.Order.{count_of, block_count}
use Rattle.picture.proofs.Bytes.{turns_bytes}
use Rattle.picture.proofs.Start.{by_one, turns_step, turns_look}
use Rattle.picture.proofs.Steps.{MacroblockStep, LooksFrom}
use Rattle.macroblock4.specs.Code.{mode_from, sad_from, levels_from, samples_from, seen, sads_from, record_from4, coded_step4}
use Rattle.macroblock4.specs.Rebuild.{block_from, rebuilt_step4}
use Rattle.macroblock4.proofs.CodedRecord.{makes_bytes}
use Rattle.macroblock4.proofs.RecordFrom.{same_record}

module _ (l : Layout) (some : 0 < l.width) (m : ℕ) (among : m < count_of l) where
  pub rebuilt_step4_law : (part : List ℕ) → MacroblockStep 16 l m (rebuilt_step4 l m part)
  unfolding rebuilt_step4
  rebuilt_step4_law part = turns_step 4 tt (block_from l part) l some m among

  module _ (qp : ℕ) (original : List ℕ) where
    pub coded_step4_law : MacroblockStep 16 l m (coded_step4 l qp original m)
    unfolding coded_step4
    coded_step4_law = turns_step 4 tt (samples_from l qp original) l some m among

    seen_looks : (b : ℕ) → b < 16 → LooksFrom 16 l m (λ p. seen l qp original m p b)
    unfolding seen block_count
    seen_looks b h = turns_look 4 tt (samples_from l qp original) l some m among b b (by_one b) h

    pub sads_look4 : LooksFrom 16 l m (sads_from l qp original m)
    unfolding sads_from
    sads_look4 p q a = total_same 16 _ _ (λ b h. ap (sad_from l original m b) (seen_looks b h p q a))

    pub record_looks4 : LooksFrom 16 l m (record_from4 l qp original m)
    record_looks4 p q a =
        same_record l qp m original original p q (λ b h. ap (mode_from l original m b) (seen_looks b h p q a)) (λ b h. ap (levels_from l qp original m b) (seen_looks b h p q a))

pub coded_bytes4 : (l : Layout) (qp : ℕ) → qp ≤ highest → (original : List ℕ) → Bytes original → (m : ℕ) (before : List ℕ) → Bytes before → Bytes (coded_step4 l qp original m before)
unfolding coded_step4 block_count
coded_bytes4 l qp legal original bytes m before small = turns_bytes 4 (samples_from l qp original) (makes_bytes l qp legal original bytes) l m 16 before small
