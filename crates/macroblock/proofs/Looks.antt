-- What a macroblock of either kind makes is a step of it, and looks only at what is present to it.
--     rebuilt_step_law               by a record
--     coded_step_law, record_looks   when it is coded: its step, and its record
--     coded_bytes                a plane of bytes stays one
-- Assumes nothing.
use mathlib.Core.Bool.{Bool, true, false, cond}
use mathlib.Core.List.{List}
use Prim.Native.Nat.{ℕ, ◌<◌, ◌≤◌}
use lib.Dec.{ltb}
use Rattle.lists.specs.Bytes.{Bytes}
use Rattle.quantizer.specs.Range.{highest}
use Rattle.record.specs.Records.{is_whole}
use Rattle.picture.specs.declared.Layout.{Layout}
use Rattle.picture.specs.Order.{count_of}
use Rattle.picture.proofs.Steps.{MacroblockStep, LooksFrom, choice_step}
use Rattle.macroblock4.specs.Rebuild.{rebuilt_step4}
use Rattle.macroblock4.proofs.Looks.{rebuilt_step4_law, coded_step4_law, sads_look4, record_looks4, coded_bytes4}
use Rattle.macroblock16.specs.Rebuild.{rebuilt_step16}
use Rattle.macroblock16.proofs.Looks.{rebuilt_step16_law, coded_step16_law, sad_looks16, record_looks16, coded_bytes16}
use Rattle.macroblock.specs.Code.{record_from, coded_step}
use Rattle.macroblock.specs.Rebuild.{rebuilt_step}
use Rattle.macroblock.proofs.RecordFrom.{whichever, together}

module _ (l : Layout) (some : 0 < l.width) (m : ℕ) (among : m < count_of l) where
  pub rebuilt_step_law : (part : List ℕ) → MacroblockStep 16 l m (rebuilt_step l m part)
  unfolding rebuilt_step
  rebuilt_step_law part = by (is_whole part)
    where
      by : (b : Bool) → MacroblockStep 16 l m (λ plane. cond b (rebuilt_step16 l m part plane) (rebuilt_step4 l m part plane))
      by true = rebuilt_step16_law l some m among part
      by false = rebuilt_step4_law l some m among part

  module _ (qp : ℕ) (original : List ℕ) where
    chooses_looks : LooksFrom 16 l m (λ p. together l qp original m p)
    chooses_looks p q a = λ i. ltb (sad_looks16 l some m among qp original p q a i) (sads_look4 l some m among qp original p q a i)

    pub coded_step_law : MacroblockStep 16 l m (coded_step l qp original m)
    unfolding coded_step
    coded_step_law =
        choice_step 16 l m (λ p. together l qp original m p) chooses_looks (coded_step16_law l some m among qp original) (coded_step4_law l some m among qp original)

    pub record_looks : LooksFrom 16 l m (record_from l qp original m)
    unfolding record_from
    record_looks p q a =
        λ i. cond (chooses_looks p q a i) (record_looks16 l some m among qp original p q a i) (record_looks4 l some m among qp original p q a i)

pub coded_bytes : (l : Layout) (qp : ℕ) → qp ≤ highest → (original : List ℕ) → Bytes original → (m : ℕ) (before : List ℕ) → Bytes before → Bytes (coded_step l qp original m before)
unfolding coded_step
coded_bytes l qp legal original bytes m before small =
    whichever Bytes (together l qp original m before) (coded_bytes16 l qp original m before small) (coded_bytes4 l qp legal original bytes m before small)
