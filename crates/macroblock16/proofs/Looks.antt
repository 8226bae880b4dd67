-- What a macroblock predicted whole makes is a step of it, and looks only at what is present to it.
--     rebuilt_step16_law                             by a record
--     coded_step16_law, record_looks16, sad_looks16  when it is coded: its step, its record and its SAD
--     coded_bytes16                              a plane of bytes stays one
-- Assumes nothing.
use mathlib.Core.Path.{ap}
use mathlib.Core.List.{List}
use Prim.Native.Nat.{ℕ, ◌<◌}
use native.Mathlib.Omega.{arith}
use Rattle.lists.specs.Bytes.{Bytes}
use Rattle.residual_whole.proofs.Samples.{whole_bytes}
use Rattle.record.specs.Records.{record_whole}
use Rattle.picture.specs.declared.Layout.{Layout}
use Rattle.picture.specs.Order.{count_of}
use Rattle.picture.specs.Whole.{gathered_round}
use Rattle.picture.proofs.Round.{gathered_round_looks}
use Rattle.picture.proofs.Steps.{MacroblockStep, LooksFrom}
use Rattle.picture.proofs.Whole.{whole_step, whole_turn_bytes}
use Rattle.macroblock16.specs.Code.{mode_from16, sad_from16, levels_from16, samples_from16, record_from16, coded_step16}
use Rattle.macroblock16.specs.Rebuild.{whole_from, rebuilt_step16}

module _ (l : Layout) (some : 0 < l.width) (m : ℕ) (among : m < count_of l) where
  pub rebuilt_step16_law : (part : List ℕ) → MacroblockStep 16 l m (rebuilt_step16 l m part)
  unfolding rebuilt_step16
  rebuilt_step16_law part = whole_step 16 (omega arith) l some m among (whole_from l part)

  module _ (qp : ℕ) (original : List ℕ) where
    pub coded_step16_law : MacroblockStep 16 l m (coded_step16 l qp original m)
    unfolding coded_step16
    coded_step16_law = whole_step 16 (omega arith) l some m among (samples_from16 l qp original)

    pub record_looks16 : LooksFrom 16 l m (record_from16 l qp original m)
    unfolding record_from16
    record_looks16 p q a =
        ap (λ (n : List ℕ). record_whole m qp (mode_from16 l original m n) (levels_from16 l qp original m n)) (gathered_round_looks l some m among 16 (omega arith) p q a)

    pub sad_looks16 : LooksFrom 16 l m (λ p. sad_from16 l original m (gathered_round 16 l m p))
    sad_looks16 p q a = ap (sad_from16 l original m) (gathered_round_looks l some m among 16 (omega arith) p q a)

pub coded_bytes16 : (l : Layout) (qp : ℕ) (original : List ℕ) (m : ℕ) (before : List ℕ) → Bytes before → Bytes (coded_step16 l qp original m before)
unfolding coded_step16 samples_from16
coded_bytes16 l qp original m before small = whole_turn_bytes 16 (samples_from16 l qp original) (λ m neighbours long near. whole_bytes 16 _ _ _) l m before small
