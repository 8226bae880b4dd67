-- A record carries its own macroblock: of two planes that agree in macroblock m, from one rebuilt plane before it.
--     step_own, record_own                     its step and its record are the same
--     step_by_samples, record_by_samples       so they are where the planes agree at every sample of the macroblock
-- Assumes nothing.
use mathlib.Core.Path.{◌≡◌}
use mathlib.Core.Bool.{cond}
use mathlib.Core.List.{List}
use Prim.Native.Nat.{ℕ, ◌<◌}
use lib.Dec.{ltb}
use Rattle.lists.proofs.Alike.{Agree}
use Rattle.picture.specs.declared.Layout.{Layout}
use Rattle.picture.specs.Order.{count_of}
use Rattle.picture.specs.Plane.{plane_length, block_of}
use Rattle.picture.specs.Whole.{whole_of, gathered_round}
use Rattle.picture.proofs.Owner.{macroblock_owning}
use Rattle.picture.proofs.Whole.{same_blocks, same_whole}
use Rattle.macroblock4.proofs.Own.{step_own4, sads_own4, record_own4}
use Rattle.macroblock16.proofs.Own.{step_own16, sad_own16, record_own16}
use Rattle.macroblock.specs.Code.{record_from, coded_step}
use Rattle.macroblock.proofs.RecordFrom.{together}

module _ (l : Layout) (qp : ℕ) (p q : List ℕ) (m : ℕ) (same : (b : ℕ) → b < 16 → block_of 4 l m b p ≡ block_of 4 l m b q) (before : List ℕ) where
  whole_same : whole_of 16 l m p ≡ whole_of 16 l m q
  whole_same = same_whole l m p q same

  chooses_own : together l qp p m before ≡ together l qp q m before
  chooses_own = λ i. ltb (sad_own16 l p q m whole_same (gathered_round 16 l m before) i) (sads_own4 l qp p q m same before i)

  pub step_own : coded_step l qp p m before ≡ coded_step l qp q m before
  unfolding coded_step
  step_own = λ i. cond (chooses_own i) (step_own16 l p q m whole_same qp before i) (step_own4 l qp p q m same before i)

  pub record_own : record_from l qp p m before ≡ record_from l qp q m before
  unfolding record_from
  record_own = λ i. cond (chooses_own i) (record_own16 l p q m whole_same qp before i) (record_own4 l qp p q m same before i)

module _ (l : Layout) (some : 0 < l.width) (qp : ℕ) (p q : List ℕ) (m : ℕ) (among : m < count_of l) (alike : Agree 0 (plane_length 16 l) (λ i. macroblock_owning 16 l i ≡ m) p q) (before : List ℕ) where
  pub step_by_samples : coded_step l qp p m before ≡ coded_step l qp q m before
  step_by_samples = step_own l qp p q m (same_blocks l some m among p q alike) before

  pub record_by_samples : record_from l qp p m before ≡ record_from l qp q m before
  record_by_samples = record_own l qp p q m (same_blocks l some m among p q alike) before
