-- The record of a coded macroblock, of whichever kind.
--     whichever                                  what holds of both candidates holds of the one that is taken
--     length_record_from, own_record_from        it has at most 527 bytes; its form is fine
-- Assumes nothing.
use mathlib.Core.Bool.{Bool, true, false, cond}
use mathlib.Core.List.{List}
use Prim.Native.Nat.{ℕ, ◌≤◌}
use native.Mathlib.Omega.{arith}
use lib.Dec.{ltb}
use lib.ListN.{length}
use Rattle.record.specs.Kinds.{in_fours, length_of, expected_luma}
use Rattle.record.proofs.Back.{Own}
use Rattle.picture.specs.declared.Layout.{Layout}
use Rattle.picture.specs.Whole.{gathered_round}
use Rattle.macroblock4.specs.Code.{sads_from}
use Rattle.macroblock4.proofs.RecordFrom.{length_record_from4, own_record_from4}
use Rattle.macroblock16.specs.Code.{sad_from16}
use Rattle.macroblock16.proofs.CodedRecord.{length_record_from16, own_record_from16}
use Rattle.macroblock.specs.Code.{record_from}

pub whichever : {A : Type 0} (P : A → Type 0) (b : Bool) {x y : A} → P x → P y → P (cond b x y)
whichever P true p q = p
whichever P false p q = q

module _ (l : Layout) (qp : ℕ) (original : List ℕ) (m : ℕ) (before : List ℕ) where
  -- whether 16x16 is taken
  abbrev pub together : Bool
  together = ltb (sad_from16 l original m (gathered_round 16 l m before)) (sads_from l qp original m before)

  pub length_record_from : length (record_from l qp original m before) ≤ length_of in_fours
  unfolding record_from
  length_record_from =
      whichever (λ (r : List ℕ). length r ≤ length_of in_fours) together
      (omega (arith, length_record_from16 l qp original m before)) (omega (arith, length_record_from4 l qp original m before))

  pub own_record_from : Own (expected_luma m) (record_from l qp original m before)
  unfolding record_from
  own_record_from = whichever (Own (expected_luma m)) together (own_record_from16 l qp original m before) (own_record_from4 l qp original m before)
