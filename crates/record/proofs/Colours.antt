-- Whether a file is mono or colour, by the mark behind its first record.
--     longest_from                   no record is longer than one of the 4x4 kind
--     mono_cut, colour_there         what code finds behind the first record
-- Assumes nothing.
use mathlib.Core.Path.{◌≡◌}
use mathlib.Core.Bool.{Bool, true, false, cond}
use mathlib.Core.List.{List}
use Prim.Native.Nat.{ℕ, ◌+◌, ◌-◌, ◌<◌, ◌≤◌}
use native.Mathlib.Omega.{arith}
use borrow.Author.Tests.{le-leb, lt-leb}
use lib.Dec.{eqb, leb}
use lib.ListN.{length, drop, length-drop}
use Rattle.octets.specs.Numbers.{number_at}
use Rattle.record.specs.Kinds.{length_of, in_fours, in_chroma, record_length}
use Rattle.record.specs.Records.{length_in, length_from, colour_at}
use Rattle.record.proofs.Marks.{longest_marked}
use Rattle.record.proofs.Walks.{mark_drop}

module _ (file : List ℕ) (place : ℕ) {long : ℕ} (is : long ≡ length_from place file) where
  pub longest_from : long ≤ length_of in_fours
  unfolding length_in
  longest_from = rw is (by (leb 2 (length (drop place file))))
    where
      by : (b : Bool) → cond b (record_length (number_at 0 (drop place file))) 0 ≤ length_of in_fours
      by true = longest_marked (number_at 0 (drop place file))
      by false = omega arith

  module _ {rest : ℕ} (left : rest ≡ length file - place) where
    pub mono_cut : rest < long + 2 → colour_at place file ≡ false
    unfolding colour_at
    mono_cut h =
        let d = length-drop (place + length_from place file) file in
        simp (lt-leb 2 (length (drop (place + length_from place file) file)) (omega (arith, d, is, left)))

    pub colour_there : long + 2 ≤ rest → colour_at place file ≡ eqb (number_at (place + long) file) in_chroma.mark
    unfolding colour_at
    colour_there h =
        let d = length-drop (place + length_from place file) file in
        rw (le-leb 2 (length (drop (place + length_from place file) file)) (omega (arith, d, is, left)), mark_drop file (place + length_from place file), is)
