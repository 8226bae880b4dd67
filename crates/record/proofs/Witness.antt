-- Marks and cut files at which a faulty definition would answer otherwise, computed from the definitions that the contracts cite. Assumes nothing.
use mathlib.Core.Path.{◌≡◌, refl}
use mathlib.Core.Bool.{true, false}
use mathlib.Core.List.{List, [], ◌∷◌}
use Prim.Native.Nat.{ℕ, ◌+◌, ◌*◌}
use lib.IntN.{pos}
use lib.ListN.{replicate, set}
use Rattle.lists.specs.Chain.{pass, stop, chain}
use Rattle.lists.specs.Fold.{fold}
use Rattle.lists.specs.Tab.{tab}
use Rattle.record.specs.Faults.{broken, form_tests, form_of, walk_of}
use Rattle.record.specs.Kinds.{kind_of, record_length, expected_luma, expected_in}
use Rattle.octets.specs.Modes.{packed}
use Rattle.octets.specs.Numbers.{level_bytes}
use Rattle.record.specs.Records.{record_of, record_with, length_in}
use Rattle.octets.specs.Sum.{summed, sum_holds}
use Rattle.octets.specs.Sum.{sum_of}
use Rattle.refusal.specs.declared.Fault.TheVariants.{CutMark, Mark, CutRest, Number, Sum}

-- a record's length by its mark: "527 bytes", "520 bytes", "265 bytes", and none
pub lengths : record_length (77 * 256 + 66) ∷ record_length (77 * 256 + 54) ∷ record_length (77 * 256 + 67) ∷ record_length (77 * 256 + 68) ∷ [] ≡ 527 ∷ 520 ∷ 265 ∷ 0 ∷ []
unfolding kind_of
lengths = refl

-- a file of a head's length and one byte, an unknown mark, a mark alone
pub cuts :
    walk_of false 1 (0 ∷ 77 ∷ []) 1 ∷ walk_of false 1 (0 ∷ 77 ∷ 0 ∷ []) 1 ∷ walk_of false 1 (0 ∷ 77 ∷ 54 ∷ []) 1 ∷ walk_of false 1 [] 1 ∷ []
    ≡ broken CutMark 1 ∷ broken Mark 1 ∷ broken CutRest 1 ∷ broken CutMark 1 ∷ []
unfolding walk_of fold form_of kind_of length_in expected_in
cuts = refl

-- a record of DC blocks and no levels, and with its last byte, the low one of its sum, changed
abbrev plain : List ℕ
plain = record_of 0 28 (replicate 16 2) (replicate 256 (pos 0))

abbrev miscounted : List ℕ
miscounted = set plain 526 0

-- number and sum are tested, and the number first
pub number_before_sum :
    chain (form_tests (expected_luma 0) plain) ∷ chain (form_tests (expected_luma 1) plain) ∷ chain (form_tests (expected_luma 0) miscounted) ∷ chain (form_tests (expected_luma 1) miscounted) ∷ []
    ≡ pass ∷ stop Number ∷ stop Sum ∷ stop Number ∷ []
unfolding record_of record_with summed packed level_bytes tab sum_of sum_holds kind_of length_in
number_before_sum = refl

-- a chroma record's mark where it stands first in a mono file, second in a mono file and in a colour file, and another mark in its place there
pub chroma_in_its_place :
    chain (form_tests (expected_in false 0) (77 ∷ 67 ∷ [])) ∷ chain (form_tests (expected_in false 1) (77 ∷ 67 ∷ []))
    ∷ chain (form_tests (expected_in true 0) (77 ∷ 67 ∷ [])) ∷ chain (form_tests (expected_in true 1) (77 ∷ 67 ∷ []))
    ∷ chain (form_tests (expected_in true 1) (77 ∷ 66 ∷ [])) ∷ []
    ≡ stop Mark ∷ stop Mark ∷ stop Mark ∷ stop CutRest ∷ stop Mark ∷ []
unfolding kind_of length_in expected_in
chroma_in_its_place = refl
