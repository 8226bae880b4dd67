-- Inputs at which faults would answer otherwise, by evaluation.
--     refusal_writes_nothing   a file of no byte leaves the plane as it was
--     length_before_quantizer  QP 52 and no plane: LENGTH
--     one_is_accepted          a picture of one macroblock at QP 51 is coded, not refused
--     plane_before_file        of a file that is a head alone and of no plane: LENGTH, not FORM
--     forms_before_contents    record 0 has QP 52 and record 1 a wrong mark: MARK, with the place of record 1
-- Assumes nothing.
use mathlib.Core.Path.{◌≡◌, refl}
use mathlib.Core.List.{List, [], ◌∷◌, ◌++◌}
use Prim.Native.Nat.{ℕ}
use lib.IntN.{pos}
use lib.ListN.{replicate, set}
use Rattle.lists.specs.Fold.{fold}
use Rattle.lists.specs.Tab.{tab}
use Rattle.lists.specs.Chain.{pass, chain}
use Rattle.refusal.specs.Number.{number, place}
use Rattle.head.specs.Entry.{size_holds, rows_hold, rows_at}
use Rattle.record.specs.Faults.{form_of, walk_of}
use Rattle.record.specs.Kinds.{kind_of, expected_in}
use Rattle.octets.specs.Modes.{packed}
use Rattle.octets.specs.Numbers.{level_bytes}
use Rattle.head.specs.Heads.{old_head, head_of, length_by}
use Rattle.octets.specs.Sum.{summed, sum_holds}
use Rattle.record.specs.Records.{record_of, record_with, length_in, colour_at}
use Rattle.octets.specs.Sum.{sum_of}
use Rattle.plane.specs.Code.{code_plane_tests}
use Rattle.plane.specs.Decode.{decode_tests, Decodes}
use Rattle.std.specs.Prelude.{Result}
use Rattle.refusal.specs.declared.Refusal.{Refusal}

pub refusal_writes_nothing : (r : Result (Unit {0}) Refusal) (after : List ℕ) → Decodes [] (7 ∷ []) r after → after ≡ 7 ∷ []
refusal_writes_nothing r after p = p.wrote

pub length_before_quantizer : number (chain (code_plane_tests 1 1 1 52 [] [] [])) ≡ 1
unfolding size_holds rows_hold
length_before_quantizer = refl

pub one_is_accepted : chain (code_plane_tests 1 1 1 51 (replicate 256 138) (replicate 535 7) (replicate 256 7)) ≡ pass
unfolding size_holds rows_hold
one_is_accepted = refl

pub plane_before_file : number (chain (decode_tests (head_of 1 1 1) [])) ≡ 1
unfolding head_of old_head summed sum_of sum_holds size_holds rows_hold rows_at length_by
plane_before_file = refl

-- two records of DC blocks and no levels, and the second with another mark
abbrev two_records : List ℕ
two_records = head_of 2 1 1 ++ record_of 0 52 (replicate 16 2) (replicate 256 (pos 0)) ++ set (record_of 1 28 (replicate 16 2) (replicate 256 (pos 0))) 0 0

abbrev answered_of : List ℕ → List ℕ
answered_of file = number (chain (decode_tests file (replicate 512 7))) ∷ place (chain (decode_tests file (replicate 512 7))) ∷ []

pub forms_before_contents : answered_of two_records ≡ 11 ∷ 535 ∷ []
unfolding head_of old_head summed sum_of sum_holds size_holds rows_hold rows_at length_by walk_of fold form_of kind_of length_in record_of record_with packed level_bytes tab colour_at expected_in
forms_before_contents = refl
