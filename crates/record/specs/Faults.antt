-- The form of a file's records: "Per record now cut mark, mark, cut rest, number, sum; bytes after the last record come at the end. A cut or
-- surplus has the file length as place" (02, request 01); mark, number and sum have "the place of the offending field" (02, request 03);
-- the mark is also wrong "where the record is missing or not expected" (02, request 05).
-- Assumes nothing.
use Rattle.std.specs.Prelude.{Bool, false, List, [], ◌∷◌, ℕ, ◌+◌, eqb, leb, length, drop}
use Rattle.lists.specs.Chain.{Test, test, Verdict, pass, stop, chain}
use Rattle.lists.specs.Fold.{fold}
use Rattle.refusal.specs.Faults.{refusal_of}
use Rattle.refusal.specs.declared.Refusal.TheVariants as refusal
use Rattle.refusal.specs.declared.Refusal.{Refusal}
use Rattle.record.specs.Kinds.{kind_of, as_expected, expected_in}
use Rattle.octets.specs.Numbers.{number_at}
use Rattle.record.specs.Records.{number_in, length_in, first_in, length_from}
use Rattle.octets.specs.Sum.{sum_holds}
use Rattle.refusal.specs.declared.Fault.TheVariants.{CutMark, Mark, CutRest, Number, Sum}
use Rattle.refusal.specs.declared.Fault.{Fault}
use Rattle.record.specs.declared.Expected.{Expected}
use Rattle.std.specs.Prelude.{Err, Ok, Result}
use Rattle.record.specs.declared.Faulty.{Faulty}

-- bytes after the last record, in a file of so many bytes (02, request 01)
abbrev pub surplus : ℕ → Refusal
surplus total = refusal.Form total

-- the tests of the form of the record that these bytes begin with: "cut mark, mark, cut rest, number, sum" (02, request 01)
abbrev pub form_tests : Expected → List ℕ → List (Test Fault)
form_tests expected bytes =
    test (leb 2 (length bytes)) CutMark
    ∷ test (as_expected expected.chroma (kind_of (number_at 0 bytes))) Mark
    ∷ test (leb (length_in bytes) (length bytes)) CutRest
    ∷ test (eqb (number_in bytes) expected.number) Number
    ∷ test (sum_holds (first_in bytes)) Sum ∷ []

-- the record's length where its form is fine, or its fault
abbrev pub formed : Verdict Fault → ℕ → Result ℕ Fault
formed pass long = Ok long
formed (stop fault) long = Err fault

unfoldable pub form_of : Expected → List ℕ → Result ℕ Fault
form_of expected bytes = formed (chain (form_tests expected bytes)) (length_in bytes)

-- a walk that a fault has stopped at a place
abbrev pub broken : Fault → (place : ℕ) → Result ℕ Faulty
broken fault place = Err (record { fault = fault; place = place })

-- the walk goes on behind a record, or a fault stops it at the record's first byte
abbrev pub stepped : Result ℕ Fault → ℕ → Result ℕ Faulty
stepped (Ok long) place = Ok (place + long)
stepped (Err fault) place = broken fault place

-- one record more, unless a fault has stopped the walk
abbrev pub onward : (colour : Bool) → List ℕ → ℕ → Result ℕ Faulty → Result ℕ Faulty
onward colour file k (Ok place) = stepped (form_of (expected_in colour k) (drop place file)) place
onward colour file k (Err it) = Err it

-- the walk over the records 0, .., n - 1 of a file, the first of which begins at a place:
-- the place behind the last of them, or the first faulty one's fault and first byte
unfoldable pub walk_of : (colour : Bool) → ℕ → List ℕ → ℕ → Result ℕ Faulty
walk_of colour n file start = fold n (onward colour file) (Ok start)

-- behind the last record, at this place, nothing is left (02, request 01)
abbrev pub left_tests : List ℕ → ℕ → List (Test Refusal)
left_tests file place = test (leb (length file) place) (surplus (length file)) ∷ []

-- what a walk over a file comes to, as tests: a fault that has stopped it, or that nothing is left
abbrev pub walk_tests : List ℕ → Result ℕ Faulty → List (Test Refusal)
walk_tests file (Ok place) = left_tests file place
walk_tests file (Err it) = test false (refusal_of it.fault it.place (length_from it.place file) (length file)) ∷ []

-- and what it sends back
abbrev pub walk_said : List ℕ → Result ℕ Faulty → Verdict Refusal
walk_said file w = chain (walk_tests file w)
