-- The kinds of records that follow a head: by its mark a record says of which kind it is, and so how long (01, "Plane and record
-- file"; 02, requests 01 and 05), and which record is expected where. Assumes nothing.
use Rattle.std.specs.Prelude.{Option, None, Some, Bool, true, false, cond, not, List, [], ◌∷◌, ℕ, ◌+◌, ◌*◌, ◌/◌, ◌%◌, eqb}
use Rattle.record.specs.declared.Expected.{Expected}
use Rattle.record.specs.declared.Kind.{Kind}

-- front, levels of two bytes each, sum
abbrev pub length_of : Kind → ℕ
length_of kind = kind.front + 2 * kind.levels + 2

-- "Macroblock ..: 4D 42, number (2), QP (1), modes (8), levels (512), sum": before the levels stand five bytes (mark, number and QP) and
-- the eight of the modes
abbrev pub in_fours : Kind
in_fours = record { mark = 77 * 256 + 66; front = 5 + 8; levels = 256 }

-- "520 bytes: mark 4D 36, number, QP, mode, 16 DC levels, 16 times 15 AC levels, sum" (02, request 01): before the levels stand the same
-- five bytes and the mode
abbrev pub in_whole : Kind
in_whole = record { mark = 77 * 256 + 54; front = 5 + 1; levels = 256 }

-- "A chroma record, 265 bytes, mark 4D 43, .. with number, both offsets (signed bytes), mode, 64 levels of Cb then of Cr .., sum" (02,
-- request 05): before the levels stand four bytes (mark and number), the two offsets and the mode
abbrev pub in_chroma : Kind
in_chroma = record { mark = 77 * 256 + 67; front = 4 + 3; levels = 128 }

abbrev pub kinds : List Kind
kinds = in_fours ∷ in_whole ∷ in_chroma ∷ []

-- a mark may be none of a kind's
pub data Known : Type 0 where
  unknown : Known
  known : Kind → Known

-- the kind that has a mark
abbrev pub kind_in : List Kind → ℕ → Known
kind_in [] mark = unknown
kind_in (k ∷ ks) mark = cond (eqb mark k.mark) (known k) (kind_in ks mark)

unfoldable pub kind_of : ℕ → Known
kind_of mark = kind_in kinds mark

-- as the code has it
abbrev pub known_by : Option Kind → Known
known_by None = unknown
known_by (Some k) = known k

abbrev pub length_known : Known → ℕ
length_known unknown = 0
length_known (known k) = length_of k

-- how long a record is, by its mark; 0 where no record has such a mark
abbrev pub record_length : ℕ → ℕ
record_length mark = length_known (kind_of mark)

-- ---- what is expected

abbrev pub is_chroma : Kind → Bool
is_chroma kind = eqb kind.mark in_chroma.mark

-- a record's mark is as expected: a kind's, and the chroma kind's exactly where a chroma record is to stand; "11 where the record is
-- missing or not expected" (02, request 05)
abbrev pub as_expected : (chroma : Bool) → Known → Bool
as_expected chroma unknown = false
as_expected chroma (known kind) = cond chroma (is_chroma kind) (not (is_chroma kind))

-- the luma record of macroblock m, of either kind, and its chroma record
abbrev pub expected_luma : ℕ → Expected
expected_luma m = record { chroma = false; number = m }

abbrev pub expected_chroma : ℕ → Expected
expected_chroma m = record { chroma = true; number = m }

-- "A chroma record .. follows every luma record of a colour file" (02, request 05): so many records are a macroblock's
abbrev pub per_macroblock : (colour : Bool) → ℕ
per_macroblock colour = cond colour 2 1

-- and this one is the file's record k
unfoldable pub expected_in : (colour : Bool) → (k : ℕ) → Expected
expected_in false k = expected_luma k
expected_in true k = record { chroma = eqb (k % 2) 1; number = k / 2 }
