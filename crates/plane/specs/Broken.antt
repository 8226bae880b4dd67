-- What the decoder says is broken in a file: "9 for a file too short, too long or with a cut head; 11 for a wrong mark, 12 for a wrong number, 13
-- for a wrong sum, each with the place of the offending field and not of the record. .. per record 9 if the mark is cut, 11, 9 if the rest is
-- cut, 12, 13; the head the same without 12. 9 keeps its place" (02, Req 03). Assumes nothing.
use Rattle.std.specs.Prelude.{◌≡◌, true, false, List, ℕ, ◌+◌, ◌-◌, ◌<◌, ◌≤◌, length, take, drop}
use Rattle.lists.specs.Chain.{pass, stop, chain}
use Rattle.refusal.specs.declared.Fault.{Fault}
use Rattle.refusal.specs.declared.Fault.TheVariants.{CutMark, Mark, CutRest, Number, Sum}
use Rattle.octets.specs.Numbers.{number_at}
use Rattle.octets.specs.Sum.{sum_holds}
use Rattle.head.specs.Entry.{head_tests, long_at}
use Rattle.head.specs.Heads.{is_head}
use Rattle.record.specs.Faults.{form_tests}
use Rattle.record.specs.Kinds.{expected_in}
use Rattle.record.specs.Records.{colour_at, length_from, record_place}
use Rattle.record.specs.declared.Expected.{Expected}
use Rattle.picture.specs.Order.{count_of}
use Rattle.picture.specs.Plane.{plane_length}
use Rattle.plane.specs.Decode.{luma_number, layout_in}

-- where record k begins
abbrev pub place_in : List ℕ → (k : ℕ) → ℕ
place_in file k = record_place k file (long_at file)

-- what is expected there, and how many records there are to be: in a colour file a chroma record "follows every luma record" (02, Req 05)
abbrev pub expected_of : List ℕ → (k : ℕ) → Expected
expected_of file k = expected_in (colour_at (long_at file) file) k

abbrev pub records_of : List ℕ → ℕ
records_of file = luma_number file (long_at file) (count_of (layout_in file))

-- the head and the plane's length are fine, and so are the first n records
pub record FineTo (file before : List ℕ) (n : ℕ) : Type 0 where
  pub head : chain (head_tests file) ≡ pass
  pub plane : length before ≡ plane_length 16 (layout_in file)
  pub fine : (k : ℕ) → k < n → chain (form_tests (expected_of file k) (drop (place_in file k) file)) ≡ pass

-- record m is the first that is not, and this is the first field of it that is not
pub record FirstBroken (file before : List ℕ) (fault : Fault) (m : ℕ) : Type 0 where
  pub before_it : FineTo file before m
  pub among : m < records_of file
  pub faulty : chain (form_tests (expected_of file m) (drop (place_in file m) file)) ≡ stop fault

-- 11: the head's mark, at 0, or a record's, at its first byte
pub data MarkRefused (file before : List ℕ) (place : ℕ) : Type 0 where
  head_mark : 2 ≤ length file → is_head (number_at 0 file) ≡ false → place ≡ 0 → MarkRefused file before place
  record_mark : (m : ℕ) → FirstBroken file before Mark m → place ≡ place_in file m → MarkRefused file before place

-- 12: a record's number, two bytes behind its first
pub data NumberRefused (file before : List ℕ) (place : ℕ) : Type 0 where
  record_number : (m : ℕ) → FirstBroken file before Number m → place ≡ place_in file m + 2 → NumberRefused file before place

-- 13: the head's sum, at 6 or 8, or a record's: the last two bytes
pub data SumRefused (file before : List ℕ) (place : ℕ) : Type 0 where
  head_sum :
      2 ≤ length file → is_head (number_at 0 file) ≡ true → long_at file ≤ length file → sum_holds (take (long_at file) file) ≡ false
      → place ≡ long_at file - 2 → SumRefused file before place
  record_sum :
      (m : ℕ) → FirstBroken file before Sum m → place ≡ place_in file m + length_from (place_in file m) file - 2 → SumRefused file before place

-- 9: a cut head, at 0; a record that is cut in its mark or behind it, or bytes after the last record, at the file's length
pub data FormRefused (file before : List ℕ) (place : ℕ) : Type 0 where
  head_cut : length file < 2 → place ≡ 0 → FormRefused file before place
  head_short : 2 ≤ length file → is_head (number_at 0 file) ≡ true → length file < long_at file → place ≡ 0 → FormRefused file before place
  mark_cut : (m : ℕ) → FirstBroken file before CutMark m → place ≡ length file → FormRefused file before place
  rest_cut : (m : ℕ) → FirstBroken file before CutRest m → place ≡ length file → FormRefused file before place
  left_over :
      FineTo file before (records_of file) → place_in file (records_of file) < length file → place ≡ length file
      → FormRefused file before place
