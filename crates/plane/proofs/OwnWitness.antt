-- Two planes of two macroblocks, both grey at the left, at QP 28 (that record 1 differs, `own_samples` of `macroblock4` shows).
--     left_same        they agree in macroblock 0
--     left_record      so they have the same record 0
-- And what is left where the coder has written, at QP 28, by what `macroblock` evaluates:
--     grey_written     a macroblock of 138: rebuilt sample 0 is 136
--     first_comes_first     of two macroblocks the first record has the number 0
--     rest_kept        a macroblock whose first block is lighter is coded by 16x16, and what stood behind its 520 bytes is there still
-- Assumes nothing.
use mathlib.Core.Path.{◌≡◌, sym, ap, ◌∙◌}
use mathlib.Core.List.{List}
use Prim.Native.Nat.{ℕ, ◌+◌, ◌*◌, ◌/◌, ◌%◌, ◌<◌}
use native.Mathlib.Omega.{arith}
use borrow.Author.Tests.{lt-ltb}
use lib.Arith.{digits_mod}
use lib.ListN.{length, drop, get_or, replicate, get_or-append}
use lib.Seq.{get_or-append-add, get_or-drop}
use Rattle.lists.specs.Fold.{fold}
use Rattle.lists.specs.Parts.{parts, over}
use Rattle.lists.specs.Tab.{tab, grid}
use Rattle.lists.proofs.Tab.{get_d_tab, tab_same}
use Rattle.octets.specs.Sum.{summed}
use Rattle.head.specs.Entry.{size_holds, rows_hold}
use Rattle.head.specs.Heads.{old_head, head_of}
use Rattle.record.specs.Kinds.{expected_in}
use Rattle.record.specs.Records.{number_in}
use Rattle.picture.specs.Order.{column_in, row_in, block_column, block_row}
use Rattle.picture.specs.Plane.{block_at}
use Rattle.picture.proofs.Blocks.{inner_facts}
use Rattle.macroblock4.specs.Inputs.{light_corner, beside_at, beside}
use Rattle.macroblock.proofs.Witness.{grey_step, corner_record}
use Rattle.plane.specs.Decode.{cleared, record_in}
use Rattle.plane.specs.Code.{in_slices, behind_head, plane_before, file_from, coded_file, CodesPlane}
use Rattle.plane.proofs.CodedFile.{record_on, own_on}
use Rattle.plane.proofs.OwnRecord.{SameTo, same_records}
use Rattle.plane.proofs.Trip.{own_record_in}
use Rattle.std.specs.Prelude.{Result}
use Rattle.refusal.specs.declared.Refusal.{Refusal}

-- a place at the left
left_at : (right row column : ℕ) → row < 16 → column < 16 → get_or (beside 128 right) (row * 32 + column) 0 ≡ 128
left_at right row column hr hc =
    let h : column < 32 = omega arith in
    get_d_tab 512 (beside_at 128 right) (row * 32 + column) 0 (omega arith) ∙ rw (digits_mod row {m = 32} {r = column} h, lt-ltb column 16 hc)

pub left_same : SameTo (in_slices 2 1 1) 1 (beside 128 128) (beside 128 138)
unfolding block_at grid block_column block_row
left_same m hm b hb =
    let f = inner_facts b hb in
    tab_same 16 _ _
    (λ k hk.
    let row = 16 * (m / 2) + 4 * row_in b + k / 4 in
    let column = 16 * (m % 2) + 4 * column_in b + k % 4 in
    let r : row < 16 = omega (arith, f.low) in
    let c : column < 16 = omega (arith, f.thin) in
    left_at 128 row column r c ∙ sym (left_at 138 row column r c))

-- record m of such a plane
abbrev record_beside : (right m : ℕ) → List ℕ
record_beside right m = record_on (in_slices 2 1 1) 28 (beside 128 right) (cleared 512) m

pub left_record : record_beside 128 0 ≡ record_beside 138 0
left_record = same_records (in_slices 2 1 1) 28 (cleared 512) (beside 128 128) (beside 128 138) 1 left_same 0 (omega arith)

-- ---- what is left where the coder has written

-- a macroblock of 138 at QP 28, in areas full of 7, as the contract has it: the first rebuilt sample
pub grey_written : (r : Result ℕ Refusal) (file' rebuilt' : List ℕ) → CodesPlane 1 1 1 28 (replicate 256 138) (replicate 535 7) (replicate 256 7) r file' rebuilt' → get_or rebuilt' 0 0 ≡ 136
unfolding size_holds rows_hold plane_before fold
grey_written r file' rebuilt' c = ap (λ (p : List ℕ). get_or p 0 0) c.stored ∙ grey_step

-- of two macroblocks the record of macroblock 0 comes first: its number is 0
pub first_comes_first : number_in (record_in (coded_file (in_slices 2 1 1) 28 (beside 128 138)) (behind_head (in_slices 2 1 1)) 0) ≡ 0
unfolding expected_in
first_comes_first =
    ap number_in (own_record_in (in_slices 2 1 1) 28 (beside 128 138) (cleared 512) 0 (omega arith)) ∙ (own_on (in_slices 2 1 1) 28 (beside 128 138) (cleared 512) 0).numbered

-- ---- where 16x16 is taken

-- the file of that macroblock: the head, and one record
abbrev corner_file : List ℕ
corner_file = coded_file (in_slices 1 1 1) 28 light_corner

corner_file_law : (get_or corner_file 9 0 ≡ 54) × (length corner_file ≡ 528)
unfolding file_from plane_before parts fold head_of old_head summed
corner_file_law = (corner_record.0, omega (arith, corner_record.1))

-- what stands behind a file in its area
behind : (file area : List ℕ) (n : ℕ) → length file ≡ n → get_or (over file area) n 0 ≡ get_or area n 0
behind file area n e =
    let z : n ≡ length file + 0 = omega arith in
    ap (λ (k : ℕ). get_or (over file area) k 0) z
    ∙ get_or-append-add file (drop (length file) area) 0 0 ∙ get_or-drop (length file) area 0 0 ∙ ap (λ (k : ℕ). get_or area k 0) (sym z)

-- as the contract has it, in an area full of 7: the mark of 16x16, and the first byte behind its record
pub rest_kept : (r : Result ℕ Refusal) (file' rebuilt' : List ℕ) → CodesPlane 1 1 1 28 light_corner (replicate 535 7) (replicate 256 7) r file' rebuilt'
    → (get_or file' 9 0 ≡ 54) × (get_or file' 528 0 ≡ 7)
unfolding size_holds rows_hold grid tab
rest_kept r file' rebuilt' c =
    let area : List ℕ = replicate 535 7 in
    let long = corner_file_law.1 in (
      ap (λ (f : List ℕ). get_or f 9 0) c.filed ∙ get_or-append corner_file (drop (length corner_file) area) 0 9 (omega (arith, long)) ∙ corner_file_law.0,
      ap (λ (f : List ℕ). get_or f 528 0) c.filed ∙ behind corner_file area 528 long,
    )
