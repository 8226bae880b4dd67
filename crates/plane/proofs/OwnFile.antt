-- A file of a head and records, each as it is expected where it stands: mono (b is false) or colour.
--     file_colour, file_forms              it is mono or colour, and its form is fine
--     file_record, file_luma, file_chroma     its records
--     file_head                          its head tells of the picture
-- Assumes nothing.
use mathlib.Core.Path.{◌≡◌, refl, sym, ap, ◌∙◌}
use mathlib.Core.Bool.{Bool, true, false}
use mathlib.Core.List.{List, ◌++◌}
use Prim.Native.Nat.{ℕ, ◌+◌, ◌*◌, ◌<◌, ◌≤◌}
use native.Mathlib.Omega.{arith}
use lib.ListN.{length}
use Rattle.lists.specs.Chain.{Verdict, pass, chain, written}
use Rattle.lists.specs.Parts.{parts}
use Rattle.refusal.specs.declared.Refusal.{Refusal}
use Rattle.refusal.proofs.Faults.{false_not_true}
use Rattle.refusal.proofs.Same.{says}
use Rattle.head.specs.Entry.{ReadsHead, head_tests, long_at, width_at, height_at, rows_at, size_holds, rows_hold}
use Rattle.head.specs.Heads.{head_length}
use Rattle.head.proofs.Back.{length_head, width_back, height_back, rows_back, long_back, head_own}
use Rattle.record.specs.Faults.{walk_said, walk_of}
use Rattle.record.specs.Kinds.{per_macroblock, expected_in}
use Rattle.record.specs.Records.{record_at, record_place, colour_at}
use Rattle.record.proofs.Back.{Own, said_own, record_found, colour_found}
use Rattle.picture.specs.declared.Layout.{Layout}
use Rattle.picture.specs.Order.{count_of}
use Rattle.plane.specs.Code.{in_slices, head_for, behind_head}
use Rattle.plane.specs.Decode.{record_in, luma_in, chroma_in, forms_tests}
use Rattle.plane.proofs.Entry.{LegalHead, head_read}
use Rattle.std.specs.Prelude.{Ok}

module _ (l : Layout) (b : Bool) (made : ℕ → List ℕ) (own : (k : ℕ) → k < per_macroblock b * count_of l → Own (expected_in b k) (made k)) where
  abbrev all : ℕ
  all = per_macroblock b * count_of l

  abbrev pub own_file : List ℕ
  own_file = head_for l ++ parts all made

  -- the place behind the head
  behind : length (head_for l) ≡ behind_head l
  behind = length_head l.width l.height l.rows

  pub file_record : (k : ℕ) → k < all → record_in own_file (behind_head l) k ≡ made k
  unfolding record_in
  file_record k h =
      ap (λ (place : ℕ). record_at (record_place k own_file place) own_file) (sym behind) ∙ record_found b (head_for l) made all own k h

  module _ (some : 0 < count_of l) where
    -- a macroblock has its records
    enough : (1 ≤ all) × (per_macroblock b ≤ all)
    enough = by b
      where
        by : (c : Bool) → (1 ≤ per_macroblock c * count_of l) × (per_macroblock c ≤ per_macroblock c * count_of l)
        by true = (omega arith, omega arith)
        by false = (omega arith, omega arith)

    pub file_colour : colour_at (behind_head l) own_file ≡ b
    file_colour = ap (λ (place : ℕ). colour_at place own_file) (sym behind) ∙ colour_found b (head_for l) made all own enough.0 enough.1

    pub file_forms : chain (forms_tests l (behind_head l) own_file) ≡ pass
    file_forms =
        ap (λ (c : Bool). walk_said own_file (walk_of c (per_macroblock c * count_of l) own_file (behind_head l))) file_colour
        ∙ ap (λ (place : ℕ). walk_said own_file (walk_of b all own_file place)) (sym behind)
        ∙ said_own b (head_for l) made all own

    module _ (m : ℕ) (h : m < count_of l) where
      pub file_luma : luma_in own_file (behind_head l) m ≡ made (per_macroblock b * m)
      file_luma = ap (λ (c : Bool). record_in own_file (behind_head l) (per_macroblock c * m)) file_colour ∙ file_record (per_macroblock b * m) (by b)
        where
          by : (c : Bool) → per_macroblock c * m < per_macroblock c * count_of l
          by true = omega arith
          by false = omega arith

      pub file_chroma : b ≡ true → chroma_in own_file (behind_head l) m ≡ made (per_macroblock b * m + 1)
      file_chroma e = ap (λ (c : Bool). record_in own_file (behind_head l) (per_macroblock c * m + 1)) file_colour ∙ file_record (per_macroblock b * m + 1) (by b e)
        where
          by : (c : Bool) → c ≡ true → per_macroblock c * m + 1 < per_macroblock c * count_of l
          by true q = omega arith
          by false q = absurd (false_not_true q)

-- whatever stands behind it, the head tells of the picture
pub file_head : (width height rows : ℕ) (records : List ℕ) → size_holds width height ≡ true → rows_hold height rows ≡ true
    → LegalHead (head_for (in_slices width height rows) ++ records) (in_slices width height rows) (head_length height rows)
file_head width height rows records size sliced =
    let file = head_for (in_slices width height rows) ++ records in
    let e : chain (head_tests file) ≡ pass = head_own width height rows records size sliced in
    let reads : ReadsHead file (Ok (record { width = width; height = height; rows = rows; long = head_length height rows })) = record {
      says = says (sym e);
      width = sym (ap (λ (v : Verdict Refusal). written v (width_at file) 0) e ∙ width_back width height rows records);
      height = sym (ap (λ (v : Verdict Refusal). written v (height_at file) 0) e ∙ height_back width height rows records);
      rows = sym (ap (λ (v : Verdict Refusal). written v (rows_at file) 0) e ∙ rows_back width height rows records);
      long = sym (ap (λ (v : Verdict Refusal). written v (long_at file) 0) e ∙ long_back width height rows records);
    } in
    head_read file reads refl
