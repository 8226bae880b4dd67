-- Where code stands that goes from macroblock to macroblock in a file. No contract of an entry point cites this. Assumes nothing.
use Rattle.std.specs.Prelude.{◌≡◌, Bool, cond, List, ℕ, ◌+◌, ◌-◌, ◌≤◌, length, take, drop}
use Rattle.lists.specs.Chain.{chain, pass}
use Rattle.record.specs.Kinds.{in_chroma, length_of}
use Rattle.record.specs.Records.{colour_at, qp_in, length_from, record_place}
use Rattle.picture.specs.declared.Layout.{Layout}
use Rattle.plane.specs.Decode.{luma_number, luma_in, chroma_place, chroma_in, forms_tests}
use Rattle.plane.specs.declared.Behind.{Behind}

-- behind the records of the macroblock whose first begins at a place: luma's, and in a colour file chroma's
abbrev pub next_place : List ℕ → (colour : Bool) → (place : ℕ) → ℕ
next_place file colour place =
    let end = place + length_from place file in
    cond colour (end + length_from end file) end

-- at the first record of macroblock m of a file whose form is fine, knowing whether the file is colour
pub record AtMacroblock (l : Layout) (start : ℕ) (file : List ℕ) (colour : Bool) (place m : ℕ) : Type 0 where
  pub told : colour ≡ colour_at start file
  pub fine : chain (forms_tests l start file) ≡ pass
  pub at : place ≡ record_place (luma_number file start m) file start

-- what stands behind macroblock m's luma record in a colour file: luma's QP, and its chroma record, which lies in the file
pub record BehindLuma (file : List ℕ) (start m : ℕ) (b : Behind) : Type 0 where
  pub qp_is : b.qp ≡ qp_in (luma_in file start m)
  pub place_is : b.place ≡ chroma_place file start m
  pub order : b.place ≤ b.end
  pub inside : b.end ≤ length file
  pub part : take (b.end - b.place) (drop b.place file) ≡ chroma_in file start m
  pub long : length (chroma_in file start m) ≡ length_of in_chroma
