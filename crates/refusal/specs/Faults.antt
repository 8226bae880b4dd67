-- Number and place of what is wrong with the form of a head or a record: "9 for a file too short, too long or with a cut head; 11 for a wrong
-- mark, 12 for a wrong number, 13 for a wrong sum, each with the place of the offending field" (02, request 03). Assumes nothing.
use Rattle.std.specs.Prelude.{◌≡◌, Bool, true, false, ℕ, ◌+◌, ◌-◌, ◌≤◌}
use Rattle.refusal.specs.declared.Fault.TheVariants.{CutMark, Mark, CutRest, Number, Sum}
use Rattle.refusal.specs.declared.Fault.{Fault}
use Rattle.refusal.specs.declared.Refusal.TheVariants as refusal
use Rattle.refusal.specs.declared.Refusal.{Refusal}

-- of the record that begins at a place and is so long, in a file of so many bytes: its mark stands at its first byte, its number two bytes
-- behind, its sum in its last two bytes; a cut has "the file length as place" (02, request 01)
abbrev pub refusal_of : Fault → (place long total : ℕ) → Refusal
refusal_of CutMark place long total = refusal.Form total
refusal_of Mark place long total = refusal.Mark place
refusal_of CutRest place long total = refusal.Form total
refusal_of Number place long total = refusal.Number (place + 2)
refusal_of Sum place long total = refusal.Sum (place + long - 2)

-- faults that are looked for only in a record that is all there
abbrev pub late : Fault → Bool
late CutMark = false
late Mark = false
late CutRest = false
late Number = true
late Sum = true

-- and so where it is: what a place inside the record asks
pub record AllThere (fault : Fault) (place long total : ℕ) : Type 0 where
  pub some : late fault ≡ true → 2 ≤ long
  pub inside : late fault ≡ true → place + long ≤ total

-- the refusals that say what is broken in a file
abbrev pub is_broken : Refusal → Bool
is_broken refusal.Length = false
is_broken refusal.Size = false
is_broken (refusal.Flags k) = false
is_broken (refusal.Quantizer k) = false
is_broken (refusal.Mode k) = false
is_broken (refusal.Residual k) = false
is_broken (refusal.Level k) = false
is_broken (refusal.Range k) = false
is_broken (refusal.Form k) = true
is_broken (refusal.Mark k) = true
is_broken (refusal.Number k) = true
is_broken (refusal.Sum k) = true
is_broken (refusal.Differs k) = false

-- and those of a record's content: "by record QUANTIZER, all modes, then ranges" (01, "What is sent back, and in which order it is tested")
abbrev pub is_content : Refusal → Bool
is_content refusal.Length = false
is_content refusal.Size = false
is_content (refusal.Flags k) = false
is_content (refusal.Quantizer k) = true
is_content (refusal.Mode k) = true
is_content (refusal.Residual k) = false
is_content (refusal.Level k) = false
is_content (refusal.Range k) = true
is_content (refusal.Form k) = false
is_content (refusal.Mark k) = false
is_content (refusal.Number k) = false
is_content (refusal.Sum k) = false
is_content (refusal.Differs k) = false
