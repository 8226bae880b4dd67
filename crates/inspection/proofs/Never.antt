-- The decoder never answers 17.
--     decoder_never_differs
-- Assumes nothing.
use Rattle.refusal.specs.Faults.{refusal_of}
use Rattle.refusal.specs.declared.Fault.{Fault}
use Rattle.record.specs.Records.{length_from}
use lib.ListN.{length}
use mathlib.Core.Path.{◌≡◌, refl}
use mathlib.Core.Bool.{Bool, true, false}
use mathlib.Core.List.{List}
use Prim.Native.Nat.{ℕ}
use Rattle.lists.specs.Chain.{stop, chain}
use Rattle.refusal.specs.Faults.{is_content}
use Rattle.refusal.specs.declared.Fault.TheVariants.{CutMark, Mark, CutRest, Number, Sum}
use Rattle.refusal.specs.declared.Refusal.{Refusal}
use Rattle.refusal.specs.declared.Refusal.TheVariants as refusal
use Rattle.refusal.proofs.Faults.{false_not_true, all_of, all_of_law, all_behind, all_more}
use Rattle.head.specs.Entry.{head_tests, long_at}
use Rattle.record.specs.Faults.{walk_of, walk_tests}
use Rattle.record.specs.Records.{colour_at}
use Rattle.picture.specs.Order.{count_of}
use Rattle.plane.specs.Decode.{luma_number, forms_tests, contents_tests, body_tests, layout_in, decode_tests}
use Rattle.plane.proofs.Broken.{contents_kind}
use Rattle.std.specs.Prelude.{Err, Ok, Result}
use Rattle.record.specs.declared.Faulty.{Faulty}

-- a refusal that is not 17
abbrev other : Refusal → Bool
other refusal.Length = true
other refusal.Size = true
other (refusal.Flags k) = true
other (refusal.Quantizer k) = true
other (refusal.Mode k) = true
other (refusal.Residual k) = true
other (refusal.Level k) = true
other (refusal.Range k) = true
other (refusal.Form k) = true
other (refusal.Mark k) = true
other (refusal.Number k) = true
other (refusal.Sum k) = true
other (refusal.Differs k) = false

content_other : (r : Refusal) → is_content r ≡ true → other r ≡ true
content_other refusal.Length e = refl
content_other refusal.Size e = refl
content_other (refusal.Flags k) e = refl
content_other (refusal.Quantizer k) e = refl
content_other (refusal.Mode k) e = refl
content_other (refusal.Residual k) e = refl
content_other (refusal.Level k) e = refl
content_other (refusal.Range k) e = refl
content_other (refusal.Form k) e = refl
content_other (refusal.Mark k) e = refl
content_other (refusal.Number k) e = refl
content_other (refusal.Sum k) e = refl
content_other (refusal.Differs k) e = e

fault_other : (fault : Fault) (place long total : ℕ) → other (refusal_of fault place long total) ≡ true
fault_other CutMark place long total = refl
fault_other Mark place long total = refl
fault_other CutRest place long total = refl
fault_other Number place long total = refl
fault_other Sum place long total = refl

walk_other : (file : List ℕ) (w : Result ℕ Faulty) → all_of other (walk_tests file w) ≡ true
walk_other file (Ok place) = refl
walk_other file (Err it) = rw (fault_other it.fault it.place (length_from it.place file) (length file)) refl

pub decoder_never_differs : (file plane : List ℕ) (k : ℕ) → chain (decode_tests file plane) ≡ stop (refusal.Differs k) → ⊥
decoder_never_differs file plane k e =
    let l = layout_in file in
    let place = long_at file in
    let walked = walk_other file (walk_of (colour_at (long_at file) file) (luma_number file (long_at file) (count_of (layout_in file))) file (long_at file)) in
    let contents = all_more is_content other content_other (contents_tests l place file) (contents_kind l place file) in
    let records = all_behind other (forms_tests l place file) (contents_tests l place file) walked contents in
    false_not_true (all_of_law other (refusal.Differs k) (decode_tests file plane) (all_behind other (head_tests file) (body_tests l place file plane) refl records) e)
