-- A coded plane is decoded to what the coder rebuilt.
--     before_bytes         a plane on the way is of bytes
--     own_mono_colour, own_forms     the coder's file is mono, and its form is fine
--     own_record_in        record m of it is macroblock m's
--     own_contents         the content of all its records is fine
--     plane_again          the decoder rebuilds the coder's plane
--     cleared_bytes        a cleared plane is bytes
--     own_file_decodes     so the file is decoded, whatever stood in the plane
--     coder_decoder_agree  by the two contracts: the bytes that the coder used are decoded to the plane that it rebuilt
-- Assumes nothing.
use mathlib.Core.Path.{◌≡◌, sym, ap, ◌∙◌}
use mathlib.Core.Bool.{true, false}
use mathlib.Core.List.{List, ◌++◌}
use Prim.Native.Nat.{ℕ, ◌*◌, ◌<◌, ◌≤◌}
use native.Mathlib.Omega.{arith}
use lib.ListN.{length, take}
use Rattle.lists.specs.Chain.{pass, chain}
use Rattle.lists.specs.Parts.{parts}
use Rattle.lists.specs.Bytes.{Bytes}
use Rattle.lists.proofs.Bytes.{bytes_tab}
use Rattle.lists.proofs.Chain.{chain_passed}
use Rattle.lists.proofs.Chains.{chain_parts}
use Rattle.lists.proofs.Fold.{fold_follow, fold_keeps}
use Rattle.refusal.proofs.Same.{says_same, same_answer}
use Rattle.quantizer.specs.Range.{highest}
use Rattle.head.specs.Entry.{size_holds, rows_hold}
use Rattle.record.specs.Kinds.{per_macroblock, expected_in}
use Rattle.record.specs.Records.{colour_at}
use Rattle.record.proofs.Back.{Own}
use Rattle.head.specs.Heads.{head_length}
use Rattle.picture.specs.declared.Layout.{Layout}
use Rattle.picture.specs.Order.{count_of}
use Rattle.picture.specs.Plane.{plane_length}
use Rattle.macroblock.specs.Code.{coded_step}
use Rattle.macroblock.specs.Content.{content_tests}
use Rattle.macroblock.specs.Rebuild.{rebuilt_step}
use Rattle.macroblock.proofs.Contents.{content_own, step_again}
use Rattle.macroblock.proofs.Looks.{coded_bytes}
use Rattle.plane.specs.Decode.{record_in, luma_in, forms_tests, macroblock_tests, contents_tests, body_tests, rebuilt_from, cleared, Decodes}
use Rattle.plane.specs.Code.{in_slices, head_for, behind_head, plane_before, plane_from, file_from, coded_file, coded_plane, CodesPlane}
use Rattle.plane.proofs.CodedFile.{record_on, own_on}
use Rattle.plane.proofs.CodedOutcome.{outcome}
use Rattle.plane.proofs.Entry.{body_rest, body_done, LegalHead, decodes_by, macroblocks_some}
use Rattle.plane.proofs.OwnFile.{own_file, file_colour, file_forms, file_record, file_luma, file_head}
use Rattle.plane.proofs.Walking.{tests_mono}
use Rattle.std.specs.Prelude.{Ok, Result}
use Rattle.refusal.specs.declared.Refusal.{Refusal}

-- the plane before macroblock m is of bytes, as the one that it began with
pub before_bytes : (l : Layout) (qp : ℕ) → qp ≤ highest → (original start : List ℕ) → Bytes original → Bytes start → (m : ℕ) → Bytes (plane_before l qp original start m)
unfolding plane_before
before_bytes l qp legal original start bytes small m =
    fold_keeps (λ k p. Bytes p) m (coded_step l qp original) start small (λ k h e. coded_bytes l qp legal original bytes k (plane_before l qp original start k) e)

module _ (l : Layout) (qp : ℕ) (original start : List ℕ) where
  -- ---- the form of the file: the records of a mono file

  own_mono : (k : ℕ) → k < per_macroblock false * count_of l → Own (expected_in false k) (record_on l qp original start k)
  own_mono k h = own_on l qp original start k

  is_own : own_file l false (record_on l qp original start) own_mono ≡ file_from l qp original start
  unfolding file_from
  is_own = let z : 1 * count_of l ≡ count_of l = omega arith in ap (λ (n : ℕ). head_for l ++ parts n (record_on l qp original start)) z

  pub own_record_in : (m : ℕ) → m < count_of l → record_in (file_from l qp original start) (behind_head l) m ≡ record_on l qp original start m
  own_record_in m h = rw is_own at (file_record l false (record_on l qp original start) own_mono m (omega arith))

  module _ (some : 0 < count_of l) where
    pub own_mono_colour : colour_at (behind_head l) (file_from l qp original start) ≡ false
    own_mono_colour = rw is_own at (file_colour l false (record_on l qp original start) own_mono some)

    pub own_forms : chain (forms_tests l (behind_head l) (file_from l qp original start)) ≡ pass
    own_forms = rw is_own at (file_forms l false (record_on l qp original start) own_mono some)

    own_luma_in : (m : ℕ) → m < count_of l → luma_in (file_from l qp original start) (behind_head l) m ≡ record_on l qp original start m
    own_luma_in m h =
        let z : 1 * m ≡ m = omega arith in
        (rw is_own at (file_luma l false (record_on l qp original start) own_mono some m h)) ∙ ap (record_on l qp original start) z

    -- ---- the content, and the plane

    module _ (legal : qp ≤ highest) (bytes : Bytes original) (small : Bytes start) where
      pub own_contents : chain (contents_tests l (behind_head l) (file_from l qp original start)) ≡ pass
      own_contents =
          chain_parts (count_of l) (macroblock_tests l (behind_head l) (file_from l qp original start))
          (λ m h.
          tests_mono l (file_from l qp original start) (behind_head l) m own_mono_colour
          ∙ ap (λ (part : List ℕ). chain (content_tests l m part)) (own_luma_in m h)
          ∙ content_own l qp legal original bytes m (plane_before l qp original start m) (before_bytes l qp legal original start bytes small m))

      pub plane_again : rebuilt_from l (luma_in (file_from l qp original start) (behind_head l)) start ≡ plane_from l qp original start
      unfolding rebuilt_from plane_before
      plane_again =
          fold_follow (count_of l) (λ m. rebuilt_step l m (luma_in (file_from l qp original start) (behind_head l) m)) (coded_step l qp original) start
          (λ m h.
          ap (λ (part : List ℕ). rebuilt_step l m part (plane_before l qp original start m)) (own_luma_in m h)
          ∙ step_again l qp legal original bytes m (plane_before l qp original start m) (before_bytes l qp legal original start bytes small m))

-- ---- from the first byte on

coded_head : (width height rows qp : ℕ) (original start : List ℕ) → size_holds width height ≡ true → rows_hold height rows ≡ true
    → LegalHead (file_from (in_slices width height rows) qp original start) (in_slices width height rows) (head_length height rows)
unfolding file_from
coded_head width height rows qp original start size sliced =
    file_head width height rows (parts (width * height) (record_on (in_slices width height rows) qp original start)) size sliced

-- a cleared plane is one of bytes
pub cleared_bytes : (n : ℕ) → Bytes (cleared n)
cleared_bytes n = bytes_tab n (λ k. 0) (λ k h. omega arith)

pub own_file_decodes : (width height rows qp : ℕ) (plane : List ℕ) → size_holds width height ≡ true → rows_hold height rows ≡ true → qp ≤ highest → Bytes plane
    → (out : List ℕ) → length out ≡ plane_length 16 (in_slices width height rows)
    → Decodes (coded_file (in_slices width height rows) qp plane) out (Ok tt) (coded_plane (in_slices width height rows) qp plane)
own_file_decodes width height rows qp plane size sliced legal bytes out room =
    let l = in_slices width height rows in
    let start = cleared (plane_length 16 (in_slices width height rows)) in
    let small = cleared_bytes (plane_length 16 (in_slices width height rows)) in
    let file = coded_file (in_slices width height rows) qp plane in
    let some = macroblocks_some width height size in
    let passed : chain (body_tests l (behind_head l) file out) ≡ pass =
    body_rest l (behind_head l) file out room
    ∙ chain_passed (forms_tests l (behind_head l) file) (contents_tests l (behind_head l) file) (own_forms l qp plane start some)
    ∙ own_contents l qp plane start some legal bytes small in
    decodes_by file out (coded_head width height rows qp plane start size sliced)
    (body_done l (behind_head l) file out passed (sym (plane_again l qp plane start some legal bytes small)))

-- ---- by the two contracts

pub coder_decoder_agree : (width height rows qp : ℕ) (plane file rebuilt : List ℕ) (used : ℕ) (file' rebuilt' : List ℕ) → Bytes plane
    → CodesPlane width height rows qp plane file rebuilt (Ok used) file' rebuilt'
    → (out : List ℕ) → length out ≡ plane_length 16 (in_slices width height rows)
    → Decodes (take used file') out (Ok tt) rebuilt' × ((r : Result (Unit {0}) Refusal) (after : List ℕ) → Decodes (take used file') out r after → (r ≡ Ok tt) × (after ≡ rebuilt'))
coder_decoder_agree width height rows qp plane file rebuilt used file' rebuilt' bytes c out room =
    let o = outcome width height rows qp plane file rebuilt used file' rebuilt' c in
    let d : Decodes (take used file') out (Ok tt) rebuilt' = rw (o.filed, o.stored) (own_file_decodes width height rows qp plane o.size o.sliced o.legal bytes out room) in
    (d, λ r after e. (same_answer r (Ok tt) (says_same e.says ∙ sym (says_same d.says)), e.wrote ∙ sym d.wrote))
