-- A coded picture is decoded to what the coder rebuilt, plane by plane.
--     both_bytes                              both planes of chroma on the way are of bytes
--     frame_colour, frame_forms               the coder's file is colour, and its form is fine
--     frame_luma_in, frame_chroma_in          macroblock m's records in it
--     frame_contents                          the content of all its records is fine
--     luma_again, cb_again, cr_again          the decoder rebuilds the coder's planes
--     own_frame_decodes                       so the file is decoded, whatever stood in the planes
--     own_frame_luma                          and `decode_plane` gives its luma plane
-- Assumes nothing.
use mathlib.Core.Path.{◌≡◌, refl, sym, ap, ◌∙◌}
use mathlib.Core.Bool.{true}
use mathlib.Core.List.{List, ◌++◌}
use Prim.Native.Nat.{ℕ, ◌*◌, ◌<◌, ◌≤◌}
use lib.IntN.{ℤ, pos}
use lib.ListN.{length}
use Rattle.lists.specs.Bytes.{Bytes}
use Rattle.lists.specs.Chain.{pass, chain}
use Rattle.lists.specs.Fold.{fold}
use Rattle.lists.specs.Parts.{parts}
use Rattle.lists.proofs.Chain.{chain_passed}
use Rattle.lists.proofs.Chains.{chain_parts}
use Rattle.lists.proofs.Fold.{fold_follow, fold_keeps}
use Rattle.whole.specs.Notation.{minus}
use Rattle.whole.specs.Range.{inside}
use Rattle.quantizer.specs.Range.{highest}
use Rattle.head.specs.Entry.{size_holds, rows_hold}
use Rattle.head.specs.Heads.{head_length}
use Rattle.record.specs.Kinds.{per_macroblock, expected_in}
use Rattle.record.specs.Records.{colour_at, qp_in}
use Rattle.record.proofs.Back.{Own, in_turn, in_turn_luma, in_turn_chroma, own_in_turn, parts_in_turn}
use Rattle.picture.specs.declared.Layout.{Layout}
use Rattle.picture.specs.Both.{Both}
use Rattle.picture.specs.Order.{count_of}
use Rattle.picture.specs.Plane.{plane_length}
use Rattle.macroblock.specs.Code.{coded_step}
use Rattle.macroblock.specs.Content.{content_tests}
use Rattle.macroblock.specs.Rebuild.{rebuilt_step}
use Rattle.macroblock.proofs.Contents.{qp_record_from, content_own, step_again}
use Rattle.macroblock_chroma.specs.Code.{coded_step_chroma}
use Rattle.macroblock_chroma.specs.Content.{content_tests_chroma}
use Rattle.macroblock_chroma.specs.Rebuild.{cb_step, cr_step}
use Rattle.macroblock_chroma.proofs.CodedRecord.{BytesBoth, coded_bytes_chroma, content_own_chroma, cb_step_again, cr_step_again}
use Rattle.plane.specs.Code.{in_slices, head_for, behind_head, plane_before, plane_from, coded_plane}
use Rattle.plane.specs.Decode.{luma_in, chroma_in, chroma_place, forms_tests, macroblock_tests, contents_tests, records_tests, rebuilt_from, cleared, Decodes}
use Rattle.plane.proofs.CodedFile.{record_on}
use Rattle.plane.proofs.Entry.{body_rest, body_done, LegalHead, decodes_by, macroblocks_some}
use Rattle.plane.proofs.OwnFile.{own_file, file_colour, file_forms, file_luma, file_chroma, file_head}
use Rattle.plane.proofs.Trip.{before_bytes, cleared_bytes}
use Rattle.plane.proofs.Walking.{tests_colour}
use Rattle.frame.specs.Code.{both_before, frame_from, records_on, both_cleared, coded_frame, coded_both}
use Rattle.frame.specs.Decode.{planes_tests, picture_tests, cb_from, cr_from, DecodesPicture}
use Rattle.frame.specs.declared.Decoded.TheVariants.{Colour}
use Rattle.frame.proofs.CodedFrame.{chroma_on, own_luma_on, own_chroma_on}
use Rattle.frame.proofs.Entry.{picture_colour, picture_by}
use Rattle.frame.proofs.Tested.{planes_pass}
use Rattle.std.specs.Prelude.{Ok}

-- both planes of chroma before macroblock m are of bytes, as those that they began with
pub both_bytes : (l : Layout) (qp : ℕ) (cb_offset cr_offset : ℤ) (chroma starts : Both) → BytesBoth starts → (m : ℕ) → BytesBoth (both_before l qp cb_offset cr_offset chroma starts m)
unfolding both_before
both_bytes l qp cb_offset cr_offset chroma starts smalls m =
    fold_keeps (λ k p. BytesBoth p) m (coded_step_chroma l qp cb_offset cr_offset chroma) starts smalls
    (λ k h e. coded_bytes_chroma l qp cb_offset cr_offset chroma k (both_before l qp cb_offset cr_offset chroma starts k) e)

module _ (l : Layout) (qp : ℕ) (cb_offset cr_offset : ℤ) (luma : List ℕ) (chroma : Both) (start : List ℕ) (starts : Both) where
  -- macroblock m's records
  abbrev luma_record : ℕ → List ℕ
  luma_record m = record_on l qp luma start m

  abbrev chroma_record : ℕ → List ℕ
  chroma_record m = chroma_on l qp cb_offset cr_offset luma chroma start starts m

  abbrev file : List ℕ
  file = frame_from l qp cb_offset cr_offset luma chroma start starts

  -- ---- the form of the file: the records of a colour file

  own_turns : (k : ℕ) → k < per_macroblock true * count_of l → Own (expected_in true k) (in_turn luma_record chroma_record k)
  own_turns =
      own_in_turn luma_record chroma_record (count_of l)
      (λ m h. own_luma_on l qp cb_offset cr_offset luma chroma start starts m)
      (λ m h. own_chroma_on l qp cb_offset cr_offset luma chroma start starts m)

  is_own : own_file l true (in_turn luma_record chroma_record) own_turns ≡ file
  unfolding frame_from
  is_own = ap (λ (records : List ℕ). head_for l ++ records) (parts_in_turn luma_record chroma_record (count_of l))

  module _ (some : 0 < count_of l) where
    pub frame_colour : colour_at (behind_head l) file ≡ true
    frame_colour = rw is_own at (file_colour l true (in_turn luma_record chroma_record) own_turns some)

    pub frame_forms : chain (forms_tests l (behind_head l) file) ≡ pass
    frame_forms = rw is_own at (file_forms l true (in_turn luma_record chroma_record) own_turns some)

    pub frame_luma_in : (m : ℕ) → m < count_of l → luma_in file (behind_head l) m ≡ luma_record m
    frame_luma_in m h = (rw is_own at (file_luma l true (in_turn luma_record chroma_record) own_turns some m h)) ∙ in_turn_luma luma_record chroma_record m

    pub frame_chroma_in : (m : ℕ) → m < count_of l → chroma_in file (behind_head l) m ≡ chroma_record m
    frame_chroma_in m h = (rw is_own at (file_chroma l true (in_turn luma_record chroma_record) own_turns some m h refl)) ∙ in_turn_chroma luma_record chroma_record m

    -- ---- the content, and the planes

    module _ (legal : qp ≤ highest) (cbLegal : inside (minus 12) (pos 12) cb_offset ≡ true) (crLegal : inside (minus 12) (pos 12) cr_offset ≡ true)
        (bytes : Bytes luma) (small : Bytes start) (both : BytesBoth chroma) (smalls : BytesBoth starts) where
      -- the QP of its luma record is the picture's
      qp_in_law : (m : ℕ) → m < count_of l → qp_in (luma_in file (behind_head l) m) ≡ qp
      qp_in_law m h = ap qp_in (frame_luma_in m h) ∙ qp_record_from l qp legal luma bytes m (plane_before l qp luma start m) (before_bytes l qp legal luma start bytes small m)

      luma_content : (m : ℕ) → m < count_of l → chain (content_tests l m (luma_in file (behind_head l) m)) ≡ pass
      luma_content m h =
          ap (λ (part : List ℕ). chain (content_tests l m part)) (frame_luma_in m h)
          ∙ content_own l qp legal luma bytes m (plane_before l qp luma start m) (before_bytes l qp legal luma start bytes small m)

      pub frame_contents : chain (contents_tests l (behind_head l) file) ≡ pass
      frame_contents =
          chain_parts (count_of l) (macroblock_tests l (behind_head l) file)
          (λ m h.
          tests_colour l file (behind_head l) m frame_colour (luma_content m h)
          ∙ (λ i. chain (content_tests_chroma l m (qp_in_law m h i) (chroma_place file (behind_head l) m) (frame_chroma_in m h i)))
          ∙ content_own_chroma l qp cb_offset cr_offset chroma m (both_before l qp cb_offset cr_offset chroma starts m) both (both_bytes l qp cb_offset cr_offset chroma starts smalls m) cbLegal crLegal (chroma_place file (behind_head l) m))

      pub luma_again : rebuilt_from l (luma_in file (behind_head l)) start ≡ plane_from l qp luma start
      unfolding rebuilt_from plane_before
      luma_again =
          fold_follow (count_of l) (λ m. rebuilt_step l m (luma_in file (behind_head l) m)) (coded_step l qp luma) start
          (λ m h.
          ap (λ (part : List ℕ). rebuilt_step l m part (plane_before l qp luma start m)) (frame_luma_in m h)
          ∙ step_again l qp legal luma bytes m (plane_before l qp luma start m) (before_bytes l qp legal luma start bytes small m))

      pub cb_again : cb_from l (luma_in file (behind_head l)) (chroma_in file (behind_head l)) starts.cb ≡ (both_before l qp cb_offset cr_offset chroma starts (count_of l)).cb
      unfolding cb_from both_before fold
      cb_again =
          fold_keeps (λ k (b : Both). fold k (λ m. cb_step l m (qp_in (luma_in file (behind_head l) m)) (chroma_in file (behind_head l) m)) starts.cb ≡ b.cb) (count_of l)
          (coded_step_chroma l qp cb_offset cr_offset chroma) starts refl
          (λ m h e.
          ap (cb_step l m (qp_in (luma_in file (behind_head l) m)) (chroma_in file (behind_head l) m)) e
          ∙ (λ i. cb_step l m (qp_in_law m h i) (frame_chroma_in m h i) (both_before l qp cb_offset cr_offset chroma starts m).cb)
          ∙ cb_step_again l qp cb_offset cr_offset chroma m (both_before l qp cb_offset cr_offset chroma starts m) both (both_bytes l qp cb_offset cr_offset chroma starts smalls m) cbLegal crLegal)

      pub cr_again : cr_from l (luma_in file (behind_head l)) (chroma_in file (behind_head l)) starts.cr ≡ (both_before l qp cb_offset cr_offset chroma starts (count_of l)).cr
      unfolding cr_from both_before fold
      cr_again =
          fold_keeps (λ k (b : Both). fold k (λ m. cr_step l m (qp_in (luma_in file (behind_head l) m)) (chroma_in file (behind_head l) m)) starts.cr ≡ b.cr) (count_of l)
          (coded_step_chroma l qp cb_offset cr_offset chroma) starts refl
          (λ m h e.
          ap (cr_step l m (qp_in (luma_in file (behind_head l) m)) (chroma_in file (behind_head l) m)) e
          ∙ (λ i. cr_step l m (qp_in_law m h i) (frame_chroma_in m h i) (both_before l qp cb_offset cr_offset chroma starts m).cr)
          ∙ cr_step_again l qp cb_offset cr_offset chroma m (both_before l qp cb_offset cr_offset chroma starts m) both (both_bytes l qp cb_offset cr_offset chroma starts smalls m) cbLegal crLegal)

      -- its records pass
      pub frame_records : chain (records_tests l (behind_head l) file) ≡ pass
      frame_records = chain_passed (forms_tests l (behind_head l) file) (contents_tests l (behind_head l) file) frame_forms ∙ frame_contents

-- ---- from the first byte on

frame_head : (width height rows qp : ℕ) (cb_offset cr_offset : ℤ) (luma : List ℕ) (chroma : Both) (start : List ℕ) (starts : Both) → size_holds width height ≡ true → rows_hold height rows ≡ true
    → LegalHead (frame_from (in_slices width height rows) qp cb_offset cr_offset luma chroma start starts) (in_slices width height rows) (head_length height rows)
unfolding frame_from
frame_head width height rows qp cb_offset cr_offset luma chroma start starts size sliced =
    file_head width height rows (parts (width * height) (records_on (in_slices width height rows) qp cb_offset cr_offset luma chroma start starts)) size sliced

-- cleared planes are of bytes
both_cleared_bytes : (l : Layout) → BytesBoth (both_cleared l)
both_cleared_bytes l = record { cbs = cleared_bytes (plane_length 8 l); crs = cleared_bytes (plane_length 8 l) }

module _ (width height rows qp : ℕ) (cb_offset cr_offset : ℤ) (luma : List ℕ) (chroma : Both) (size : size_holds width height ≡ true) (sliced : rows_hold height rows ≡ true)
    (legal : qp ≤ highest) (cbLegal : inside (minus 12) (pos 12) cb_offset ≡ true) (crLegal : inside (minus 12) (pos 12) cr_offset ≡ true)
    (bytes : Bytes luma) (both : BytesBoth chroma) where
  abbrev layout : Layout
  layout = in_slices width height rows

  abbrev coded : List ℕ
  coded = coded_frame layout qp cb_offset cr_offset luma chroma

  some : 0 < width * height
  some = macroblocks_some width height size

  passes : chain (records_tests layout (behind_head layout) coded) ≡ pass
  passes =
      frame_records layout qp cb_offset cr_offset luma chroma (cleared (plane_length 16 layout)) (both_cleared layout) some legal cbLegal crLegal bytes
      (cleared_bytes (plane_length 16 layout)) both (both_cleared_bytes layout)

  pub own_frame_decodes : (out outCb outCr : List ℕ) → length out ≡ plane_length 16 layout → length outCb ≡ plane_length 8 layout → length outCr ≡ plane_length 8 layout
      → DecodesPicture coded out outCb outCr (Ok Colour) (coded_plane layout qp luma) (coded_both layout qp cb_offset cr_offset chroma).cb (coded_both layout qp cb_offset cr_offset chroma).cr
  own_frame_decodes out outCb outCr room roomCb roomCr =
      let start = cleared (plane_length 16 layout) in
      let starts = both_cleared layout in
      let small = cleared_bytes (plane_length 16 layout) in
      let smalls = both_cleared_bytes layout in
      let passed : chain (picture_tests layout (behind_head layout) coded out outCb outCr) ≡ pass =
      chain_passed (planes_tests layout (length out) (length outCb) (length outCr)) (records_tests layout (behind_head layout) coded)
      (planes_pass layout (length out) (length outCb) (length outCr) room roomCb roomCr) ∙ passes in
      picture_by coded out outCb outCr (frame_head width height rows qp cb_offset cr_offset luma chroma start starts size sliced)
      (picture_colour layout (behind_head layout) coded _ out outCb outCr passed
      (sym (luma_again layout qp cb_offset cr_offset luma chroma start starts some legal cbLegal crLegal bytes small both smalls))
      (frame_colour layout qp cb_offset cr_offset luma chroma start starts some)
      (sym (cb_again layout qp cb_offset cr_offset luma chroma start starts some legal cbLegal crLegal bytes small both smalls))
      (sym (cr_again layout qp cb_offset cr_offset luma chroma start starts some legal cbLegal crLegal bytes small both smalls)))

  pub own_frame_luma : (out : List ℕ) → length out ≡ plane_length 16 layout → Decodes coded out (Ok tt) (coded_plane layout qp luma)
  own_frame_luma out room =
      let start = cleared (plane_length 16 layout) in
      let starts = both_cleared layout in
      decodes_by coded out (frame_head width height rows qp cb_offset cr_offset luma chroma start starts size sliced)
      (body_done layout (behind_head layout) coded out (body_rest layout (behind_head layout) coded out room ∙ passes)
      (sym (luma_again layout qp cb_offset cr_offset luma chroma start starts some legal cbLegal crLegal bytes (cleared_bytes (plane_length 16 layout)) both (both_cleared_bytes layout))))
