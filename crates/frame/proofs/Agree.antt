-- What the coder rebuilds is, sample for sample, what the decoder rebuilds (demand 2), for all three planes: by the contracts of `code_picture`,
-- `decode_picture`, `decode_plane` and `code_plane`.
--     colour_coder_decoder_agree     the bytes that the coder used are decoded to the three planes that it rebuilt, and to nothing else
--     colour_luma_decoded            `decode_plane` gives its luma plane
--     colour_luma_as_plane           which is the one that `code_plane` rebuilds
-- Assumes nothing.
use mathlib.Core.Path.{◌≡◌, sym, ◌∙◌}
use mathlib.Core.List.{List}
use Prim.Native.Nat.{ℕ}
use lib.IntN.{ℤ}
use lib.ListN.{length, take}
use Rattle.lists.specs.Bytes.{Bytes}
use Rattle.refusal.proofs.Same.{says_same}
use Rattle.picture.specs.Both.{pair}
use Rattle.picture.specs.Plane.{plane_length}
use Rattle.plane.specs.Code.{in_slices, CodesPlane}
use Rattle.plane.specs.Decode.{Decodes}
use Rattle.plane.proofs.CodedOutcome.{outcome}
use Rattle.frame.specs.Code.{CodesPicture}
use Rattle.frame.specs.Decode.{DecodesPicture}
use Rattle.frame.specs.declared.Decoded.{Decoded}
use Rattle.frame.specs.declared.Decoded.TheVariants.{Colour}
use Rattle.frame.proofs.Entry.{same_decoded}
use Rattle.frame.proofs.FrameOutcome.{frame_outcome}
use Rattle.frame.proofs.Trip.{own_frame_decodes, own_frame_luma}
use Rattle.std.specs.Prelude.{Ok, Result}
use Rattle.refusal.specs.declared.Refusal.{Refusal}

module _ (width height rows qp : ℕ) (cb_offset cr_offset : ℤ) (luma cb cr file lumaOut cbOut crOut : List ℕ) (used : ℕ) (file' lumaOut' cbOut' crOut' : List ℕ)
    (c : CodesPicture width height rows qp cb_offset cr_offset luma cb cr file lumaOut cbOut crOut (Ok used) file' lumaOut' cbOut' crOut')
  where
    -- the decoder's answer and planes are known
    pub record Agreed (out outCb outCr : List ℕ) : Type 0 where
      pub decodes : DecodesPicture (take used file') out outCb outCr (Ok Colour) lumaOut' cbOut' crOut'
      pub alone : (r : Result Decoded Refusal) (x y z : List ℕ) → DecodesPicture (take used file') out outCb outCr r x y z → (r ≡ Ok Colour) × (x ≡ lumaOut') × (y ≡ cbOut') × (z ≡ crOut')

    pub colour_coder_decoder_agree : Bytes luma → Bytes cb → Bytes cr → (out outCb outCr : List ℕ)
        → length out ≡ plane_length 16 (in_slices width height rows) → length outCb ≡ plane_length 8 (in_slices width height rows) → length outCr ≡ plane_length 8 (in_slices width height rows)
        → Agreed out outCb outCr
    colour_coder_decoder_agree bytes cbBytes crBytes out outCb outCr room roomCb roomCr =
        let o = frame_outcome width height rows qp cb_offset cr_offset luma cb cr file lumaOut cbOut crOut used file' lumaOut' cbOut' crOut' c in
        let d : DecodesPicture (take used file') out outCb outCr (Ok Colour) lumaOut' cbOut' crOut' =
        coe 0 1 (i. DecodesPicture (sym o.filed i) out outCb outCr (Ok Colour) (sym o.lumas i) (sym o.cbs i) (sym o.crs i))
        (own_frame_decodes width height rows qp cb_offset cr_offset luma (pair cb cr) o.size o.sliced o.legal o.cb_inside o.cr_inside bytes
        (record { cbs = cbBytes; crs = crBytes }) out outCb outCr room roomCb roomCr) in
        record {
          decodes = d;
          alone = λ r x y z e. (
            same_decoded r (Ok Colour) (says_same e.says ∙ sym (says_same d.says)) (e.value ∙ sym d.value),
            e.lumas ∙ sym d.lumas,
            e.cbs ∙ sym d.cbs,
            e.crs ∙ sym d.crs,
          );
        }

    pub colour_luma_decoded : Bytes luma → Bytes cb → Bytes cr → (out : List ℕ) → length out ≡ plane_length 16 (in_slices width height rows) → Decodes (take used file') out (Ok tt) lumaOut'
    colour_luma_decoded bytes cbBytes crBytes out room =
        let o = frame_outcome width height rows qp cb_offset cr_offset luma cb cr file lumaOut cbOut crOut used file' lumaOut' cbOut' crOut' c in
        rw (o.filed, o.lumas)
        (own_frame_luma width height rows qp cb_offset cr_offset luma (pair cb cr) o.size o.sliced o.legal o.cb_inside o.cr_inside bytes
        (record { cbs = cbBytes; crs = crBytes }) out room)

    pub colour_luma_as_plane : (mono rebuilt : List ℕ) (usedMono : ℕ) (mono' rebuilt' : List ℕ) → CodesPlane width height rows qp luma mono rebuilt (Ok usedMono) mono' rebuilt'
        → lumaOut' ≡ rebuilt'
    colour_luma_as_plane mono rebuilt usedMono mono' rebuilt' p =
        (frame_outcome width height rows qp cb_offset cr_offset luma cb cr file lumaOut cbOut crOut used file' lumaOut' cbOut' crOut' c).lumas
        ∙ sym (outcome width height rows qp luma mono rebuilt usedMono mono' rebuilt' p).stored
