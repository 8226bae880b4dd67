-- What the tests of decoding a picture come to, and what the code then leaves.
--     picture_refused, picture_mono, picture_colour     behind a head that is fine
--     picture_head_refused, picture_by                  from the head on
--     same_decoded                                      an answer is known by what it says and its value
-- Assumes nothing.
use mathlib.Core.Path.{◌≡◌, sym, ap, ◌∙◌}
use mathlib.Core.Bool.{Bool, true, false, cond}
use mathlib.Core.List.{List}
use Prim.Native.Nat.{ℕ}
use native.Mathlib.Omega.{arith}
use Rattle.lists.specs.Chain.{Verdict, pass, stop, chain, written}
use Rattle.lists.proofs.Chain.{chain_passed, chain_refused}
use Rattle.refusal.specs.declared.Refusal.{Refusal}
use Rattle.refusal.proofs.Same.{says, says_same}
use Rattle.head.specs.declared.Head.{Head}
use Rattle.head.specs.Entry.{ReadsHead, head_tests, long_at}
use Rattle.record.specs.Records.{colour_at}
use Rattle.picture.specs.declared.Layout.{Layout}
use Rattle.picture.specs.Plane.{plane_length}
use Rattle.plane.specs.Decode.{luma_in, chroma_in, layout_in, cleared, decoded, decoded_plane}
use Rattle.plane.proofs.Entry.{LegalHead}
use Rattle.frame.specs.Decode.{picture_tests, cb_from, cr_from, cb_of, cr_of, colour_value, LeavesPlanes, DecodesPicture}
use Rattle.frame.specs.declared.Decoded.{Decoded}
use Rattle.frame.specs.declared.Decoded.TheVariants.{Mono, Colour}
use Rattle.std.specs.Prelude.{Err, Result}
use Rattle.refusal.specs.Number.{said}
use Rattle.std.specs.Prelude.{Ok}

pub same_decoded : (x y : Result Decoded Refusal) → said x ≡ said y → colour_value x ≡ colour_value y → x ≡ y
same_decoded (Ok Mono) (Ok Mono) e g = λ i. Ok Mono
same_decoded (Ok Mono) (Ok Colour) e g = absurd (omega (arith, g))
same_decoded (Ok Mono) (Err t) e g = cc
same_decoded (Ok Colour) (Ok Mono) e g = absurd (omega (arith, g))
same_decoded (Ok Colour) (Ok Colour) e g = λ i. Ok Colour
same_decoded (Ok Colour) (Err t) e g = cc
same_decoded (Err r) (Ok Mono) e g = cc
same_decoded (Err r) (Ok Colour) e g = cc
same_decoded (Err r) (Err t) e g = let p : r ≡ t = cc in ap Err p

-- ---- by any verdict

module _ {v : Verdict Refusal} (l : Layout) (place : ℕ) (file made luma cb cr : List ℕ) where
  pub picture_refused : {r : Refusal} → v ≡ stop r → LeavesPlanes v l place file made luma cb cr (Err r) luma cb cr
  picture_refused e = record { says = says (sym e); value = simp e; lumas = simp e; cbs = simp e; crs = simp e }

  module _ (e : v ≡ pass) {luma' : List ℕ} (is : luma' ≡ made) where
    pub picture_mono : colour_at place file ≡ false → LeavesPlanes v l place file made luma cb cr (Ok Mono) luma' cb cr
    picture_mono mono = record { says = says (sym e); value = simp (e, mono); lumas = simp e is; cbs = simp (e, mono); crs = simp (e, mono) }

    pub picture_colour : colour_at place file ≡ true → {cb' cr' : List ℕ}
        → cb' ≡ cb_from l (luma_in file place) (chroma_in file place) (cleared (plane_length 8 l)) → cr' ≡ cr_from l (luma_in file place) (chroma_in file place) (cleared (plane_length 8 l))
        → LeavesPlanes v l place file made luma cb cr (Ok Colour) luma' cb' cr'
    picture_colour colour {cb'} {cr'} is-cb is-cr =
        record {
          says = says (sym e);
          value = simp (e, colour);
          lumas = simp e is;
          cbs = is-cb ∙ sym (ap (λ (w : Verdict Refusal). written w (cb_of l place file cb) cb) e ∙ ap (λ (b : Bool). cond b (cb_from l (luma_in file place) (chroma_in file place) (cleared (plane_length 8 l))) cb) colour);
          crs = is-cr ∙ sym (ap (λ (w : Verdict Refusal). written w (cr_of l place file cr) cr) e ∙ ap (λ (b : Bool). cond b (cr_from l (luma_in file place) (chroma_in file place) (cleared (plane_length 8 l))) cr) colour);
        }

-- ---- from the head on

module _ (file luma cb cr : List ℕ) where
  pub picture_head_refused : {h : Result Head Refusal} {r : Refusal} → ReadsHead file h → h ≡ Err r → DecodesPicture file luma cb cr (Err r) luma cb cr
  picture_head_refused {h} {r} p e =
      picture_refused (layout_in file) (long_at file) file (decoded_plane file) luma cb cr
      (chain_refused (head_tests file) (picture_tests (layout_in file) (long_at file) file luma cb cr) r (sym (says_same p.says) ∙ ap said e))

  pub picture_by : {l : Layout} {long : ℕ} {r : Result Decoded Refusal} {luma' cb' cr' : List ℕ} → LegalHead file l long
      → LeavesPlanes (chain (picture_tests l long file luma cb cr)) l long file (decoded l (luma_in file long)) luma cb cr r luma' cb' cr'
      → DecodesPicture file luma cb cr r luma' cb' cr'
  picture_by {l} {long} {r} {luma'} {cb'} {cr'} h d =
      let v = chain_passed (head_tests file) (picture_tests (layout_in file) (long_at file) file luma cb cr) h.passed in
      coe 0 1 (i. LeavesPlanes (sym v i) (layout_in file) (long_at file) file (decoded_plane file) luma cb cr r luma' cb' cr')
      (coe 0 1 (i. LeavesPlanes (chain (picture_tests (h.tells i) (h.ends i) file luma cb cr)) (h.tells i) (h.ends i) file (decoded (h.tells i) (luma_in file (h.ends i))) luma cb cr r luma' cb' cr') d)
