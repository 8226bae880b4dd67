-- What the tests of coding a picture come to, and what is known where it does not refuse.
--     frame_refused, picture_coded     a law for each answer of the code, where the size and the rows hold
--     FrameOutcome, frame_outcome     where it answers `Ok`, no test has failed: the file stands in the bytes used, and the rest keep theirs
-- Assumes nothing.
use mathlib.Core.Path.{◌≡◌, refl, sym, ap, ◌∙◌}
use mathlib.Core.Bool.{true}
use mathlib.Core.List.{List}
use Prim.Native.Nat.{ℕ, ◌≤◌}
use native.Mathlib.Omega.{arith}
use lib.IntN.{ℤ, pos}
use lib.ListN.{length, take, drop}
use lib.Seq.{take_at, drop_at}
use Rattle.lists.specs.Chain.{pass, stop, chain}
use Rattle.lists.specs.Parts.{over}
use Rattle.lists.proofs.Chain.{chain_exactly_if, holds_new}
use Rattle.refusal.specs.declared.Refusal.{Refusal}
use Rattle.refusal.proofs.Same.{says, says_same}
use Rattle.whole.specs.Notation.{minus}
use Rattle.whole.specs.Range.{inside}
use Rattle.quantizer.specs.Range.{highest}
use Rattle.head.specs.Entry.{size_holds, rows_hold}
use Rattle.picture.specs.declared.Layout.{Layout}
use Rattle.picture.specs.Both.{Both, pair}
use Rattle.picture.specs.Plane.{plane_length}
use Rattle.plane.specs.Code.{in_slices, plane_from, coded_plane}
use Rattle.plane.specs.Decode.{cleared}
use Rattle.frame.specs.Code.{frame_from, both_from, both_cleared, coded_frame, coded_both, frame_tests, code_picture_tests, CodesPicture}
use Rattle.frame.proofs.CodedFrame.{length_coded_frame}
use Rattle.frame.proofs.Tested.{PlanesFit, frame_told}
use Rattle.std.specs.Prelude.{Err, Ok}

-- ---- a law for each answer

module _ (width height rows qp : ℕ) (cb_offset cr_offset : ℤ) (luma cb cr file lumaOut cbOut crOut : List ℕ) where
  abbrev l : Layout
  l = in_slices width height rows

  abbrev chroma : Both
  chroma = pair cb cr

  -- nothing is written
  abbrev Untouched : Refusal → Type 0
  Untouched r = CodesPicture width height rows qp cb_offset cr_offset luma cb cr file lumaOut cbOut crOut (Err r) file lumaOut cbOut crOut

  refused : (r : Refusal) → chain (code_picture_tests width height rows qp cb_offset cr_offset luma cb cr file lumaOut cbOut crOut) ≡ stop r → Untouched r
  refused r e = record { says = says (sym e); used = simp e; filed = simp e; lumas = simp e; cbs = simp e; crs = simp e }

  module _ (s : size_holds width height ≡ true) (n : rows_hold height rows ≡ true) where
    rest : chain (code_picture_tests width height rows qp cb_offset cr_offset luma cb cr file lumaOut cbOut crOut)
        ≡ chain (frame_tests l qp cb_offset cr_offset (length luma) (length cb) (length cr) (length file) (length lumaOut) (length cbOut) (length crOut))
    rest = rw (s, n)

    pub frame_refused : {r : Refusal}
        → chain (frame_tests l qp cb_offset cr_offset (length luma) (length cb) (length cr) (length file) (length lumaOut) (length cbOut) (length crOut)) ≡ stop r → Untouched r
    frame_refused {r} h = refused r (rest ∙ h)

    -- `number`, `for-cb` and `for-cr` are the quantizer's and the offsets as the call takes them, `start` and `starts` the planes as it finds them
    pub picture_coded : chain (frame_tests l qp cb_offset cr_offset (length luma) (length cb) (length cr) (length file) (length lumaOut) (length cbOut) (length crOut)) ≡ pass
        → {number : ℕ} {for-cb for-cr : ℤ} {start : List ℕ} {starts : Both} → number ≡ qp → for-cb ≡ cb_offset → for-cr ≡ cr_offset
        → start ≡ cleared (plane_length 16 l) → starts ≡ both_cleared l
        → {used : ℕ} {file' lumaOut' cbOut' crOut' : List ℕ} → used ≡ length (frame_from l number for-cb for-cr luma chroma start starts)
        → file' ≡ over (frame_from l number for-cb for-cr luma chroma start starts) file
        → lumaOut' ≡ plane_from l number luma start
        → pair cbOut' crOut' ≡ both_from l number for-cb for-cr chroma starts
        → CodesPicture width height rows qp cb_offset cr_offset luma cb cr file lumaOut cbOut crOut (Ok used) file' lumaOut' cbOut' crOut'
    picture_coded passed {number} {for-cb} {for-cr} {start} {starts} is_number is-cb is-cr is-start is-starts is-used is-file is-luma is-both =
        let e = rest ∙ passed in
        let made : frame_from l number for-cb for-cr luma chroma start starts ≡ coded_frame l qp cb_offset cr_offset luma chroma =
        λ i. frame_from l (is_number i) (is-cb i) (is-cr i) luma chroma (is-start i) (is-starts i) in
        let both = is-both ∙ (λ i. both_from l (is_number i) (is-cb i) (is-cr i) chroma (is-starts i)) in
        record {
          says = says (sym e);
          used = simp e (is-used ∙ ap length made);
          filed = simp e (is-file ∙ ap (λ (x : List ℕ). over x file) made);
          lumas = simp e (is-luma ∙ (λ i. plane_from l (is_number i) luma (is-start i)));
          cbs = simp e (ap (λ (b : Both). b.cb) both);
          crs = simp e (ap (λ (b : Both). b.cr) both);
        }

-- ---- what an answer tells

-- what is known where a picture was coded
pub record FrameOutcome (width height rows qp : ℕ) (cb_offset cr_offset : ℤ) (luma cb cr file lumaOut cbOut crOut : List ℕ) (used : ℕ) (file' lumaOut' cbOut' crOut' : List ℕ) : Type 0 where
  pub size : size_holds width height ≡ true
  pub sliced : rows_hold height rows ≡ true
  pub given : PlanesFit (in_slices width height rows) (length luma) (length cb) (length cr)
  pub room : PlanesFit (in_slices width height rows) (length lumaOut) (length cbOut) (length crOut)
  pub legal : qp ≤ highest
  pub cb_inside : inside (minus 12) (pos 12) cb_offset ≡ true
  pub cr_inside : inside (minus 12) (pos 12) cr_offset ≡ true
  pub bytes : used ≡ length (coded_frame (in_slices width height rows) qp cb_offset cr_offset luma (pair cb cr))
  pub within : used ≤ length file
  pub filed : take used file' ≡ coded_frame (in_slices width height rows) qp cb_offset cr_offset luma (pair cb cr)
  pub kept : drop used file' ≡ drop used file
  pub lumas : lumaOut' ≡ coded_plane (in_slices width height rows) qp luma
  pub cbs : cbOut' ≡ (coded_both (in_slices width height rows) qp cb_offset cr_offset (pair cb cr)).cb
  pub crs : crOut' ≡ (coded_both (in_slices width height rows) qp cb_offset cr_offset (pair cb cr)).cr

module _ (width height rows qp : ℕ) (cb_offset cr_offset : ℤ) (luma cb cr : List ℕ) where
  abbrev made : List ℕ
  made = coded_frame (in_slices width height rows) qp cb_offset cr_offset luma (pair cb cr)

  pub frame_outcome : (file lumaOut cbOut crOut : List ℕ) (used : ℕ) (file' lumaOut' cbOut' crOut' : List ℕ)
      → CodesPicture width height rows qp cb_offset cr_offset luma cb cr file lumaOut cbOut crOut (Ok used) file' lumaOut' cbOut' crOut'
      → FrameOutcome width height rows qp cb_offset cr_offset luma cb cr file lumaOut cbOut crOut used file' lumaOut' cbOut' crOut'
  frame_outcome file lumaOut cbOut crOut used file' lumaOut' cbOut' crOut' c =
      let l = in_slices width height rows in
      let tests = code_picture_tests width height rows qp cb_offset cr_offset luma cb cr file lumaOut cbOut crOut in
      let v : chain tests ≡ pass = sym (says_same c.says) in
      let all = (chain_exactly_if tests).passes.0 v in
      let behind = frame_tests l qp cb_offset cr_offset (length luma) (length cb) (length cr) (length file) (length lumaOut) (length cbOut) (length crOut) in
      let told = frame_told l qp cb_offset cr_offset (length luma) (length cb) (length cr) (length file) (length lumaOut) (length cbOut) (length crOut) ((chain_exactly_if behind).passes.1 all.1.1) in
      let n = length_coded_frame l qp cb_offset cr_offset luma (pair cb cr) in
      let bytes = holds_new 0 v c.used in
      let filed = holds_new file v c.filed in
      record {
        size = all.0;
        sliced = all.1.0;
        given = told.given;
        room = told.rebuilt;
        legal = told.legal;
        cb_inside = told.cb_inside;
        cr_inside = told.cr_inside;
        bytes = bytes;
        within = omega (arith, bytes, n, told.area);
        filed = (λ i. take (bytes i) (filed i)) ∙ take_at made (drop (length made) file) (length made) refl;
        kept = (λ i. drop (bytes i) (filed i)) ∙ drop_at made (drop (length made) file) (length made) refl ∙ ap (λ (n : ℕ). drop n file) (sym bytes);
        lumas = holds_new lumaOut v c.lumas;
        cbs = holds_new cbOut v c.cbs;
        crs = holds_new crOut v c.crs;
      }
