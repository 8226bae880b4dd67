-- "Everything our own coder writes with its rebuilt plane is accepted" (02, Req 11), of any call of `inspect` with the bytes that a call of a coder
-- used and the luma plane that it rebuilt, over both functions' own readings: with a stroke those of `inspect`.
--     own_accepted            of `code_plane`
--     own_colour_accepted     of `code_picture`
-- Assumes nothing.
use mathlib.Core.Path.{◌≡◌, subst}
use mathlib.Core.List.{List}
use Prim.Native.Nat.{ℕ}
use contract.Lifetimes.{Lfts}
use denote.Triple.Clauses.{AtExit}
use borrow.Fn.Kinds.{Dens, res_t, ended_of}
use lib.ListN.{take}
use Rattle.lists.specs.Bytes.{Bytes}
use Rattle.plane.specs.Code.{CodesPlane}
use Rattle.plane.proofs.CodedOutcome.{outcome}
use Rattle.plane.proofs.Trip.{coder_decoder_agree}
use Rattle.plane.proofs.code_plane.Kinds as plane
use Rattle.plane.proofs.code_plane.Reads as plane_reads
use Rattle.frame.specs.Code.{CodesPicture}
use Rattle.frame.proofs.Agree.{colour_luma_decoded}
use Rattle.frame.proofs.FrameOutcome.{frame_outcome}
use Rattle.frame.proofs.code_picture.Kinds as picture
use Rattle.frame.proofs.code_picture.Reads as picture_reads
use Rattle.inspection.specs.Inspect.{Inspects}
use Rattle.inspection.proofs.Promised.{decoded_accepted}
use Rattle.inspection.proofs.inspect.Kinds as inspect
use Rattle.inspection.proofs.inspect.Reads as inspect_reads
use Rattle.std.specs.Prelude.{Ok, Result}
use Rattle.refusal.specs.declared.Refusal.{Refusal}

module _ (κs' : Lfts 2) (a' : Dens κs' inspect.ps) (r' : (res_t inspect.r κs').Denot) (e' : AtExit (ended_of 2 inspect.ps inspect.r) κs') (p' : inspect_reads.Learnt κs' a' r' e') where
  -- of what was lent to it
  of_these : {file theirs : List ℕ} → a'.0.now ≡ file → a'.1.0.now ≡ theirs → Inspects file theirs r'
  of_these f t = coe 0 1 (i. Inspects (f i) (t i) r') p'

  module _ (κs : Lfts 3) (a : Dens κs plane.ps) (r : (res_t plane.r κs).Denot) (e : AtExit (ended_of 3 plane.ps plane.r) κs) (p : plane_reads.Learnt κs a r e) where
    -- the plane; the file area and the rebuilt plane, as they were lent and as they are left
    abbrev original : List ℕ
    original = a.1.1.1.1.0.now

    abbrev file : List ℕ
    file = a.1.1.1.1.1.0.now

    abbrev rebuilt : List ℕ
    rebuilt = a.1.1.1.1.1.1.0.now

    abbrev file_left : List ℕ
    file_left = e.1.1.1.1.1.0.now

    abbrev rebuilt_left : List ℕ
    rebuilt_left = e.1.1.1.1.1.1.0.now

    pub own_accepted : Bytes original → (used : ℕ) → r ≡ Ok used → a'.0.now ≡ take used file_left → a'.1.0.now ≡ rebuilt_left → r' ≡ Ok tt
    own_accepted bytes used is same_file same_plane =
        let c = subst (λ (x : Result ℕ Refusal). CodesPlane a.0 a.1.0 a.1.1.0 a.1.1.1.0 original file rebuilt x file_left rebuilt_left) is p in
        let o = outcome a.0 a.1.0 a.1.1.0 a.1.1.1.0 original file rebuilt used file_left rebuilt_left c in
        let d = (coder_decoder_agree a.0 a.1.0 a.1.1.0 a.1.1.1.0 original file rebuilt used file_left rebuilt_left bytes c rebuilt o.room).0 in
        decoded_accepted (take used file_left) rebuilt rebuilt_left r' d (of_these same_file same_plane)

  module _ (κs : Lfts 7) (a : Dens κs picture.ps) (r : (res_t picture.r κs).Denot) (e : AtExit (ended_of 7 picture.ps picture.r) κs) (p : picture_reads.Learnt κs a r e) where
    -- the three planes; the file area and luma's rebuilt plane, as they are left
    abbrev luma : List ℕ
    luma = a.1.1.1.1.1.1.0.now

    abbrev cb : List ℕ
    cb = a.1.1.1.1.1.1.1.0.now

    abbrev cr : List ℕ
    cr = a.1.1.1.1.1.1.1.1.0.now

    abbrev frame_left : List ℕ
    frame_left = e.1.1.1.1.1.1.1.1.1.0.now

    abbrev luma_left : List ℕ
    luma_left = e.1.1.1.1.1.1.1.1.1.1.0.now

    pub own_colour_accepted : Bytes luma → Bytes cb → Bytes cr → (used : ℕ) → r ≡ Ok used → a'.0.now ≡ take used frame_left → a'.1.0.now ≡ luma_left → r' ≡ Ok tt
    own_colour_accepted bytes cbBytes crBytes used is same_file same_plane =
        let area = a.1.1.1.1.1.1.1.1.1.0.now in
        let lumaOut = a.1.1.1.1.1.1.1.1.1.1.0.now in
        let cbOut = a.1.1.1.1.1.1.1.1.1.1.1.0.now in
        let crOut = a.1.1.1.1.1.1.1.1.1.1.1.1.0.now in
        let cb-left = e.1.1.1.1.1.1.1.1.1.1.1.0.now in
        let cr-left = e.1.1.1.1.1.1.1.1.1.1.1.1.0.now in
        let c =
        subst
        (λ (x : Result ℕ Refusal).
        CodesPicture a.0 a.1.0 a.1.1.0 a.1.1.1.0 a.1.1.1.1.0 a.1.1.1.1.1.0 luma cb cr area lumaOut cbOut crOut x frame_left luma_left cb-left cr-left)
        is p in
        let o =
        frame_outcome a.0 a.1.0 a.1.1.0 a.1.1.1.0 a.1.1.1.1.0 a.1.1.1.1.1.0 luma cb cr area lumaOut cbOut crOut used frame_left luma_left cb-left cr-left c in
        let d =
        colour_luma_decoded a.0 a.1.0 a.1.1.0 a.1.1.1.0 a.1.1.1.1.0 a.1.1.1.1.1.0 luma cb cr area lumaOut cbOut crOut used frame_left luma_left cb-left cr-left c
        bytes cbBytes crBytes lumaOut o.room.luma_fits in
        decoded_accepted (take used frame_left) lumaOut luma_left r' d (of_these same_file same_plane)
