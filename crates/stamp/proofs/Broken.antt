-- When a decoder says that a file is broken, and where (`specs/Requests`, Req 03).
--     broken_word                                the words with one of the four numbers
--     broken_told; picture_only, picture_if      the tests of `fb_decode_plane` that stop so, and those of `fb_decode_picture`
--     fb_decode_plane_broken_exactly_if, fb_decode_picture_broken_exactly_if     the claims of these names
-- Assumes nothing.
use mathlib.Core.Path.{◌≡◌, refl, sym, ap, subst, ◌∙◌}
use mathlib.Core.Bool.{Bool, true, false}
use mathlib.Core.List.{List}
use mathlib.Core.Logic.{inl, inr, ◌↔◌}
use Prim.Native.Nat.{ℕ, ◌/◌, ◌%◌}
use borrow.Author.Tests.{eqb-true, eqb-false}
use lib.Dec.{eqb}
use lib.ListN.{length}
use Rattle.lists.specs.Chain.{Test, Verdict, pass, stop, chain, RefusedWith}
use Rattle.lists.proofs.Chain.{pass_not_stop, same_stop, chain_exactly_if, chain_passed, chain_refused}
use Rattle.refusal.specs.declared.Refusal.{Refusal}
use Rattle.refusal.specs.declared.Refusal.TheVariants.{Length, Form, Mark, Number, Sum}
use Rattle.refusal.specs.Faults.{is_broken}
use Rattle.refusal.specs.Number as sent
use Rattle.refusal.specs.Number.{number_of, place_of}
use Rattle.refusal.proofs.Faults.{false_not_true}
use Rattle.refusal.proofs.Same.{same_verdict}
use Rattle.head.specs.Entry.{head_tests, long_at}
use Rattle.picture.specs.declared.Layout.{Layout}
use Rattle.picture.specs.Plane.{plane_length}
use Rattle.plane.specs.Decode.{layout_in, records_tests, body_tests, decode_tests}
use Rattle.plane.proofs.Broken.{mark_told, number_told, sum_told, form_told}
use Rattle.plane.proofs.Entry.{plane_short, body_rest}
use Rattle.frame.specs.Decode.{planes_tests, picture_tests, decode_picture_tests}
use Rattle.frame.proofs.Tested.{planes_told, planes_pass}
use Rattle.fleecebutton.specs.Word.{places, word_of}
use Rattle.fleecebutton.proofs.Told as told
use Rattle.stamp.specs.Calls.{fb_decode_plane, fb_decode_picture, given, before}
use Rattle.stamp.specs.Demand1.{tests_of}
use Rattle.stamp.specs.Requests as paper
use Rattle.stamp.specs.Requests.{Broken, form, mark, number, sum, number_for, BrokenAt, ChromaFits, Request}

-- ---- the four numbers

abbrev refusal_for : Broken → ℕ → Refusal
refusal_for form place = Form place
refusal_for mark place = Mark place
refusal_for number place = Number place
refusal_for sum place = Sum place

-- a refusal of that number and place, which says that a file is broken
record For (k : Broken) (place : ℕ) : Type 0 where
  numbered : number_of (refusal_for k place) ≡ number_for k
  placed : place_of (refusal_for k place) ≡ place
  broken : is_broken (refusal_for k place) ≡ true

for : (k : Broken) (place : ℕ) → For k place
for form place = record { numbered = refl; placed = refl; broken = refl }
for mark place = record { numbered = refl; placed = refl; broken = refl }
for number place = record { numbered = refl; placed = refl; broken = refl }
for sum place = record { numbered = refl; placed = refl; broken = refl }

-- ---- words

-- tests that stop so, and the word's place
abbrev StopsSo : List (Test Refusal) → Broken → (above place : ℕ) → Type 0
StopsSo ts k above place = (chain ts ≡ stop (refusal_for k place)) × (above ≡ place % places)

broken_word : (ts : List (Test Refusal)) (value : ℕ) (k : Broken) {w : ℕ} → w ≡ word_of (chain ts) value → (w % 256 ≡ number_for k) ↔ ((place : ℕ) × StopsSo ts k (w / 256) place)
broken_word ts value k is = subst (λ (u : ℕ). (u % 256 ≡ number_for k) ↔ ((place : ℕ) × StopsSo ts k (u / 256) place)) (sym is) (only, if)
  where
    -- a verdict is known by its number and place
    only : word_of (chain ts) value % 256 ≡ number_for k → (place : ℕ) × StopsSo ts k (word_of (chain ts) value / 256) place
    only e =
        let p = sent.place (chain ts) in
        let v : chain ts ≡ stop (refusal_for k p) =
        same_verdict (chain ts) (stop (refusal_for k p)) (sym (told.number_told (chain ts) value) ∙ e ∙ sym (for k p).numbered) (sym (for k p).placed) in
        (p, (v, ap (λ (w : Verdict Refusal). word_of w value / 256) v ∙ told.place_told (refusal_for k p) value ∙ ap (λ (n : ℕ). n % places) (for k p).placed))

    if : ((place : ℕ) × StopsSo ts k (word_of (chain ts) value / 256) place) → word_of (chain ts) value % 256 ≡ number_for k
    if h =
        ap (λ (v : Verdict Refusal). word_of v value % 256) h.1.0 ∙ told.number_told (stop (refusal_for k h.0)) value ∙ (for k h.0).numbered

-- ---- `fb_decode_plane`

broken_told : (k : Broken) (file plane : List ℕ) (place : ℕ) → (chain (decode_tests file plane) ≡ stop (refusal_for k place)) ↔ BrokenAt k file plane place
broken_told form file plane place = form_told file plane place
broken_told mark file plane place = mark_told file plane place
broken_told number file plane place = number_told file plane place
broken_told sum file plane place = sum_told file plane place

pub fb_decode_plane_broken_exactly_if : Request paper.fb_decode_plane_broken_exactly_if
fb_decode_plane_broken_exactly_if c k =
    let h = broken_word (tests_of fb_decode_plane (given c) (before c)) 0 k c.call.learnt.word in (
      λ e. let s = h.0 e in (s.0, (broken_told k (given c).file (before c) s.0).0 s.1.0, s.1.1),
      λ b. h.1 (b.0, ((broken_told k (given c).file (before c) b.0).1 b.1, b.2)),
    )

-- ---- `fb_decode_picture`: the same tests, and two lengths behind the head

-- the planes' tests refuse with LENGTH, which says nothing of the file
planes_refuse : (l : Layout) (luma cb cr : ℕ) (r : Refusal) → RefusedWith (planes_tests l luma cb cr) r → r ≡ Length
planes_refuse l luma cb cr r (inl (a, q)) = q
planes_refuse l luma cb cr r (inr (a, inl (b, q))) = q
planes_refuse l luma cb cr r (inr (a, inr (b, inl (c, q)))) = q
planes_refuse l luma cb cr r (inr (a, inr (b, inr (c, q)))) = absurd q

module _ (file luma cb cr : List ℕ) (t : Refusal) (broken : is_broken t ≡ true) where
  abbrev l : Layout
  l = layout_in file

  abbrev start : ℕ
  start = long_at file

  abbrev behind : List (Test Refusal)
  behind = picture_tests l start file luma cb cr

  not_length : t ≡ Length → ⊥
  not_length e = false_not_true (sym (ap is_broken e) ∙ broken)

  head_only : chain (head_tests file) ≡ pass → chain behind ≡ stop t → (chain (decode_tests file luma) ≡ stop t) × ChromaFits file cb cr
  head_only head e = by (chain (planes_tests l (length luma) (length cb) (length cr))) refl
    where
      by : (v : Verdict Refusal) → chain (planes_tests l (length luma) (length cb) (length cr)) ≡ v → (chain (decode_tests file luma) ≡ stop t) × ChromaFits file cb cr
      by pass q =
          let fit = planes_told l (length luma) (length cb) (length cr) q in (
            chain_passed (head_tests file) (body_tests l start file luma) head ∙ body_rest l start file luma fit.luma_fits
                ∙ sym (chain_passed (planes_tests l (length luma) (length cb) (length cr)) (records_tests l start file) q) ∙ e,
            λ all. (fit.cb_fits, fit.cr_fits),
          )
      by (stop r) q =
          let same : r ≡ t = same_stop (sym (chain_refused (planes_tests l (length luma) (length cb) (length cr)) (records_tests l start file) r q) ∙ e) in
          absurd (not_length (sym same ∙ planes_refuse l (length luma) (length cb) (length cr) r (((chain_exactly_if (planes_tests l (length luma) (length cb) (length cr))).refuses r).0 q)))

  picture_only : chain (decode_picture_tests file luma cb cr) ≡ stop t → (chain (decode_tests file luma) ≡ stop t) × ChromaFits file cb cr
  picture_only e = by (chain (head_tests file)) refl
    where
      by : (v : Verdict Refusal) → chain (head_tests file) ≡ v → (chain (decode_tests file luma) ≡ stop t) × ChromaFits file cb cr
      by pass q = head_only q (sym (chain_passed (head_tests file) behind q) ∙ e)
      by (stop r) q = (
        chain_refused (head_tests file) (body_tests l start file luma) r q ∙ sym (chain_refused (head_tests file) behind r q) ∙ e,
        λ all. absurd (pass_not_stop (sym ((chain_exactly_if (head_tests file)).passes.1 all) ∙ q)),
      )

  head_if : chain (head_tests file) ≡ pass → chain (body_tests l start file luma) ≡ stop t → ChromaFits file cb cr → chain behind ≡ stop t
  head_if head e fits = by (eqb (length luma) (plane_length 16 l)) refl
    where
      by : (b : Bool) → eqb (length luma) (plane_length 16 l) ≡ b → chain behind ≡ stop t
      by true q =
          let long = eqb-true (length luma) (plane_length 16 l) q in
          let room = fits ((chain_exactly_if (head_tests file)).passes.0 head) in
          chain_passed (planes_tests l (length luma) (length cb) (length cr)) (records_tests l start file) (planes_pass l (length luma) (length cb) (length cr) long room.0 room.1)
          ∙ sym (body_rest l start file luma long) ∙ e
      by false q = absurd (not_length (same_stop (sym e ∙ plane_short l start file luma (eqb-false (length luma) (plane_length 16 l) q))))

  picture_if : chain (decode_tests file luma) ≡ stop t → ChromaFits file cb cr → chain (decode_picture_tests file luma cb cr) ≡ stop t
  picture_if e fits = by (chain (head_tests file)) refl
    where
      by : (v : Verdict Refusal) → chain (head_tests file) ≡ v → chain (decode_picture_tests file luma cb cr) ≡ stop t
      by pass q = chain_passed (head_tests file) behind q ∙ head_if q (sym (chain_passed (head_tests file) (body_tests l start file luma) q) ∙ e) fits
      by (stop r) q = chain_refused (head_tests file) behind r q ∙ sym (chain_refused (head_tests file) (body_tests l start file luma) r q) ∙ e

pub fb_decode_picture_broken_exactly_if : Request paper.fb_decode_picture_broken_exactly_if
fb_decode_picture_broken_exactly_if c k =
    let file = (given c).file in
    let o = before c in
    let h = broken_word (tests_of fb_decode_picture (given c) o) _ k c.call.learnt.word in (
      λ e.
          let s = h.0 e in
          let p = picture_only file o.luma o.cb o.cr (refusal_for k s.0) (for k s.0).broken s.1.0 in
          (p.1, (s.0, (broken_told k file o.luma s.0).0 p.0, s.1.1)),
      λ b.
          let s = b.1 in
          h.1 (s.0, (picture_if file o.luma o.cb o.cr (refusal_for k s.0) (for k s.0).broken ((broken_told k file o.luma s.0).1 s.1) b.0, s.2)),
    )
