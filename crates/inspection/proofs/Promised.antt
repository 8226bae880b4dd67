-- What inspection answers (02, Req 11), of any call of `inspect`, over its own reading, and of calls of the decoder over theirs: a holds a call's
-- arguments, r its answer, e what is lent at its exit, p what is learnt of it; with a stroke those of the decoder.
--     accepts_exactly_if       it accepts exactly if the decoder accepts the file and its luma plane is theirs
--     differs_exactly_if       it answers 17 with a place exactly if this sample is the first that differs
--     inspects_as_decoding     its answer is that of decoding into any plane of that length, and comparing
--     decoded_passes, decoded_accepted     a plane that the decoder left of a file is accepted with it
-- Assumes nothing.
use mathlib.Core.Path.{◌≡◌, refl, sym, ap, subst, ◌∙◌}
use mathlib.Core.List.{List, [], ◌∷◌, ◌++◌}
use mathlib.Core.Logic.{◌↔◌, inl, inr}
use Prim.Native.Nat.{ℕ, ◌<◌}
use native.Mathlib.Omega.{arith}
use borrow.Author.Tests.{eqb-true, eq-eqb, eqb-false}
use contract.Lifetimes.{Lfts}
use denote.Triple.Clauses.{AtExit}
use borrow.Fn.Kinds.{Dens, res_t, ended_of}
use lib.ListN.{length}
use Rattle.lists.specs.Chain.{Verdict, pass, stop, chain, RefusedWith}
use Rattle.lists.proofs.Chain.{chain_exactly_if, scan_found}
use Rattle.lists.proofs.Chains.{chain_front, chain_behind}
use Rattle.lists.proofs.Tab.{length_tab}
use Rattle.refusal.specs.Number.{said, place_of}
use Rattle.refusal.specs.Tests.{length_test}
use Rattle.refusal.specs.declared.Refusal.{Refusal}
use Rattle.refusal.specs.declared.Refusal.TheVariants.{Differs}
use Rattle.refusal.proofs.Same.{says_same, same_answer}
use Rattle.head.specs.Entry.{head_tests, long_at, width_at, height_at}
use Rattle.head.proofs.Heads.{size_tells}
use Rattle.picture.specs.declared.Layout.{Layout}
use Rattle.picture.specs.Plane.{plane_length}
use Rattle.picture.proofs.Steps.{first_steps}
use Rattle.macroblock.specs.Rebuild.{rebuilt_step}
use Rattle.macroblock.proofs.Looks.{rebuilt_step_law}
use Rattle.plane.specs.Decode.{records_tests, body_tests, layout_in, decode_tests, rebuilt_from, cleared, decoded, decoded_plane, Decodes}
use Rattle.plane.proofs.Start.{decoded_is}
use Rattle.inspection.specs.Inspect.{first_differing, differs_test, inspect_tests, Inspects, DiffersFirst, then_compared}
use Rattle.inspection.proofs.Differences.{all_like, differing_none, differing_at, differing_tells}
use Rattle.inspection.proofs.Entry.{decoder_refuses, decoder_accepts}
use Rattle.inspection.proofs.Never.{decoder_never_differs}
use Rattle.plane.proofs.decode_plane.Kinds as decode
use Rattle.plane.proofs.decode_plane.Reads as decode_reads
use Rattle.inspection.proofs.inspect.Kinds as call
use Rattle.inspection.proofs.inspect.Reads as reads
use Rattle.std.specs.Prelude.{Err, Ok, Result}

-- ---- what the decoder says of planes

length_decoded : (l : Layout) → 0 < l.width → (records : ℕ → List ℕ) → length (decoded l records) ≡ plane_length 16 l
unfolding rebuilt_from
length_decoded l some records =
    (first_steps 16 (omega arith) l some (λ m. rebuilt_step l m (records m)) (λ m h. rebuilt_step_law l some m h (records m)) _ (omega arith)).long (cleared (plane_length 16 l))
    ∙ length_tab (plane_length 16 l) _

module _ (file plane : List ℕ) (passed : chain (decode_tests file plane) ≡ pass) where
  head_fine : chain (head_tests file) ≡ pass
  head_fine = chain_front (head_tests file) (body_tests (layout_in file) (long_at file) file plane) passed

  wide_enough : 0 < width_at file
  wide_enough = (size_tells (width_at file) (height_at file) ((chain_exactly_if (head_tests file)).passes.0 head_fine).1.1.1.1.0).some

  lent_length : length plane ≡ plane_length 16 (layout_in file)
  lent_length =
      let body = chain_behind (head_tests file) (body_tests (layout_in file) (long_at file) file plane) passed in
      eqb-true (length plane) (plane_length 16 (layout_in file)) ((chain_exactly_if (body_tests (layout_in file) (long_at file) file plane)).passes.0 body).0

  plane_length_law : length (decoded_plane file) ≡ plane_length 16 (layout_in file)
  plane_length_law = length_decoded (layout_in file) wide_enough _

-- the decoder's tests ask of a plane its length alone
by_length : (file p q : List ℕ) → length p ≡ length q → chain (decode_tests file p) ≡ chain (decode_tests file q)
by_length file p q e = λ i. chain (head_tests file ++ (length_test (plane_length 16 (layout_in file)) (e i) ∷ records_tests (layout_in file) (long_at file) file))

-- ---- what inspection answers

module _ (file theirs : List ℕ) where
  abbrev found : ℕ
  found = first_differing (layout_in file) (decoded_plane file) theirs

  abbrev all : ℕ
  all = plane_length 16 (layout_in file)

  none_differs : chain (differs_test (layout_in file) (decoded_plane file) theirs ∷ []) ≡ pass → found ≡ all
  none_differs e = eqb-true found all ((chain_exactly_if (differs_test (layout_in file) (decoded_plane file) theirs ∷ [])).passes.0 e).0

  -- where theirs is the file's plane, the samples' test passes too
  none_differing : chain (decode_tests file theirs) ≡ pass → theirs ≡ decoded_plane file → chain (inspect_tests file theirs) ≡ pass
  none_differing d same =
      let none : found ≡ all = ap (first_differing (layout_in file) (decoded_plane file)) same ∙ differing_none (layout_in file) (wide_enough file theirs d) (decoded_plane file) in
      decoder_accepts file theirs d ∙ rw (eq-eqb found all none)

  -- the samples' test alone
  first_of : chain (decode_tests file theirs) ≡ pass → {place : ℕ} → chain (differs_test (layout_in file) (decoded_plane file) theirs ∷ []) ≡ stop (Differs place) → DiffersFirst file theirs place
  first_of passed {place} e = by (((chain_exactly_if (differs_test (layout_in file) (decoded_plane file) theirs ∷ [])).refuses (Differs place)).0 e)
    where
      by : RefusedWith (differs_test (layout_in file) (decoded_plane file) theirs ∷ []) (Differs place) → DiffersFirst file theirs place
      by (inl (f, q)) =
          let t = differing_tells (layout_in file) (wide_enough file theirs passed) (decoded_plane file) theirs place (ap place_of q) (eqb-false found all f) in
          record { accepted = passed; among = t.0; here = t.1; none = t.2 }
      by (inr (t, q)) = absurd q

  module _ (r : Result (Unit {0}) Refusal) (p : Inspects file theirs r) where
    accepted_only : r ≡ Ok tt → (chain (decode_tests file theirs) ≡ pass) × (theirs ≡ decoded_plane file)
    accepted_only is =
        let v : chain (inspect_tests file theirs) ≡ pass = sym (says_same p) ∙ ap said is in
        let d = chain_front (decode_tests file theirs) (differs_test (layout_in file) (decoded_plane file) theirs ∷ []) v in
        let t = chain_behind (decode_tests file theirs) (differs_test (layout_in file) (decoded_plane file) theirs ∷ []) v in
        (d, sym (all_like (layout_in file) (wide_enough file theirs d) (decoded_plane file) theirs (plane_length_law file theirs d) (lent_length file theirs d) (none_differs t)))

    accepted_if : chain (decode_tests file theirs) ≡ pass → theirs ≡ decoded_plane file → r ≡ Ok tt
    accepted_if d same = same_answer r (Ok tt) (says_same p ∙ none_differing d same)

    differs_only : (place : ℕ) → r ≡ Err (Differs place) → DiffersFirst file theirs place
    differs_only place is = by (chain (decode_tests file theirs)) refl
      where
        told : chain (inspect_tests file theirs) ≡ stop (Differs place)
        told = sym (says_same p) ∙ ap said is

        by : (v : Verdict Refusal) → chain (decode_tests file theirs) ≡ v → DiffersFirst file theirs place
        by pass q = first_of q (sym (decoder_accepts file theirs q) ∙ told)
        by (stop t) q = absurd (decoder_never_differs file theirs place (q ∙ sym (decoder_refuses file theirs q) ∙ told))

    differs_if : (place : ℕ) → DiffersFirst file theirs place → r ≡ Err (Differs place)
    differs_if place h =
        let e = differing_at (layout_in file) (wide_enough file theirs h.accepted) (decoded_plane file) theirs place h.among h.here h.none in
        same_answer r (Err (Differs place))
        (says_same p ∙ decoder_accepts file theirs h.accepted ∙ scan_found [] refl all found Differs [] (omega (arith, e, h.among)) ∙ ap (λ (k : ℕ). stop (Differs k)) e)

-- decoding, and then comparing
as_decoded : (file before theirs : List ℕ) → length before ≡ length theirs → (r : Result (Unit {0}) Refusal) → Inspects file theirs r → (d : Result (Unit {0}) Refusal) (after : List ℕ) → Decodes file before d after
    → said r ≡ then_compared d (layout_in file) after theirs
as_decoded file before theirs long r p (Ok x) after d =
    let passed : chain (decode_tests file theirs) ≡ pass = by_length file theirs before (sym long) ∙ sym (says_same d.says) in
    says_same p ∙ decoder_accepts file theirs passed ∙ ap (λ (ours : List ℕ). chain (differs_test (layout_in file) ours theirs ∷ [])) (sym (decoded_is file before after d))
as_decoded file before theirs long r p (Err t) after d =
    says_same p ∙ decoder_refuses file theirs (by_length file theirs before (sym long) ∙ sym (says_same d.says))

-- a plane that the decoder left of a file is accepted with it
pub decoded_passes : (file out plane : List ℕ) → Decodes file out (Ok tt) plane → chain (inspect_tests file plane) ≡ pass
decoded_passes file out plane d =
    let passed : chain (decode_tests file out) ≡ pass = sym (says_same d.says) in
    let is = decoded_is file out plane d in
    let long : length plane ≡ length out = ap length is ∙ plane_length_law file out passed ∙ sym (lent_length file out passed) in
    none_differing file plane (by_length file plane out long ∙ passed) is

pub decoded_accepted : (file out plane : List ℕ) (r : Result (Unit {0}) Refusal) → Decodes file out (Ok tt) plane → Inspects file plane r → r ≡ Ok tt
decoded_accepted file out plane r d p = same_answer r (Ok tt) (says_same p ∙ decoded_passes file out plane d)

-- ---- of a call

module _ (κs : Lfts 2) (a : Dens κs call.ps) (r : (res_t call.r κs).Denot) (e : AtExit (ended_of 2 call.ps call.r) κs) (p : reads.Learnt κs a r e) where
  -- the file, and the plane that came with it
  abbrev file : List ℕ
  file = a.0.now

  abbrev theirs : List ℕ
  theirs = a.1.0.now

  pub accepts_exactly_if : (r ≡ Ok tt) ↔ ((chain (decode_tests file theirs) ≡ pass) × (theirs ≡ decoded_plane file))
  accepts_exactly_if = (accepted_only file theirs r p, λ h. accepted_if file theirs r p h.0 h.1)

  pub differs_exactly_if : (place : ℕ) → (r ≡ Err (Differs place)) ↔ DiffersFirst file theirs place
  differs_exactly_if place = (differs_only file theirs r p place, differs_if file theirs r p place)

  -- of a call of the decoder with the same file, and a plane of the same length
  module _ (κs' : Lfts 2) (a' : Dens κs' decode.ps) (r' : (res_t decode.r κs').Denot) (e' : AtExit (ended_of 2 decode.ps decode.r) κs') (p' : decode_reads.Learnt κs' a' r' e')
      (same_file : a'.0.now ≡ file) (same_length : length a'.1.0.now ≡ length theirs)
    where
      pub inspects_as_decoding : said r ≡ then_compared r' (layout_in file) e'.1.0.now theirs
      inspects_as_decoding = as_decoded file a'.1.0.now theirs same_length r p r' e'.1.0.now (subst (λ (f : List ℕ). Decodes f a'.1.0.now r' e'.1.0.now) same_file p')
