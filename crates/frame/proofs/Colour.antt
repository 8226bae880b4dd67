-- "The file is colour exactly if its first macroblock has one; otherwise the decoder's chroma planes keep their bytes and the answer says mono"
-- (02, Req 05), of any call of `decode_picture`, over its own reading: a holds the call's arguments, r its answer, e what is lent at its exit.
--     colour_exactly_if     it answers `Colour` exactly if no test fails and a chroma record stands behind the file's first record
--     mono_exactly_if       it answers `Mono` exactly if no test fails and none stands there
--     mono_keeps_chroma     where it answers `Mono`, both planes of chroma are as they were
--     same_luma             the luma plane is what `decode_plane` leaves of the same file
-- Assumes nothing.
use mathlib.Core.Path.{◌≡◌, sym, ap, ◌∙◌}
use mathlib.Core.Bool.{Bool, true, false, cond}
use mathlib.Core.List.{List}
use mathlib.Core.Logic.{◌↔◌}
use Prim.Native.Nat.{ℕ}
use native.Mathlib.Omega.{arith}
use contract.Lifetimes.{Lfts}
use denote.Triple.Clauses.{AtExit}
use borrow.Fn.Kinds.{Dens, res_t, ended_of}
use Rattle.lists.specs.Chain.{Verdict, pass, chain}
use Rattle.lists.proofs.Chain.{holds_new}
use Rattle.refusal.specs.declared.Refusal.{Refusal}
use Rattle.refusal.proofs.Faults.{false_not_true}
use Rattle.refusal.proofs.Same.{says_same}
use Rattle.head.specs.Entry.{long_at}
use Rattle.record.specs.Records.{colour_at}
use Rattle.plane.specs.Decode.{Decodes}
use Rattle.plane.proofs.Start.{decoded_is}
use Rattle.frame.specs.Decode.{decode_picture_tests, colour_value, colour_number}
use Rattle.frame.specs.declared.Decoded.TheVariants.{Mono, Colour}
use Rattle.frame.proofs.Entry.{same_decoded}
use Rattle.frame.proofs.decode_picture.Kinds as call
use Rattle.frame.proofs.decode_picture.Reads as reads
use Rattle.std.specs.Prelude.{Ok}
use Rattle.refusal.specs.Number.{said}

-- 1 is true's number alone, 0 is false's
number_true : (b : Bool) → colour_number b ≡ 1 → b ≡ true
number_true true e = λ i. true
number_true false e = absurd (omega (arith, e))

number_false : (b : Bool) → colour_number b ≡ 0 → b ≡ false
number_false true e = absurd (omega (arith, e))
number_false false e = λ i. false

-- the second of two, by false
kept : (b : Bool) (made before : List ℕ) → b ≡ false → cond b made before ≡ before
kept true made before e = absurd (false_not_true (sym e))
kept false made before e = λ i. before

module _ (κs : Lfts 4) (a : Dens κs call.ps) (r : (res_t call.r κs).Denot) (e : AtExit (ended_of 4 call.ps call.r) κs) (p : reads.Learnt κs a r e) where
  -- the file; the planes as they were lent, and as they are left
  abbrev file : List ℕ
  file = a.0.now

  abbrev cb : List ℕ
  cb = a.1.1.0.now

  abbrev cr : List ℕ
  cr = a.1.1.1.0.now

  abbrev verdict : Verdict Refusal
  verdict = chain (decode_picture_tests file a.1.0.now cb cr)

  abbrev colour : Bool
  colour = colour_at (long_at file) file

  -- where no test fails the value is the file's
  value_of : verdict ≡ pass → colour_value r ≡ colour_number colour
  value_of v = holds_new 0 v p.value

  pub colour_exactly_if : (r ≡ Ok Colour) ↔ ((verdict ≡ pass) × (colour ≡ true))
  colour_exactly_if = (
    λ is.
        let v : verdict ≡ pass = sym (says_same p.says) ∙ ap said is in
        (v, number_true colour (sym (value_of v) ∙ ap colour_value is)),
    λ h. same_decoded r (Ok Colour) (says_same p.says ∙ h.0) (value_of h.0 ∙ ap colour_number h.1),
  )

  pub mono_exactly_if : (r ≡ Ok Mono) ↔ ((verdict ≡ pass) × (colour ≡ false))
  mono_exactly_if = (
    λ is.
        let v : verdict ≡ pass = sym (says_same p.says) ∙ ap said is in
        (v, number_false colour (sym (value_of v) ∙ ap colour_value is)),
    λ h. same_decoded r (Ok Mono) (says_same p.says ∙ h.0) (value_of h.0 ∙ ap colour_number h.1),
  )

  pub mono_keeps_chroma : r ≡ Ok Mono → (e.1.1.0.now ≡ cb) × (e.1.1.1.0.now ≡ cr)
  mono_keeps_chroma is =
      let h = mono_exactly_if.0 is in (
        holds_new cb h.0 p.cbs ∙ kept colour _ cb h.1,
        holds_new cr h.0 p.crs ∙ kept colour _ cr h.1,
      )

  -- of a picture that was decoded, luma is what `decode_plane` leaves
  pub same_luma : verdict ≡ pass → (before after : List ℕ) → Decodes file before (Ok tt) after → e.1.0.now ≡ after
  same_luma v before after d = holds_new a.1.0.now v p.lumas ∙ sym (decoded_is file before after d)
