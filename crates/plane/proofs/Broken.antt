-- When the decoder says that a file is broken, and where (02, Req 03), of any call of `decode_plane`, over its own reading: a holds the call's
-- arguments, r its answer, e what is lent at its exit.
--     contents_kind                        the refusals of the records' content are those of content
--     FileBroken, refused_only, refused_if what is broken: the head, the first record whose own tests fail, or bytes after the last one
--     SaysBroken, broken_only              what each number says is broken
--     mark_told, number_told, sum_told, form_told     11, 12, 13 and 9, each with its place, of the decoder's tests
--     mark_exactly_if, number_exactly_if, sum_exactly_if, form_exactly_if     and of a call
-- Assumes nothing.
use mathlib.Core.Path.{◌≡◌, refl, sym, ap, subst, ◌∙◌}
use mathlib.Core.Bool.{Bool, true, false, cond}
use mathlib.Core.List.{List, []}
use mathlib.Core.Logic.{◌⊎◌, inl, inr, ◌↔◌}
use Prim.Native.Nat.{ℕ, ◌+◌, ◌-◌, ◌<◌}
use native.Mathlib.Omega.{arith}
use borrow.Author.Tests.{eqb-true, eqb-false, leb-true, leb-false, le-leb, lt-leb}
use contract.Lifetimes.{Lfts}
use denote.Triple.Clauses.{AtExit}
use borrow.Fn.Kinds.{Dens, res_t, ended_of}
use lib.Dec.{eqb}
use lib.ListN.{length}
use Rattle.lists.specs.Chain.{Verdict, pass, stop, chain, RefusedWith}
use Rattle.lists.proofs.Chain.{same_stop, chain_exactly_if, chain_passed, chain_refused}
use Rattle.refusal.specs.declared.Fault.{Fault}
use Rattle.refusal.specs.declared.Fault.TheVariants.{CutMark, Mark, CutRest, Number, Sum}
use Rattle.refusal.specs.declared.Refusal.{Refusal}
use Rattle.refusal.specs.declared.Refusal.TheVariants as refusal
use Rattle.refusal.specs.Faults.{refusal_of, is_broken, is_content}
use Rattle.refusal.specs.Number.{number_of, place_of, said}
use Rattle.refusal.proofs.Faults.{false_not_true, all_of, all_of_law, all_behind, all_parts, content_apart}
use Rattle.refusal.proofs.Same.{says_same, same_answer}
use Rattle.head.specs.Entry.{head_tests, long_at}
use Rattle.record.specs.Faults.{surplus}
use Rattle.record.specs.Records.{qp_in, colour_at, length_from}
use Rattle.record.proofs.Walks.{Faulted, Left, form_refuses_exactly_if}
use Rattle.picture.specs.declared.Layout.{Layout}
use Rattle.picture.specs.Order.{count_of}
use Rattle.picture.specs.Plane.{plane_length}
use Rattle.macroblock.specs.Content.{content_tests}
use Rattle.macroblock.proofs.Contents.{content_kind}
use Rattle.macroblock_chroma.specs.Content.{content_tests_chroma}
use Rattle.macroblock_chroma.proofs.Contents.{chroma_kind}
use Rattle.plane.specs.Broken.{place_in, records_of, FineTo, FirstBroken, MarkRefused, head_mark, record_mark, NumberRefused, record_number, SumRefused, head_sum, record_sum, FormRefused, head_cut, head_short, mark_cut, rest_cut, left_over}
use Rattle.plane.specs.Decode.{luma_in, chroma_in, chroma_place, forms_tests, macroblock_tests, contents_tests, records_tests, body_tests, layout_in, decode_tests}
use Rattle.plane.proofs.Entry.{plane_short, body_rest}
use Rattle.plane.proofs.decode_plane.Kinds as call
use Rattle.plane.proofs.decode_plane.Reads as reads
use Rattle.std.specs.Prelude.{Err}

-- of one macroblock's records, luma's and chroma's, the refusals are those of content; and so of all
records_kind : (l : Layout) (start : ℕ) (file : List ℕ) (m : ℕ) → all_of is_content (macroblock_tests l start file m) ≡ true
unfolding macroblock_tests
records_kind l start file m =
    all_behind is_content (content_tests l m (luma_in file start m)) _ (content_kind l m (luma_in file start m)) (by (colour_at start file))
  where
    by : (b : Bool) → all_of is_content (cond b (content_tests_chroma l m (qp_in (luma_in file start m)) (chroma_place file start m) (chroma_in file start m)) []) ≡ true
    by true = chroma_kind l m (qp_in (luma_in file start m)) (chroma_place file start m) (chroma_in file start m)
    by false = refl

pub contents_kind : (l : Layout) (start : ℕ) (file : List ℕ) → all_of is_content (contents_tests l start file) ≡ true
contents_kind l start file = all_parts is_content (macroblock_tests l start file) (records_kind l start file) (count_of l)

-- the head's own tests say so; or record m is the first whose own tests fail; or bytes are left after the last one
data FileBroken (file before : List ℕ) (r : Refusal) : Type 0 where
  at_head : chain (head_tests file) ≡ stop r → FileBroken file before r
  at_record :
      (m : ℕ) (fault : Fault) → FirstBroken file before fault m → r ≡ refusal_of fault (place_in file m) (length_from (place_in file m) file) (length file) → FileBroken file before r
  behind_last : FineTo file before (records_of file) → place_in file (records_of file) < length file → r ≡ surplus (length file) → FileBroken file before r

module _ (file before : List ℕ) (r : Refusal) (broken : is_broken r ≡ true) where
  abbrev l : Layout
  l = layout_in file

  abbrev start : ℕ
  start = long_at file

  abbrev colour : Bool
  colour = colour_at (long_at file) file

  -- ---- from the refusal to what is wrong

  forms_only : chain (head_tests file) ≡ pass → length before ≡ plane_length 16 l → Faulted colour file start (records_of file) r ⊎ Left colour file start (records_of file) r → FileBroken file before r
  forms_only head plane (inl h) =
      let f = h.first in
      at_record f.0 h.fault (record { before_it = record { head = head; plane = plane; fine = f.3 }; among = f.1; faulty = f.4 })
      (h.is ∙ ap (λ (p : ℕ). refusal_of h.fault p (length_from p file) (length file)) f.2)
  forms_only head plane (inr h) = behind_last (record { head = head; plane = plane; fine = h.fine }) h.more h.is

  records_only : chain (head_tests file) ≡ pass → length before ≡ plane_length 16 l → chain (records_tests l start file) ≡ stop r → FileBroken file before r
  records_only head plane e = by (chain (forms_tests l start file)) refl
    where
      by : (v : Verdict Refusal) → chain (forms_tests l start file) ≡ v → FileBroken file before r
      by pass q =
          absurd (content_apart r broken
          (all_of_law is_content r (contents_tests l start file) (contents_kind l start file) (sym (chain_passed (forms_tests l start file) (contents_tests l start file) q) ∙ e)))
      by (stop t) q =
          let told : chain (forms_tests l start file) ≡ stop r = q ∙ sym (chain_refused (forms_tests l start file) (contents_tests l start file) t q) ∙ e in
          forms_only head plane ((form_refuses_exactly_if colour file start (records_of file) r).0 told)

  body_only : chain (head_tests file) ≡ pass → chain (body_tests l start file before) ≡ stop r → FileBroken file before r
  body_only head e = by (eqb (length before) (plane_length 16 l)) refl
    where
      by : (b : Bool) → eqb (length before) (plane_length 16 l) ≡ b → FileBroken file before r
      by true q = let plane = eqb-true (length before) (plane_length 16 l) q in records_only head plane (sym (body_rest l start file before plane) ∙ e)
      by false q =
          let told : r ≡ refusal.Length = same_stop (sym e ∙ plane_short l start file before (eqb-false (length before) (plane_length 16 l) q)) in
          absurd (false_not_true (sym (ap is_broken told) ∙ broken))

  refused_only : chain (decode_tests file before) ≡ stop r → FileBroken file before r
  refused_only e = by (chain (head_tests file)) refl
    where
      by : (v : Verdict Refusal) → chain (head_tests file) ≡ v → FileBroken file before r
      by pass q = body_only q (sym (chain_passed (head_tests file) (body_tests l start file before) q) ∙ e)
      by (stop t) q = at_head (q ∙ sym (chain_refused (head_tests file) (body_tests l start file before) t q) ∙ e)

  -- ---- and from what is wrong to the refusal

  forms_if : chain (head_tests file) ≡ pass → length before ≡ plane_length 16 l → Faulted colour file start (records_of file) r ⊎ Left colour file start (records_of file) r
      → chain (decode_tests file before) ≡ stop r
  forms_if head plane h =
      chain_passed (head_tests file) (body_tests l start file before) head ∙ body_rest l start file before plane
      ∙ chain_refused (forms_tests l start file) (contents_tests l start file) r ((form_refuses_exactly_if colour file start (records_of file) r).1 h)

  refused_if : FileBroken file before r → chain (decode_tests file before) ≡ stop r
  refused_if (at_head e) = chain_refused (head_tests file) (body_tests l start file before) r e
  refused_if (at_record m fault b is) =
      forms_if b.before_it.head b.before_it.plane
      (inl (record { fault = fault; place = place_in file m; first = (m, b.among, refl, b.before_it.fine, b.faulty); is = is }))
  refused_if (behind_last f more is) = forms_if f.head f.plane (inr (record { fine = f.fine; more = more; is = is }))

-- ---- each number

abbrev If : Bool → (here other : Type 0) → Type 0
If true here other = here
If false here other = other

module _ (file before : List ℕ) where
  abbrev total : ℕ
  total = length file

  -- what a refusal says is broken, by its number
  abbrev SaysBroken : Refusal → Type 0
  SaysBroken r =
      If (eqb (number_of r) 11) (MarkRefused file before (place_of r))
      (If (eqb (number_of r) 12) (NumberRefused file before (place_of r))
      (If (eqb (number_of r) 13) (SumRefused file before (place_of r))
      (If (eqb (number_of r) 9) (FormRefused file before (place_of r)) (Unit {0}))))

  -- the head's own tests tell it
  broken_by_head : (r : Refusal) → RefusedWith (head_tests file) r → SaysBroken r
  broken_by_head r (inl (a, q)) = subst SaysBroken (sym q) (head_cut (leb-false 2 total a) refl)
  broken_by_head r (inr (a, inl (b, q))) = subst SaysBroken (sym q) (head_mark (leb-true 2 total a) b refl)
  broken_by_head r (inr (a, inr (b, inl (c, q)))) = subst SaysBroken (sym q) (head_short (leb-true 2 total a) b (leb-false (long_at file) total c) refl)
  broken_by_head r (inr (a, inr (b, inr (c, inl (d, q))))) =
      let z : 0 + long_at file - 2 ≡ long_at file - 2 = omega arith in
      subst SaysBroken (sym q) (head_sum (leb-true 2 total a) b (leb-true (long_at file) total c) d z)
  broken_by_head r (inr (a, inr (b, inr (c, inr (d, inl (f, q)))))) = subst SaysBroken (sym q) tt
  broken_by_head r (inr (a, inr (b, inr (c, inr (d, inr (f, inl (g, q))))))) = subst SaysBroken (sym q) tt
  broken_by_head r (inr (a, inr (b, inr (c, inr (d, inr (f, inr (g, q))))))) = absurd q

  -- so does a record's fault
  broken_by_record : (m : ℕ) (fault : Fault) → FirstBroken file before fault m → SaysBroken (refusal_of fault (place_in file m) (length_from (place_in file m) file) total)
  broken_by_record m CutMark b = mark_cut m b refl
  broken_by_record m Mark b = record_mark m b refl
  broken_by_record m CutRest b = rest_cut m b refl
  broken_by_record m Number b = record_number m b refl
  broken_by_record m Sum b = record_sum m b refl

  broken_only : (r : Refusal) → FileBroken file before r → SaysBroken r
  broken_only r (at_head e) = broken_by_head r (((chain_exactly_if (head_tests file)).refuses r).0 e)
  broken_only r (at_record m fault b q) = subst SaysBroken (sym q) (broken_by_record m fault b)
  broken_only r (behind_last f more q) = subst SaysBroken (sym q) (left_over f more refl)

  -- ---- and the other way round, with each number's place

  module _ (place : ℕ) where
    head_refused : {r : Refusal} → RefusedWith (head_tests file) r → FileBroken file before r
    head_refused {r} h = at_head (((chain_exactly_if (head_tests file)).refuses r).1 h)

    mark_if : MarkRefused file before place → FileBroken file before (refusal.Mark place)
    mark_if (head_mark two mark is) = head_refused (inr (le-leb 2 total two, inl (mark, ap refusal.Mark is)))
    mark_if (record_mark m b is) = at_record m Mark b (ap refusal.Mark is)

    number_if : NumberRefused file before place → FileBroken file before (refusal.Number place)
    number_if (record_number m b is) = at_record m Number b (ap refusal.Number is)

    -- the place of the head's sum, as a record's at 0
    at_zero : place ≡ long_at file - 2 → refusal.Sum place ≡ refusal_of Sum 0 (long_at file) total
    at_zero e = let z : place ≡ 0 + long_at file - 2 = omega (arith, e) in ap refusal.Sum z

    sum_if : SumRefused file before place → FileBroken file before (refusal.Sum place)
    sum_if (head_sum two mark room sum is) = head_refused (inr (le-leb 2 total two, inr (mark, inr (le-leb (long_at file) total room, inl (sum, at_zero is)))))
    sum_if (record_sum m b is) = at_record m Sum b (ap refusal.Sum is)

    form_if : FormRefused file before place → FileBroken file before (refusal.Form place)
    form_if (head_cut cut is) = head_refused (inl (lt-leb 2 total cut, ap refusal.Form is))
    form_if (head_short two mark cut is) = head_refused (inr (le-leb 2 total two, inr (mark, inl (lt-leb (long_at file) total cut, ap refusal.Form is))))
    form_if (mark_cut m b is) = at_record m CutMark b (ap refusal.Form is)
    form_if (rest_cut m b is) = at_record m CutRest b (ap refusal.Form is)
    form_if (left_over f more is) = behind_last f more (ap refusal.Form is)

    -- ---- of the decoder's tests

    told_exactly_if : (t : Refusal) → is_broken t ≡ true → (SaysBroken t → FileBroken file before t) → (chain (decode_tests file before) ≡ stop t) ↔ SaysBroken t
    told_exactly_if t broken back = (λ v. broken_only t (refused_only file before t broken v), λ b. refused_if file before t broken (back b))

    pub mark_told : (chain (decode_tests file before) ≡ stop (refusal.Mark place)) ↔ MarkRefused file before place
    mark_told = told_exactly_if (refusal.Mark place) refl mark_if

    pub number_told : (chain (decode_tests file before) ≡ stop (refusal.Number place)) ↔ NumberRefused file before place
    number_told = told_exactly_if (refusal.Number place) refl number_if

    pub sum_told : (chain (decode_tests file before) ≡ stop (refusal.Sum place)) ↔ SumRefused file before place
    sum_told = told_exactly_if (refusal.Sum place) refl sum_if

    pub form_told : (chain (decode_tests file before) ≡ stop (refusal.Form place)) ↔ FormRefused file before place
    form_told = told_exactly_if (refusal.Form place) refl form_if

-- ---- of a call

module _ (κs : Lfts 2) (a : Dens κs call.ps) (r : (res_t call.r κs).Denot) (e : AtExit (ended_of 2 call.ps call.r) κs) (p : reads.Learnt κs a r e) where
  -- the file, and the plane as it was lent
  abbrev file : List ℕ
  file = a.0.now

  abbrev plane : List ℕ
  plane = a.1.0.now

  answered : (t : Refusal) → (r ≡ Err t) ↔ (chain (decode_tests file plane) ≡ stop t)
  answered t = (λ is. sym (says_same p.says) ∙ ap said is, λ v. same_answer r (Err t) (says_same p.says ∙ v))

  by_tests : (t : Refusal) {B : Type 0} → (chain (decode_tests file plane) ≡ stop t) ↔ B → (r ≡ Err t) ↔ B
  by_tests t h = (λ is. h.0 ((answered t).0 is), λ b. (answered t).1 (h.1 b))

  pub mark_exactly_if : (place : ℕ) → (r ≡ Err (refusal.Mark place)) ↔ MarkRefused file plane place
  mark_exactly_if place = by_tests (refusal.Mark place) (mark_told file plane place)

  pub number_exactly_if : (place : ℕ) → (r ≡ Err (refusal.Number place)) ↔ NumberRefused file plane place
  number_exactly_if place = by_tests (refusal.Number place) (number_told file plane place)

  pub sum_exactly_if : (place : ℕ) → (r ≡ Err (refusal.Sum place)) ↔ SumRefused file plane place
  sum_exactly_if place = by_tests (refusal.Sum place) (sum_told file plane place)

  pub form_exactly_if : (place : ℕ) → (r ≡ Err (refusal.Form place)) ↔ FormRefused file plane place
  form_exactly_if place = by_tests (refusal.Form place) (form_told file plane place)
