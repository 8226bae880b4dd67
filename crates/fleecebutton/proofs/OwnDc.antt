-- What a DC coder wrote, the way back accepts: of any two calls, over the generated readings of the functions' own contracts.
--     fb_luma_dc_accepted, fb_chroma_dc_accepted
-- a holds the arguments of the coder's call, w is its word and e what is lent at its exit; with a stroke those of the call on the way back. The
-- second call has the first's quantizer, is lent the levels that the first left, and room for as many values.
-- Assumes nothing.
use mathlib.Core.Path.{◌≡◌, ap, ◌∙◌}
use mathlib.Core.List.{List}
use Prim.Native.Nat.{ℕ, ◌%◌}
use contract.Lifetimes.{Lfts}
use denote.Triple.Clauses.{AtExit}
use borrow.Fn.Kinds.{Dens, res_t, ended_of}
use lib.IntN.{ℤ}
use lib.ListN.{length}
use Rattle.lists.specs.Chain.{Test, Verdict, pass, chain}
use Rattle.lists.proofs.Chain.{holds_new}
use Rattle.refusal.specs.declared.Refusal.{Refusal}
use Rattle.dc.specs.Dc.{luma_levels, chroma_levels}
use Rattle.dc.specs.Entry.{luma_levels_tests, luma_values_tests, chroma_levels_tests, chroma_values_tests}
use Rattle.dc.proofs.Own.{own_dc_accepted, own_chroma_dc_accepted}
use Rattle.fleecebutton.specs.Word.{word_of, Sends}
use Rattle.fleecebutton.proofs.Told.{passed_word}
use Rattle.fleecebutton.proofs.fb_luma_dc_levels.Kinds as luma_levels_law
use Rattle.fleecebutton.proofs.fb_luma_dc_levels.Reads as luma_levels_reads
use Rattle.fleecebutton.proofs.fb_luma_dc_values.Kinds as luma_values_law
use Rattle.fleecebutton.proofs.fb_luma_dc_values.Reads as luma_values_reads
use Rattle.fleecebutton.proofs.fb_chroma_dc_levels.Kinds as chroma_levels_law
use Rattle.fleecebutton.proofs.fb_chroma_dc_levels.Reads as chroma_levels_reads
use Rattle.fleecebutton.proofs.fb_chroma_dc_values.Kinds as chroma_values_law
use Rattle.fleecebutton.proofs.fb_chroma_dc_values.Reads as chroma_values_reads

-- a call that makes levels of dc, then one that takes them back: where the tests of the first passed, those of the second pass, so its word is 0
there_and_back : (there : ℕ → List ℤ → List (Test Refusal)) (levels_of : ℕ → List ℤ) (back : ℕ → List ℤ → List (Test Refusal)) (values : List ℤ)
    {qp qp' : ℕ} {before after levels room room' : List ℤ} {w w' : ℕ}
    → qp' ≡ qp
    → levels ≡ after
    → (chain (there qp before) ≡ pass → chain (back qp (levels_of qp)) ≡ pass)
    → Sends (there qp before) 0 (levels_of qp) before w after
    → Sends (back qp' levels) 0 values room w' room'
    → w % 256 ≡ 0
    → w' ≡ 0
there_and_back there levels_of back values {qp} {qp'} {before} {after} {levels} same lent accepts p q done =
    let v : chain (there qp before) ≡ pass = passed_word (there qp before) 0 p.word done in
    let made : after ≡ levels_of qp = holds_new before v p.wrote in
    q.word
    ∙ (λ i. word_of (chain (back (same i) ((lent ∙ made) i))) 0)
    ∙ ap (λ (u : Verdict Refusal). word_of u 0) (accepts v)

pub fb_luma_dc_accepted : (κs κs' : Lfts 2) (a : Dens κs luma_levels_law.ps) (a' : Dens κs' luma_values_law.ps) (w : (res_t luma_levels_law.r κs).Denot) (w' : (res_t luma_values_law.r κs').Denot)
    (e : AtExit (ended_of 2 luma_levels_law.ps luma_levels_law.r) κs) (e' : AtExit (ended_of 2 luma_values_law.ps luma_values_law.r) κs')
    → a'.0 ≡ a.0
    → a'.1.0.now ≡ e.1.1.0.now
    → length a'.1.1.0.now ≡ 16
    → luma_levels_reads.Learnt κs a w e
    → luma_values_reads.Learnt κs' a' w' e'
    → w % 256 ≡ 0
    → w' ≡ 0
fb_luma_dc_accepted κs κs' a a' w w' e e' same lent room p q =
    there_and_back (λ qp. luma_levels_tests qp a.1.0.now) (λ qp. luma_levels qp a.1.0.now) (λ qp l. luma_values_tests qp l a'.1.1.0.now) _ same lent
    (λ v. own_dc_accepted a.0 a.1.0.now a.1.1.0.now a'.1.1.0.now v room) p q

pub fb_chroma_dc_accepted : (κs κs' : Lfts 2) (a : Dens κs chroma_levels_law.ps) (a' : Dens κs' chroma_values_law.ps) (w : (res_t chroma_levels_law.r κs).Denot) (w' : (res_t chroma_values_law.r κs').Denot)
    (e : AtExit (ended_of 2 chroma_levels_law.ps chroma_levels_law.r) κs) (e' : AtExit (ended_of 2 chroma_values_law.ps chroma_values_law.r) κs')
    → a'.0 ≡ a.0
    → a'.1.0.now ≡ e.1.1.0.now
    → length a'.1.1.0.now ≡ 4
    → chroma_levels_reads.Learnt κs a w e
    → chroma_values_reads.Learnt κs' a' w' e'
    → w % 256 ≡ 0
    → w' ≡ 0
fb_chroma_dc_accepted κs κs' a a' w w' e e' same lent room p q =
    there_and_back (λ qp. chroma_levels_tests qp a.1.0.now) (λ qp. chroma_levels qp a.1.0.now) (λ qp l. chroma_values_tests qp l a'.1.1.0.now) _ same lent
    (λ v. own_chroma_dc_accepted a.0 a.1.0.now a.1.1.0.now a'.1.1.0.now v room) p q
