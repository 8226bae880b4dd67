-- A missing sample has no value: neighbours that agree wherever the flags say that a sample is present give the same outcome.
--     chroma_missing_has_no_value            of any two calls of `fill`: the same samples
--     chroma_missing_has_no_value_choice     of any two calls of `choose_for_both`: the same mode, sum of SADs and samples of both planes
-- The calls are told by the functions' own readings: a holds a call's arguments, r its result, e what is lent at its exit. Of `fill` the neighbours are
-- a.0, the flags a .1 .0, the mode a .1 .1 .0, and what is written is e.1.1.1.0. Of `choose_for_both` the flags come first, then Cb's and Cr's
-- neighbours, Cb's and Cr's samples; what is written is e.1.1.1.1.1.0 and e.1.1.1.1.1.1.0.
-- Assumes nothing.
use mathlib.Core.Path.{◌≡◌, sym, ap, ◌∙◌}
use mathlib.Core.List.{List}
use Prim.Native.Nat.{ℕ}
use contract.Lifetimes.{Lfts}
use denote.Triple.Clauses.{AtExit}
use borrow.Fn.Kinds.{Dens, res_t, ended_of}
use Rattle.intra4.specs.Rules.{samples_of}
use Rattle.sides.specs.Samples.{mask, AgreeWherePresent}
use Rattle.sides.proofs.Missing.{same_mask}
use Rattle.chroma.specs.Rules.{predicted}
use Rattle.chroma.specs.Choice.{PicksForBoth}
use Rattle.chroma.proofs.Found.{same_picks_for_both}
use Rattle.chroma.proofs.inner.fill.Kinds as fill
use Rattle.chroma.proofs.inner.fill.Reads as fill_reads
use Rattle.chroma.proofs.inner.choose_for_both.Kinds as choose_for_both
use Rattle.chroma.proofs.inner.choose_for_both.Reads as choose_for_both_reads

-- under the same flags
same_round : {f f' : ℕ} (l l' : List ℕ) → f ≡ f' → AgreeWherePresent 8 f l l' → mask 8 l f ≡ mask 8 l' f'
same_round {f} l l' flags g = same_mask 8 f l l' g ∙ ap (mask 8 l') flags

module _
    (κs κs' : Lfts 2) (a : Dens κs fill.ps) (a' : Dens κs' fill.ps) (r : (res_t fill.r κs).Denot) (r' : (res_t fill.r κs').Denot)
    (e : AtExit (ended_of 2 fill.ps fill.r) κs) (e' : AtExit (ended_of 2 fill.ps fill.r) κs')
  where
    pub chroma_missing_has_no_value : fill_reads.Learnt κs a r e → fill_reads.Learnt κs' a' r' e' → a.1.0 ≡ a'.1.0 → a.1.1.0 ≡ a'.1.1.0
        → AgreeWherePresent 8 a.1.0 a.0.now a'.0.now → e.1.1.1.0.now ≡ e'.1.1.1.0.now
    chroma_missing_has_no_value p p' flags mode g =
        p ∙ (λ i. samples_of (predicted (same_round a.0.now a'.0.now flags g i) (mode i))) ∙ sym p'

module _
    (κs κs' : Lfts 6) (a : Dens κs choose_for_both.ps) (a' : Dens κs' choose_for_both.ps)
    (r : (res_t choose_for_both.r κs).Denot) (r' : (res_t choose_for_both.r κs').Denot)
    (e : AtExit (ended_of 6 choose_for_both.ps choose_for_both.r) κs) (e' : AtExit (ended_of 6 choose_for_both.ps choose_for_both.r) κs')
  where
    abbrev written : List ℕ × List ℕ
    written = (e.1.1.1.1.1.0.now, e.1.1.1.1.1.1.0.now)

    abbrev written' : List ℕ × List ℕ
    written' = (e'.1.1.1.1.1.0.now, e'.1.1.1.1.1.1.0.now)

    pub chroma_missing_has_no_value_choice : choose_for_both_reads.Learnt κs a r e → choose_for_both_reads.Learnt κs' a' r' e' → a.0 ≡ a'.0
        → a.1.1.1.0.now ≡ a'.1.1.1.0.now → a.1.1.1.1.0.now ≡ a'.1.1.1.1.0.now
        → AgreeWherePresent 8 a.0 a.1.0.now a'.1.0.now → AgreeWherePresent 8 a.0 a.1.1.0.now a'.1.1.0.now
        → (r ≡ r') × (written ≡ written')
    chroma_missing_has_no_value_choice p p' flags cb cr g h =
        same_picks_for_both
        (same_round a.1.0.now a'.1.0.now flags g)
        (same_round a.1.1.0.now a'.1.1.0.now flags h)
        _ _ r r' _ _ _ _
        (coe 0 1 (i. PicksForBoth (mask 8 a.1.0.now a.0) (mask 8 a.1.1.0.now a.0) (cb i) (cr i) r e.1.1.1.1.1.0.now e.1.1.1.1.1.1.0.now) p)
        p'
