-- A missing sample has no value: neighbours that agree wherever the flags say that a sample is present give the same outcome.
--     same_mask                       since everything below the mask is the same; over n
--     missing_has_no_value            of any two calls of `fill`: the same samples
--     missing_has_no_value_choice     of any two calls of `choose`: the same mode, SAD and samples
-- The calls are told by the functions' own readings: a holds a call's arguments, r its result, e what is lent at its exit. The neighbours are a.0, the
-- flags a .1 .0; of `fill` the mode is a.1.1.0, of `choose` the samples; what is written is e.1.1.1.0.
-- Assumes nothing.
use mathlib.Core.Path.{◌≡◌, sym, ◌∙◌}
use mathlib.Core.List.{List}
use Prim.Native.Nat.{ℕ}
use contract.Lifetimes.{Lfts}
use denote.Triple.Clauses.{AtExit}
use borrow.Fn.Kinds.{Dens, res_t, ended_of}
use Rattle.intra4.specs.Rules.{samples_of}
use Rattle.intra4.proofs.Missing.{same_masked}
use Rattle.sides.specs.Samples.{mask, AgreeWherePresent}
use Rattle.sides.specs.Rules.{predicted}
use Rattle.sides.specs.Choice.{Picks}
use Rattle.sides.proofs.Found.{same_picks}
use Rattle.sides.proofs.inner.fill.Kinds as fill
use Rattle.sides.proofs.inner.fill.Reads as fill_reads
use Rattle.sides.proofs.inner.choose.Kinds as choose
use Rattle.sides.proofs.inner.choose.Reads as choose_reads

pub same_mask : (n f : ℕ) (l l' : List ℕ) → AgreeWherePresent n f l l' → mask n l f ≡ mask n l' f
same_mask n f l l' g = same_masked f g.above g.left g.corner

module _
    (κs κs' : Lfts 2) (a : Dens κs fill.ps) (a' : Dens κs' fill.ps) (r : (res_t fill.r κs).Denot) (r' : (res_t fill.r κs').Denot)
    (e : AtExit (ended_of 2 fill.ps fill.r) κs) (e' : AtExit (ended_of 2 fill.ps fill.r) κs')
  where
    pub missing_has_no_value : fill_reads.Learnt κs a r e → fill_reads.Learnt κs' a' r' e' → a.1.0 ≡ a'.1.0 → a.1.1.0 ≡ a'.1.1.0
        → AgreeWherePresent 16 a.1.0 a.0.now a'.0.now → e.1.1.1.0.now ≡ e'.1.1.1.0.now
    missing_has_no_value p p' flags mode g =
        p
        ∙ (λ i. samples_of (predicted (same_mask 16 a.1.0 a.0.now a'.0.now g i) (mode i)))
        ∙ (λ i. samples_of (predicted (mask 16 a'.0.now (flags i)) a'.1.1.0))
        ∙ sym p'

module _
    (κs κs' : Lfts 3) (a : Dens κs choose.ps) (a' : Dens κs' choose.ps) (r : (res_t choose.r κs).Denot) (r' : (res_t choose.r κs').Denot)
    (e : AtExit (ended_of 3 choose.ps choose.r) κs) (e' : AtExit (ended_of 3 choose.ps choose.r) κs')
  where
    pub missing_has_no_value_choice : choose_reads.Learnt κs a r e → choose_reads.Learnt κs' a' r' e' → a.1.0 ≡ a'.1.0 → a.1.1.0.now ≡ a'.1.1.0.now
        → AgreeWherePresent 16 a.1.0 a.0.now a'.0.now → (r ≡ r') × (e.1.1.1.0.now ≡ e'.1.1.1.0.now)
    missing_has_no_value_choice p p' flags samples g =
        same_picks (same_mask 16 a.1.0 a.0.now a'.0.now g ∙ (λ i. mask 16 a'.0.now (flags i))) _ r r' _ _
        (coe 0 1 (i. Picks (mask 16 a.0.now a.1.0) (samples i) r e.1.1.1.0.now) p)
        p'
