-- What request 09 promises (02), of any call of `quality_sheet`: over the generated reading of its own contract.
--     no_sheet_exactly_if
--     sums_exact, one_rounding, exact_when_a_power_of_two
--     absent_has_no_value
-- a holds the arguments of a call, r is its answer and e what is lent at its exit; with a stroke those of a second call.
-- Assumes nothing.
use mathlib.Core.Path.{◌≡◌, sym, subst}
use mathlib.Core.Logic.{◌↔◌}
use Prim.Native.Nat.{ℕ, ◌*◌, ◌^◌, ◌<◌, ◌≤◌}
use native.Mathlib.Omega.{arith}
use contract.Lifetimes.{Lfts}
use denote.Triple.Clauses.{AtExit}
use borrow.Fn.Kinds.{Dens, res_t, ended_of}
use lib.ListN.{get_or}
use Rattle.lists.specs.Bytes.{Bytes}
use Rattle.lists.specs.Chain.{AllPass}
use Rattle.picture.specs.Plane.{layout_of}
use Rattle.picture.proofs.Plane.{samples_fit}
use Rattle.sheet.specs.Entry.{sheet_tests, Sheets}
use Rattle.sheet.specs.Errors.{sample_count}
use Rattle.sheet.specs.Promises.{IsFraction, rounded_once, OfEach, SumsExact, AgreeInPresent}
use Rattle.sheet.specs.declared.Sheet.{Sheet}
use Rattle.sheet.proofs.Absent.{answers_same}
use Rattle.sheet.proofs.Answers.{nothing_exactly_if, SheetOutcome, sheet_outcome}
use Rattle.sheet.proofs.Exact.{sums_convert, each_rounded, each_exact}
use Rattle.sheet.proofs.Given.{given}
use Rattle.sheet.proofs.Outcome.{sound_of}
use Rattle.sheet.proofs.quality_sheet.Kinds as quality_sheet
use Rattle.sheet.proofs.quality_sheet.Reads as quality_sheet_reads
use Rattle.std.specs.Prelude.{Result, Option}
use Rattle.refusal.specs.declared.Refusal.{Refusal}
use Rattle.std.specs.Prelude.{Ok, Some, None}

module _ (κs : Lfts 3) (a : Dens κs quality_sheet.ps) where
  open given a use {width, height, original, rebuilt, map}

  module _ (r : (res_t quality_sheet.r κs).Denot) (e : AtExit (ended_of 3 quality_sheet.ps quality_sheet.r) κs) (learnt : quality_sheet_reads.Learnt κs a r e) where
    -- "With nothing present the answer is 'no sheet', and exactly then"
    pub no_sheet_exactly_if : (r ≡ Ok None) ↔ (AllPass (sheet_tests width height original rebuilt map) × ((m : ℕ) → m < width * height → get_or map m 0 ≡ 0))
    no_sheet_exactly_if = nothing_exactly_if width height original rebuilt map r learnt

    -- a sheet that came back, of planes of bytes
    module _ (s : Sheet) (came : r ≡ Ok (Some s)) (own : Bytes original) (back : Bytes rebuilt) where
      known : SheetOutcome width height original rebuilt map s
      known = sheet_outcome width height original rebuilt map (subst (λ (x : Result (Option Sheet) Refusal). Sheets width height original rebuilt map x) came learnt)

      few : width * height ≤ 16384
      few = omega (arith, samples_fit (sound_of width height known.size))

      -- "the exact whole-number sum", "the exact count"
      pub sums_exact : SumsExact (layout_of width height) original rebuilt map
      sums_exact = sums_convert (layout_of width height) original rebuilt map own back few

      -- "divided once": each mean is the double nearest to the exact fraction
      pub one_rounding : OfEach (layout_of width height) original rebuilt map s (λ mean sum. mean ≡ rounded_once sum (sample_count (layout_of width height) map))
      one_rounding =
          subst (λ (t : Sheet). OfEach (layout_of width height) original rebuilt map t (λ mean sum. mean ≡ rounded_once sum (sample_count (layout_of width height) map))) (sym known.is)
          (each_rounded (layout_of width height) original rebuilt map own back few known.some)

      -- "Where the count is a power of two the mean is exact"
      pub exact_when_a_power_of_two : (k : ℕ) → sample_count (layout_of width height) map ≡ 2 ^ k
          → OfEach (layout_of width height) original rebuilt map s (λ mean sum. IsFraction mean sum (sample_count (layout_of width height) map))
      exact_when_a_power_of_two k p =
          subst (λ (t : Sheet). OfEach (layout_of width height) original rebuilt map t (λ mean sum. IsFraction mean sum (sample_count (layout_of width height) map))) (sym known.is)
          (each_exact (layout_of width height) original rebuilt map own back few k p)

-- "every sample of an absent macroblock is left out": of two calls with the same size and map, and with planes of the same lengths that agree in
-- every macroblock present, the answers are the same
pub absent_has_no_value : (κs κs' : Lfts 3) (a : Dens κs quality_sheet.ps) (a' : Dens κs' quality_sheet.ps) (r : (res_t quality_sheet.r κs).Denot) (r' : (res_t quality_sheet.r κs').Denot)
    (e : AtExit (ended_of 3 quality_sheet.ps quality_sheet.r) κs) (e' : AtExit (ended_of 3 quality_sheet.ps quality_sheet.r) κs')
    → (given a').width ≡ (given a).width
    → (given a').height ≡ (given a).height
    → (given a').map ≡ (given a).map
    → AgreeInPresent (layout_of (given a).width (given a).height) (given a).map (given a).original (given a').original
    → AgreeInPresent (layout_of (given a).width (given a).height) (given a).map (given a).rebuilt (given a').rebuilt
    → quality_sheet_reads.Learnt κs a r e
    → quality_sheet_reads.Learnt κs' a' r' e'
    → r ≡ r'
absent_has_no_value κs κs' a a' r r' e e' w h m o b p q =
    answers_same (given a).width (given a).height (given a).map (given a).original (given a).rebuilt (given a').original (given a').rebuilt o b r r' p
    (coe 0 1 (i. Sheets (w i) (h i) (given a').original (given a').rebuilt (m i) r') q)
