-- What request 09 promises (02), of any call of `fb_quality_sheet`: over the generated reading of its own contract.
--     fb_no_sheet_exactly_if, fb_one_rounding, fb_absent_has_no_value
-- a holds the arguments of a call, w is its word and e what is lent at its exit; with a stroke those of a second call.
-- Assumes nothing.
use mathlib.Core.Path.{◌≡◌, refl, sym, ap, subst, ◌∙◌}
use mathlib.Core.List.{List}
use mathlib.Core.Logic.{◌↔◌}
use Prim.Native.Nat.{ℕ, ◌*◌, ◌%◌, ◌<◌}
use native.Mathlib.Omega.{arith}
use contract.Lifetimes.{Lfts}
use denote.Triple.Clauses.{AtExit}
use borrow.Fn.Kinds.{Dens, res_t, ended_of}
use lib.Ieee.{Float}
use lib.ListN.{get_or}
use Rattle.lists.specs.Chain.{Verdict, pass, chain, written, AllPass}
use Rattle.lists.specs.Bytes.{Bytes}
use Rattle.lists.proofs.Chain.{chain_exactly_if}
use Rattle.refusal.specs.declared.Refusal.{Refusal}
use Rattle.picture.specs.Plane.{layout_of}
use Rattle.picture.proofs.Plane.{samples_fit}
use Rattle.sheet.specs.Entry.{write_tests}
use Rattle.sheet.specs.Errors.{sample_count}
use Rattle.sheet.specs.Means.{given_of, means_of, area_of}
use Rattle.sheet.specs.Promises.{rounded_once, OfEach, AgreeInPresent}
use Rattle.sheet.specs.declared.Sheet.{Sheet}
use Rattle.sheet.proofs.Absent.{given_same}
use Rattle.sheet.proofs.Answers.{none_given, given_outcome}
use Rattle.sheet.proofs.Exact.{each_rounded}
use Rattle.sheet.proofs.Given.{given}
use Rattle.sheet.proofs.Outcome.{sound_of}
use Rattle.fleecebutton.specs.Sends.{QualitySheetSends}
use Rattle.fleecebutton.specs.Word.{word_of, sheet_value}
use Rattle.fleecebutton.proofs.Told.{passed_word}
use Rattle.fleecebutton.proofs.fb_quality_sheet.Kinds as quality_sheet
use Rattle.fleecebutton.proofs.fb_quality_sheet.Reads as quality_sheet_reads
use Rattle.std.specs.Prelude.{Option, Some, None}

-- what the value tells
value_none : (g : Option Sheet) → sheet_value g ≡ 0 → g ≡ None
value_none None e = refl
value_none (Some s) e = absurd (omega arith)

value_some : (g : Option Sheet) → sheet_value g ≡ 1 → (s : Sheet) × (g ≡ Some s)
value_some None e = absurd (omega arith)
value_some (Some s) e = (s, refl)

module _ (κs : Lfts 4) (a : Dens κs quality_sheet.ps) where
  open given a use {width, height, original, rebuilt, map}

  -- the area at entry
  abbrev out : List Float
  out = a.1.1.1.1.1.0.now

  module _ (w : (res_t quality_sheet.r κs).Denot) (e : AtExit (ended_of 4 quality_sheet.ps quality_sheet.r) κs) (learnt : quality_sheet_reads.Learnt κs a w e) where
    -- a word whose low byte is 0
    passed : w % 256 ≡ 0 → chain (write_tests width height original rebuilt map out) ≡ pass
    passed d = passed_word (write_tests width height original rebuilt map out) (sheet_value (given_of (layout_of width height) original rebuilt map)) learnt.sends.word d

    -- and its value
    valued : chain (write_tests width height original rebuilt map out) ≡ pass → w ≡ 256 * sheet_value (given_of (layout_of width height) original rebuilt map)
    valued v = learnt.sends.word ∙ ap (λ (u : Verdict Refusal). word_of u (sheet_value (given_of (layout_of width height) original rebuilt map))) v

    -- "With nothing present the answer is 'no sheet', and exactly then"
    pub fb_no_sheet_exactly_if : (w ≡ 0) ↔ (AllPass (write_tests width height original rebuilt map out) × ((m : ℕ) → m < width * height → get_or map m 0 ≡ 0))
    fb_no_sheet_exactly_if = (only, if)
      where
        only : w ≡ 0 → AllPass (write_tests width height original rebuilt map out) × ((m : ℕ) → m < width * height → get_or map m 0 ≡ 0)
        only z =
            let v = passed (ap (λ (n : ℕ). n % 256) z) in
            let t = (chain_exactly_if (write_tests width height original rebuilt map out)).passes.0 v in
            (t, (none_given width height original rebuilt map t.1.1).0 (value_none _ (omega (arith, valued v, z))))

        if : AllPass (write_tests width height original rebuilt map out) × ((m : ℕ) → m < width * height → get_or map m 0 ≡ 0) → w ≡ 0
        if h =
            let v = (chain_exactly_if (write_tests width height original rebuilt map out)).passes.1 h.0 in
            valued v ∙ ap (λ (g : Option Sheet). 256 * sheet_value g) ((none_given width height original rebuilt map h.0.1.1).1 h.1)

    -- "divided once": where the value is 1 the area holds a sheet, each mean of which is the double nearest to the exact fraction
    pub fb_one_rounding : w ≡ 256 → Bytes original → Bytes rebuilt
        → (s : Sheet) × (e.1.1.1.1.1.0.now ≡ means_of s)
        × OfEach (layout_of width height) original rebuilt map s (λ mean sum. mean ≡ rounded_once sum (sample_count (layout_of width height) map))
    fb_one_rounding z own back =
        let v = passed (ap (λ (n : ℕ). n % 256) z) in
        let t = (chain_exactly_if (write_tests width height original rebuilt map out)).passes.0 v in
        let g = given_of (layout_of width height) original rebuilt map in
        let s = value_some g (omega (arith, valued v, z)) in
        let o = given_outcome width height original rebuilt map t.0 (sym s.1) in (
          s.0,
          learnt.sends.wrote ∙ (λ i. written (v i) (area_of (s.1 i) out) out),
          subst (λ (u : Sheet). OfEach (layout_of width height) original rebuilt map u (λ mean sum. mean ≡ rounded_once sum (sample_count (layout_of width height) map))) (sym o.is)
              (each_rounded (layout_of width height) original rebuilt map own back (omega (arith, samples_fit (sound_of width height t.0))) o.some),
        )

-- "every sample of an absent macroblock is left out": of two calls with the same size, map and area, and with planes of the same lengths that
-- agree in every macroblock present, the words are the same, and what the areas hold
pub fb_absent_has_no_value : (κs κs' : Lfts 4) (a : Dens κs quality_sheet.ps) (a' : Dens κs' quality_sheet.ps) (w : (res_t quality_sheet.r κs).Denot) (w' : (res_t quality_sheet.r κs').Denot)
    (e : AtExit (ended_of 4 quality_sheet.ps quality_sheet.r) κs) (e' : AtExit (ended_of 4 quality_sheet.ps quality_sheet.r) κs')
    → (given a').width ≡ (given a).width
    → (given a').height ≡ (given a).height
    → (given a').map ≡ (given a).map
    → out κs' a' ≡ out κs a
    → AgreeInPresent (layout_of (given a).width (given a).height) (given a).map (given a).original (given a').original
    → AgreeInPresent (layout_of (given a).width (given a).height) (given a).map (given a).rebuilt (given a').rebuilt
    → quality_sheet_reads.Learnt κs a w e
    → quality_sheet_reads.Learnt κs' a' w' e'
    → (w ≡ w') × (e.1.1.1.1.1.0.now ≡ e'.1.1.1.1.1.0.now)
fb_absent_has_no_value κs κs' a a' w w' e e' sw sh sm so o b p q =
    let q' = coe 0 1 (i. QualitySheetSends (sw i) (sh i) (given a').original (given a').rebuilt (sm i) (so i) w' e'.1.1.1.1.1.0.now) q in
    let v : chain (write_tests (given a).width (given a).height (given a).original (given a).rebuilt (given a).map (out κs a)) ≡ chain (write_tests (given a).width (given a).height (given a').original (given a').rebuilt (given a).map (out κs a)) = rw (o.long, b.long) in
    let g = given_same (layout_of (given a).width (given a).height) (given a).map (given a).original (given a).rebuilt (given a').original (given a').rebuilt o b in
    (p.sends.word ∙ (λ i. word_of (v i) (sheet_value (g i))) ∙ sym q'.sends.word, p.sends.wrote ∙ (λ i. written (v i) (area_of (g i) (out κs a)) (out κs a)) ∙ sym q'.sends.wrote)
