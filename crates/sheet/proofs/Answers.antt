-- What an answer tells of the picture.
--     none_given, nothing_exactly_if       when there is no sheet
--     SheetOutcome, given_outcome, sheet_outcome      what is known where a sheet came back
-- Assumes nothing.
use mathlib.Core.Path.{◌≡◌, refl, sym, ap, ◌∙◌}
use mathlib.Core.Bool.{Bool, true, false, cond}
use mathlib.Core.List.{List}
use mathlib.Core.Logic.{◌↔◌}
use Prim.Native.Nat.{ℕ, ◌*◌, ◌<◌, ◌≤◌}
use native.Mathlib.Omega.{arith}
use borrow.Author.Tests.{eqb-true, eqb-false, ltb-false, eq-eqb, ne_eqb}
use lib.Dec.{ltb}
use lib.ListN.{length, get_or}
use Rattle.lists.specs.Chain.{pass, chain, AllPass}
use Rattle.lists.proofs.First.{first_before}
use Rattle.lists.proofs.Chain.{chain_exactly_if, holds_new}
use Rattle.lists.proofs.Total.{total_low, term_low}
use Rattle.refusal.proofs.Same.{says_same}
use Rattle.head.specs.Entry.{size_holds}
use Rattle.picture.specs.Plane.{layout_of}
use Rattle.sheet.specs.Entry.{first_flag, plane_tests, sheet_tests, given_in, Sheets}
use Rattle.sheet.specs.Errors.{is_present, present_count}
use Rattle.sheet.specs.Means.{sheet_of, given_of}
use Rattle.sheet.specs.declared.Sheet.{Sheet}
use Rattle.sheet.proofs.Outcome.{same_sheeted}
use Rattle.std.specs.Prelude.{Result, Option}
use Rattle.refusal.specs.Number.{said}
use Rattle.refusal.specs.declared.Refusal.{Refusal}
use Rattle.std.specs.Prelude.{Ok, Some, None}

-- ---- a count of 0

one_or_none : (t : Bool) → cond t 1 0 ≤ 0 → t ≡ false
one_or_none true l = absurd (omega arith)
one_or_none false l = refl

none_counted : (n : ℕ) (map : List ℕ) → present_count n map ≡ 0 → (m : ℕ) → m < n → is_present map m ≡ false
unfolding present_count
none_counted n map e m l = one_or_none (is_present map m) (omega (arith, term_low n (λ m. cond (is_present map m) 1 0) m l))

counted_none : (n : ℕ) (map : List ℕ) → ((m : ℕ) → m < n → is_present map m ≡ false) → present_count n map ≡ 0
unfolding present_count
counted_none n map h = omega (arith, total_low n (λ m. cond (is_present map m) 1 0) 0 (λ m l. rw (h m l) (omega arith)))

given_none : (t : Bool) (u : Sheet) → cond t None (Some u) ≡ None → t ≡ true
given_none true u e = refl
given_none false u e = cc

given_some : (t : Bool) {s : Sheet} (u : Sheet) → Some s ≡ cond t None (Some u) → (t ≡ false) × (s ≡ u)
given_some true u e = (cc, cc)
given_some false u e = (refl, cc)

module _ (width height : ℕ) (original rebuilt map : List ℕ) where
  -- where the tests pass, a byte is 0 or 1
  flag_low : length map ≡ width * height → first_flag map ≡ length map → (m : ℕ) → m < width * height → get_or map m 0 ≤ 1
  unfolding first_flag
  flag_low l e m h = ltb-false 1 (get_or map m 0) (first_before (λ m. ltb 1 (get_or map m 0)) (length map) m (omega arith))

  -- "With nothing present the answer is 'no sheet', and exactly then"
  pub none_given : AllPass (plane_tests width height original rebuilt map)
      → (given_of (layout_of width height) original rebuilt map ≡ None) ↔ ((m : ℕ) → m < width * height → get_or map m 0 ≡ 0)
  none_given a = (only, if)
    where
      only : given_of (layout_of width height) original rebuilt map ≡ None → (m : ℕ) → m < width * height → get_or map m 0 ≡ 0
      only g m h =
          let n = eqb-true (present_count (width * height) map) 0 (given_none _ _ g) in
          let low = flag_low (eqb-true (length map) (width * height) a.1.1.0) (eqb-true (first_flag map) (length map) a.1.1.1.0) m h in
          let off : (get_or map m 0 ≡ 1 → ⊥) = eqb-false (get_or map m 0) 1 (none_counted (width * height) map n m h) in
          omega arith

      if : ((m : ℕ) → m < width * height → get_or map m 0 ≡ 0) → given_of (layout_of width height) original rebuilt map ≡ None
      if h =
          let n = counted_none (width * height) map (λ m l. ne_eqb (get_or map m 0) 1 (λ e. omega (arith, h m l))) in
          simp (eq-eqb (present_count (width * height) map) 0 n)

  pub nothing_exactly_if : (r : Result (Option Sheet) Refusal) → Sheets width height original rebuilt map r
      → (r ≡ Ok None) ↔ (AllPass (sheet_tests width height original rebuilt map) × ((m : ℕ) → m < width * height → get_or map m 0 ≡ 0))
  nothing_exactly_if r p = (only, if)
    where
      come : chain (sheet_tests width height original rebuilt map) ≡ pass → given_in r ≡ given_of (layout_of width height) original rebuilt map
      come v = holds_new None v p.sheet

      only : r ≡ Ok None → AllPass (sheet_tests width height original rebuilt map) × ((m : ℕ) → m < width * height → get_or map m 0 ≡ 0)
      only e =
          let v : chain (sheet_tests width height original rebuilt map) ≡ pass = sym (says_same p.says) ∙ ap said e in
          let a = (chain_exactly_if (sheet_tests width height original rebuilt map)).passes.0 v in
          (a, (none_given a.1).0 (sym (come v) ∙ ap given_in e))

      if : AllPass (sheet_tests width height original rebuilt map) × ((m : ℕ) → m < width * height → get_or map m 0 ≡ 0) → r ≡ Ok None
      if h =
          let v = (chain_exactly_if (sheet_tests width height original rebuilt map)).passes.1 h.0 in
          same_sheeted r (Ok None) (says_same p.says ∙ v) (come v ∙ (none_given h.0.1).1 h.1)

  -- what is known where a sheet came back
  pub record SheetOutcome (s : Sheet) : Type 0 where
    pub size : size_holds width height ≡ true
    pub some : 0 < present_count (width * height) map
    pub is : s ≡ sheet_of (layout_of width height) original rebuilt map

  pub given_outcome : {s : Sheet} → size_holds width height ≡ true → Some s ≡ given_of (layout_of width height) original rebuilt map → SheetOutcome s
  given_outcome size e =
      let g = given_some _ _ e in
      let off : (present_count (width * height) map ≡ 0 → ⊥) = eqb-false (present_count (width * height) map) 0 g.0 in
      record { size = size; some = omega arith; is = g.1 }

  pub sheet_outcome : {s : Sheet} → Sheets width height original rebuilt map (Ok (Some s)) → SheetOutcome s
  sheet_outcome p =
      let v : chain (sheet_tests width height original rebuilt map) ≡ pass = sym (says_same p.says) in
      let a = (chain_exactly_if (sheet_tests width height original rebuilt map)).passes.0 v in
      given_outcome a.0 (holds_new None v p.sheet)
