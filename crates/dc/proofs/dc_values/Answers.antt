-- `dc::dc_values` meets its contract: each verdict by its law, and the values written over a copy of the levels. Assumes nothing.
use borrow.Author.Rules.{rules}
use mathlib.Core.Path.{◌≡◌, refl, sym, ap, subst, ◌∙◌}
use mathlib.Core.List.{List, [], ◌∷◌}
use Prim.Native.Nat.{ℕ, ◌<◌}
use native.Mathlib.Omega.{arith}
use lib.IntN.{ℤ, pos, negsuc}
use lib.ListN.{length}
use Rattle.std.proofs.Common.{Option, None}
use Rattle.lists.specs.Chain.{scan_test, chain, stop, pass}
use Rattle.lists.specs.First.{found}
use Rattle.lists.proofs.First.{found_some, found_none}
use Rattle.lists.proofs.Chain.{scan_none, scan_found, written_passed, written_refused}
use Rattle.whole.proofs.Range.{at_end}
use Rattle.refusal.specs.declared.Refusal.TheVariants.{Level, Range}
use Rattle.refusal.proofs.Same.{says}
use Rattle.transform.proofs.Sides.{kept}
use Rattle.residual.specs.Entry.{first_wide, lent_tests}
use Rattle.residual.proofs.Entry.{wide_each, accepted_legal}
use Rattle.dc.specs.Dc.{DcCount, dc_values, by_level}
use Rattle.dc.specs.Entry.{dc_values_tests}
use Rattle.dc.proofs.Values.{dc_values_length, by_level_length}
use Rattle.dc.proofs.dc_values.Goals as goal

-- no level is too wide
none_wide : (levels : List ℤ) (n : ℕ) {wide : Option ℕ} → length levels ≡ n → wide ≡ found (length levels) (first_wide levels) → wide ≡ None → first_wide levels ≡ n
none_wide levels n long is none =
    let end = found_none (length levels) (first_wide levels) (sym is ∙ none) in
    at_end (negsuc 32767) (pos 32767) levels n long (omega arith)

-- the place of the first value that is, in the order of the levels
abbrev far_of : (n qp : ℕ) → List ℤ → ℕ
far_of n qp levels = first_wide (by_level n (dc_values n qp levels))

module _ (n qp : ℕ) (levels out : List ℤ) (lent : chain (lent_tests n qp (length levels) (length out)) ≡ pass) (none : first_wide levels ≡ n) where
  too_far : far_of n qp levels < n → chain (dc_values_tests n qp levels out) ≡ stop (Range (far_of n qp levels))
  too_far l =
      scan_none (lent_tests n qp (length levels) (length out)) lent n (first_wide levels) Level (scan_test n (far_of n qp levels) Range ∷ []) none
      ∙ scan_found [] refl n (far_of n qp levels) Range [] l

  all_near : far_of n qp levels ≡ n → chain (dc_values_tests n qp levels out) ≡ pass
  all_near e =
      scan_none (lent_tests n qp (length levels) (length out)) lent n (first_wide levels) Level (scan_test n (far_of n qp levels) Range ∷ []) none
      ∙ scan_none [] refl n (far_of n qp levels) Range [] e

-- what was looked for among the values that were made
looked_far : (n : ℕ) → DcCount n → (qp : ℕ) (levels : List ℤ) {q : ℕ} {l values : List ℤ} {far : Option ℕ} → length l ≡ n → q ≡ qp → l ≡ levels → values ≡ dc_values (length l) q l
    → far ≡ found (length values) (first_wide (by_level (length values) values)) → far ≡ found n (far_of n qp levels)
looked_far n count qp levels many number is wrote looked =
    let made = wrote ∙ (λ i. dc_values (many i) (number i) (is i)) in
    let long = ap length made ∙ dc_values_length n count qp levels in
    looked ∙ (λ i. found (long i) (first_wide (by_level (long i) (made i))))

pub values_over-requires : goal.values_over-requires
values_over-requires g c =
    let a = c.args in
    let levels = a.levels.now in
    let t = accepted_legal g.row.N a.qp (length levels) (length a.dc.now) c.in_ok-quantizer.ensures refl in
    let none = none_wide levels g.row.N t.long c.first_outside.ensures c.in_default.is in
    let same : c.unwrap-values.result ≡ levels = search rules in
    let many : length c.unwrap-values.result ≡ g.row.N = ap length same ∙ t.long in (
      rw t.number t.legal,
      subst DcCount (sym many) c.requires,
      kept 32768 same (wide_each levels (omega (arith, t.long, none))),
    )

pub returns-in-Some : goal.returns-in-Some
returns-in-Some g c =
    let a = c.args in
    let levels = a.levels.now in
    let t = accepted_legal g.row.N a.qp (length levels) (length a.dc.now) c.in_ok-quantizer.ensures refl in
    let is = found_some (length levels) (first_wide levels) (sym c.first_outside.ensures ∙ c.in-Some.is) in
    let e =
    scan_found (lent_tests g.row.N a.qp (length levels) (length a.dc.now)) t.passed g.row.N (first_wide levels) Level (scan_test g.row.N (far_of g.row.N a.qp levels) Range ∷ [])
    (omega (arith, is.1, t.long)) in
    record { says = says (ap (λ (k : ℕ). stop (Level k)) is.0 ∙ sym e); wrote = written_refused (dc_values g.row.N a.qp levels) e }

pub returns-in-Some-first_far : goal.returns-in-Some-first_far
returns-in-Some-first_far g c =
    let a = c.args in
    let levels = a.levels.now in
    let t = accepted_legal g.row.N a.qp (length levels) (length a.dc.now) c.in_ok-quantizer.ensures refl in
    let none = none_wide levels g.row.N t.long c.first_outside.ensures c.in_default.is in
    let same : c.unwrap-values.result ≡ levels = search rules in
    let many : length c.unwrap-values.result ≡ g.row.N = ap length same ∙ t.long in
    let looked = looked_far g.row.N c.requires a.qp levels many t.number same c.values_over.ensures c.first_far.ensures in
    let is = found_some g.row.N (far_of g.row.N a.qp levels) (sym looked ∙ c.in-Some-first_far.is) in
    let e = too_far g.row.N a.qp levels a.dc.now t.passed none is.1 in
    record { says = says (ap (λ (k : ℕ). stop (Range k)) is.0 ∙ sym e); wrote = written_refused (dc_values g.row.N a.qp levels) e }

pub returns : goal.returns
returns g c =
    let a = c.args in
    let levels = a.levels.now in
    let t = accepted_legal g.row.N a.qp (length levels) (length a.dc.now) c.in_ok-quantizer.ensures refl in
    let none = none_wide levels g.row.N t.long c.first_outside.ensures c.in_default.is in
    let same : c.unwrap-values.result ≡ levels = search rules in
    let many : length c.unwrap-values.result ≡ g.row.N = ap length same ∙ t.long in
    let made : c.values_over.new.dc ≡ dc_values g.row.N a.qp levels = c.values_over.ensures ∙ (λ i. dc_values (many i) (t.number i) (same i)) in
    let looked = looked_far g.row.N c.requires a.qp levels many t.number same c.values_over.ensures c.first_far.ensures in
    let end =
    at_end (negsuc 32767) (pos 32767) (by_level g.row.N (dc_values g.row.N a.qp levels)) g.row.N (by_level_length g.row.N c.requires a.qp levels)
    (found_none g.row.N (far_of g.row.N a.qp levels) (sym looked ∙ c.in_default-first_far.is)) in
    let e = all_near g.row.N a.qp levels a.dc.now t.passed none end in
    record { says = says (sym e); wrote = written_passed a.dc.now e (c.copy.ensures ∙ made) }
