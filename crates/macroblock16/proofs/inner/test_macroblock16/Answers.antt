-- `macroblock16::inner::test_macroblock16` meets its contract: one return for each verdict of the chain. Assumes nothing.
use mathlib.Core.Path.{◌≡◌, sym, subst, ◌∙◌}
use mathlib.Core.Bool.{Bool, true}
use mathlib.Core.List.{List}
use native.Mathlib.Omega.{arith}
use borrow.Author.Rules.{rules}
use Prim.Native.Nat.{ℕ, ◌≤◌}
use lib.IntN.{ℤ}
use Rattle.std.proofs.Common.{Option}
use Rattle.std.specs.Prelude.{Ok}
use Rattle.lists.specs.First.{found}
use Rattle.lists.proofs.First.{found_some, found_none}
use Rattle.picture.specs.declared.Layout.{Layout}
use Rattle.whole.specs.Bounds.{Each}
use Rattle.quantizer.specs.Range.{highest}
use Rattle.quantizer.proofs.Range.{built_legal}
use Rattle.sides.specs.Rules.{permitted}
use Rattle.residual_whole.specs.Rebuilt.{dc_fits, first_ac}
use Rattle.record.specs.Records.{qp_in, whole_mode_in}
use Rattle.picture.specs.Whole.{flags_round}
use Rattle.macroblock16.specs.Content.{whole_levels_in}
use Rattle.macroblock16.proofs.Contents.{levels_small16, ac_far, content_fine16}
use Rattle.macroblock16.proofs.inner.test_macroblock16.Goals as goal
use Rattle.macroblock16.proofs.inner.test_macroblock16.Goals.{In_ok-quantizer}

-- the quantizer is that of the record's number, whatever its refusal is made into
number_at : (c : In_ok-quantizer) → (c.in_ok-quantizer.quantizer.qp ≡ qp_in c.args.part.now) × (qp_in c.args.part.now ≤ highest)
number_at c =
    let kept : c.new.result ≡ Ok c.in_ok-quantizer.quantizer = grind arith in
    let q = built_legal c.qp-qp.result c.new.ensures kept in
    (q.0 ∙ c.qp-qp.ensures, omega (arith, q.1, c.qp-qp.ensures))

pub dc_fits-requires : goal.dc_fits-requires
dc_fits-requires c =
    let number = number_at (goal.at.dc_fits-requires c).In_ok-quantizer in
    (tt, omega (arith, number.0, number.1), search rules, subst (Each 32768) (sym c.whole_levels.ensures) (levels_small16 c.args.part.now))

pub first_ac-requires : goal.first_ac-requires
first_ac-requires c =
    let number = number_at (goal.at.first_ac-requires c).In_ok-quantizer in
    (tt, omega (arith, number.0, number.1), search rules, subst (Each 32768) (sym c.whole_levels.ensures) (levels_small16 c.args.part.now))

-- the mode that is read is permitted
allowed_in : (l : Layout) (m : ℕ) (part : List ℕ) {flags mode : ℕ} {b : Bool} → flags ≡ flags_round 16 l m → mode ≡ whole_mode_in part → b ≡ permitted flags mode → b ≡ true
    → permitted (flags_round 16 l m) (whole_mode_in part) ≡ true
allowed_in l m part f k e t = sym (e ∙ (λ i. permitted (f i) (k i))) ∙ t

-- the DC values of the levels that are read fit, and what is looked for is the first block whose AC levels do not
module _ (part : List ℕ) {qp : ℕ} {levels : List ℤ} (number : qp ≡ qp_in part) (is : levels ≡ whole_levels_in part) where
  fine_in : {b : Bool} → b ≡ dc_fits 16 qp levels → b ≡ true → dc_fits 16 (qp_in part) (whole_levels_in part) ≡ true
  fine_in e t = sym (e ∙ (λ i. dc_fits 16 (number i) (is i))) ∙ t

  looked : {ac : Option ℕ} → ac ≡ found 16 (first_ac 16 qp levels) → ac ≡ found 16 (first_ac 16 (qp_in part) (whole_levels_in part))
  looked e = e ∙ (λ i. found 16 (first_ac 16 (number i) (is i)))

pub returns-in-Some : goal.returns-in-Some
returns-in-Some c =
    let a = c.args in
    let part = a.part.now in
    let number = number_at (goal.at.returns-in-Some c).In_ok-quantizer in
    let at = found_some 16 (first_ac 16 (qp_in part) (whole_levels_in part)) (sym (looked part number.0 c.whole_levels.ensures c.first_ac.ensures) ∙ c.in-Some.is) in
    ac_far a.layout a.m part number.1
    (allowed_in a.layout a.m part c.flags_round-flags.ensures c.whole_mode.ensures c.permitted.ensures c.if-not-permitted.false)
    (fine_in part number.0 c.whole_levels.ensures c.dc_fits.ensures c.if-not-dc_fits.false) at.0 (omega (arith, at.0, at.1))

pub returns : goal.returns
returns c =
    let a = c.args in
    let part = a.part.now in
    let number = number_at (goal.at.returns c).In_ok-quantizer in
    sym (
    content_fine16 a.layout a.m part number.1
    (allowed_in a.layout a.m part c.flags_round-flags.ensures c.whole_mode.ensures c.permitted.ensures c.if-not-permitted.false)
    (fine_in part number.0 c.whole_levels.ensures c.dc_fits.ensures c.if-not-dc_fits.false)
    (found_none 16 (first_ac 16 (qp_in part) (whole_levels_in part)) (sym (looked part number.0 c.whole_levels.ensures c.first_ac.ensures) ∙ c.in_default.is))
    )
