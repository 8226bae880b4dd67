-- `macroblock4::inner::test_macroblock4` meets its contract: one return for each verdict of the chain. Assumes nothing.
use mathlib.Core.Path.{◌≡◌, sym, ap, ◌∙◌}
use Prim.Native.Nat.{ℕ, ◌+◌, ◌*◌, ◌≤◌}
use native.Mathlib.Omega.{arith}
use Rattle.std.specs.Prelude.{Ok}
use Rattle.lists.specs.Chain.{stop}
use Rattle.lists.proofs.First.{found_some, found_none}
use Rattle.refusal.specs.declared.Refusal.TheVariants as refusal
use Rattle.quantizer.specs.Range.{highest}
use Rattle.quantizer.proofs.Range.{built_legal}
use Rattle.record.specs.Records.{qp_in}
use Rattle.macroblock4.specs.Content.{first_mode, first_range}
use Rattle.macroblock4.proofs.Contents.{mode_sent, range_far, content_fine}
use Rattle.macroblock4.proofs.inner.test_macroblock4.Goals as goal
use Rattle.macroblock4.proofs.inner.test_macroblock4.Goals.{In_ok-quantizer, In_default}

-- the record's number is legal, whatever the refusal of its quantizer is made into,
legal_at : (c : In_ok-quantizer) → qp_in c.args.part.now ≤ highest
legal_at c =
    let kept : c.new.result ≡ Ok c.in_ok-quantizer.quantizer = grind arith in
    omega (arith, built_legal c.qp-qp.result c.new.ensures kept, c.qp-qp.ensures)

-- and behind the search for a mode all modes hold
modes_at : (c : In_default) → 16 ≤ first_mode c.args.layout c.args.m c.args.part.now
modes_at c = found_none 16 (first_mode c.args.layout c.args.m c.args.part.now) (sym c.first_mode.ensures ∙ c.in_default.is)

pub returns-in-Some : goal.returns-in-Some
returns-in-Some c =
    let a = c.args in
    let is = found_some 16 (first_mode a.layout a.m a.part.now) (sym c.first_mode.ensures ∙ c.in-Some.is) in
    mode_sent _ _ a.part.now (legal_at (goal.at.returns-in-Some c).In_ok-quantizer) is.0 (omega (arith, is.0, is.1))

pub returns-in-Some-first_range : goal.returns-in-Some-first_range
returns-in-Some-first_range c =
    let a = c.args in
    let at = goal.at.returns-in-Some-first_range c in
    let is = found_some 16 (first_range a.part.now) (sym c.first_range.ensures ∙ c.in-Some-first_range.is) in
    ap (λ (b : ℕ). stop (refusal.Range (16 * a.m + b))) is.0 ∙ sym (range_far _ _ a.part.now (legal_at at.In_ok-quantizer) (modes_at at.In_default) is.1)

pub returns : goal.returns
returns c =
    let a = c.args in
    let at = goal.at.returns c in
    let ranges = found_none 16 (first_range a.part.now) (sym c.first_range.ensures ∙ c.in_default-first_range.is) in
    sym (content_fine _ _ a.part.now (legal_at at.In_ok-quantizer) (modes_at at.In_default) ranges)
