-- `intra4::search::fits` meets its contract: one sample differs, or the SAD says it. Assumes nothing.
use native.Mathlib.Omega.{arith}
use Rattle.intra4.proofs.Exact.{differs, fits_by}
use Rattle.intra4.proofs.search.fits.Goals as goal
use Rattle.intra4.proofs.search.fits.Goals.{then-rule-samples-via-then-rule-samples, then-rule-samples-via-else-rule-samples+then-rule-samples-2}

pub returns-then-rule-samples : goal.returns-then-rule-samples
returns-then-rule-samples g c =
    λ h k. elim c.then-rule-samples.branch [
      | then-rule-samples-via-then-rule-samples w ↦ differs h _ 0 0 (omega arith) (omega arith) (k _ _ _ (omega arith) (omega arith) c.rule.ensures) w.if-rule-samples.true
      | then-rule-samples-via-else-rule-samples+then-rule-samples-2 w ↦
          differs h _ 3 3 (omega arith) (omega arith) (k _ _ _ (omega arith) (omega arith) w.rule-else-rule-samples.ensures) w.if-rule-samples-2.true
    ]

pub returns : goal.returns
returns g c = λ h k. fits_by h _ c.requires.block (omega arith) (c.put_by.ensures h k) c.sad.ensures.0
