-- What a record can hold, a decoder accept and a plane take up of one coded block (01, "Plane and record file"). Assumes nothing.
use Rattle.std.specs.Prelude.{◌≡◌, true, List, ℕ, ◌<◌, pos, length, get_or}
use Rattle.std.specs.Int.{w16}
use Rattle.std.proofs.Common.{SFits}
use Rattle.lists.specs.Bytes.{Bytes}
use Rattle.intra4.specs.Samples.{mask}
use Rattle.intra4.specs.Rules as rules
use Rattle.residual.specs.Entry.{first_wide}
use Rattle.residual.specs.Order.{in_zigzag}
use Rattle.residual.specs.Rebuild.{rebuilt_samples, rescaled_of}
use Rattle.block.specs.Block.{coded_mode, coded_levels, coded_samples}

-- of its neighbours n, the flags f and its samples s
pub record BlockLaws (qp : ℕ) (n : List ℕ) (f : ℕ) (s : List ℕ) : Type 0 where
  -- the mode is one of the nine, and the flags permit it
  pub mode_small : coded_mode (mask n f) s < 9
  pub permitted : rules.permitted f (coded_mode (mask n f) s) ≡ true
  -- sixteen levels, each in 16 bits, that rescale into 16 bits
  pub sixteen : length (coded_levels qp (mask n f) s) ≡ 16
  pub fits : (k : ℕ) → SFits w16 (get_or (coded_levels qp (mask n f) s) k (pos 0))
  pub in_range : first_wide (in_zigzag (rescaled_of qp (coded_levels qp (mask n f) s))) ≡ 16
  -- what is rebuilt is what the mode's prediction and the levels give: sixteen bytes
  pub rebuilds : coded_samples qp (mask n f) s ≡ rebuilt_samples (rules.samples_of (rules.predicted (mask n f) (coded_mode (mask n f) s))) (rescaled_of qp (coded_levels qp (mask n f) s))
  pub made_sixteen : length (coded_samples qp (mask n f) s) ≡ 16
  pub made_bytes : Bytes (coded_samples qp (mask n f) s)
