-- How far a rebuilt sample can be off: "For flat 4x4 blocks without a DC path" (02, Req 07). Assumes nothing.
use Rattle.std.specs.Prelude.{List, ℕ, ◌+◌, ◌*◌, ◌^◌, ◌≤◌, ℤ, pos, nat_abs, ◌+ℤ◌, ◌-ℤ◌, get_or}
use Rattle.quantizer.specs.Range.{period_of, remainder_of}
use Rattle.quantizer.specs.Tables.{v_of}
use Rattle.quantizer.specs.declared.Class.TheVariants.{A, B, C}
use Rattle.transform.specs.Inverse.{inverse}
use Rattle.residual.specs.Levels.{levels_of}
use Rattle.residual.specs.Rebuild.{rescaled_of, rebuilt_samples}
use Rattle.block.specs.Block.{residual_of}

-- "16a+24c+9b", "a, b and c being that remainder's V"
abbrev pub spread_of : ℕ → ℕ
spread_of r = 16 * v_of r A + 24 * v_of r C + 9 * v_of r B

-- "(16a+24c+9b)*2^p+384"
abbrev pub promise_of : ℕ → ℕ
promise_of qp = spread_of (remainder_of qp) * 2 ^ period_of qp + 384

-- the rescaled numbers of the levels that are sent for an original and its prediction
abbrev pub numbers_sent : ℕ → List ℕ → List ℕ → List ℤ
numbers_sent qp original prediction = rescaled_of qp (levels_of qp (residual_of original prediction))

-- "before the clip": prediction + residual
abbrev pub unclipped_at : List ℕ → List ℤ → ℕ → ℤ
unclipped_at prediction d place = pos (get_or prediction place 0) +ℤ get_or (inverse d) place (pos 0)

-- "and after it": the rebuilt sample
abbrev pub rebuilt_at : List ℕ → List ℤ → ℕ → ℤ
rebuilt_at prediction d place = pos (get_or (rebuilt_samples prediction d) place 0)

-- the distance of a number from the original sample
abbrev pub distance_at : List ℕ → ℕ → ℤ → ℕ
distance_at original place z = nat_abs (z -ℤ pos (get_or original place 0))

-- "384 times the distance of the rebuilt sample from the original is at most", at a place, "before the clip and after it"
pub record Near (qp : ℕ) (original prediction : List ℕ) (place : ℕ) : Type 0 where
  pub before : 384 * distance_at original place (unclipped_at prediction (numbers_sent qp original prediction) place) ≤ promise_of qp
  pub after : 384 * distance_at original place (rebuilt_at prediction (numbers_sent qp original prediction) place) ≤ promise_of qp

-- the same in whole samples: no farther off than so many
pub record Kept (most qp : ℕ) (original prediction : List ℕ) (place : ℕ) : Type 0 where
  pub before : distance_at original place (unclipped_at prediction (numbers_sent qp original prediction) place) ≤ most
  pub after : distance_at original place (rebuilt_at prediction (numbers_sent qp original prediction) place) ≤ most
