-- The DC path of n blocks of residuals: each call on the way accepts what the coder makes (01, "Transform, quantizer, rescaling": "A block
-- whose DC comes this way is rebuilt from that rescaled DC and 15 AC levels."). Assumes nothing.
use Rattle.std.specs.Prelude.{◌≡◌, true, List, ℕ, ◌<◌, ℤ, pos, length, drop, set}
use Rattle.lists.specs.Chain.{chain, pass}
use Rattle.whole.specs.Notation.{minus}
use Rattle.whole.specs.Range.{inside}
use Rattle.residual.specs.Entry.{with_dc_tests}
use Rattle.residual.specs.Levels.{levels_of}
use Rattle.residual.specs.Rebuild.{rescaled_of, rescaled_with_dc}
use Rattle.dc.specs.Dc.{dc_of}
use Rattle.dc.specs.Entry.{dc_levels_tests}

-- what the coder sends of a block beside its DC: levels 1 to 15
abbrev pub ac_of : ℕ → List ℤ → List ℤ
ac_of qp x = drop 1 (levels_of qp x)

pub record DcPath (n qp : ℕ) (blocks : ℕ → List ℤ) : Type 0 where
  -- the DC coder accepts coefficient 0 of the blocks: `luma_levels_tests` are these at 16, `chroma_levels_tests` at 4
  pub coded : (out : List ℤ) → length out ≡ n → chain (dc_levels_tests n qp (dc_of n blocks) out) ≡ pass
  -- `rebuild_with_dc` accepts the AC levels of each block with any DC of 16 bits
  pub rebuilt : (k : ℕ) → k < n → (dc : ℤ) → inside (minus 32768) (pos 32767) dc ≡ true → (p o : List ℕ) → length p ≡ 16 → length o ≡ 16
      → chain (with_dc_tests qp p dc (ac_of qp (blocks k)) o) ≡ pass
  -- and rebuilds from the block's own numbers, place 0 replaced
  pub numbers : (k : ℕ) → k < n → (dc : ℤ) → inside (minus 32768) (pos 32767) dc ≡ true
      → rescaled_with_dc qp dc (ac_of qp (blocks k)) ≡ set (rescaled_of qp (levels_of qp (blocks k))) 0 dc
