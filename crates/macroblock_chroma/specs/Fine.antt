-- A chroma record whose content is fine, wherever it stands in a file. Assumes nothing.
use Rattle.std.specs.Prelude.{◌≡◌, Bool, true, ◌&&◌, List, ℕ, eqb, ℤ, pos}
use Rattle.whole.specs.Notation.{minus}
use Rattle.whole.specs.Range.{inside}
use Rattle.chroma.specs.Rules.{permitted}
use Rattle.residual_whole.specs.Rebuilt.{dc_fits, first_ac}
use Rattle.record.specs.Records.{cb_offset_in, cr_offset_in, chroma_mode_in}
use Rattle.picture.specs.declared.Layout.{Layout}
use Rattle.picture.specs.Whole.{flags_round}
use Rattle.macroblock_chroma.specs.Content.{cb_levels_in, cr_levels_in, cb_quantizer, cr_quantizer}

-- the levels of a plane with this quantizer are in range: the DC, and the AC of all four blocks
unfoldable pub in_range : (qp : ℕ) → List ℤ → Bool
in_range qp levels = dc_fits 8 qp levels && eqb (first_ac 8 qp levels) 4

-- all that the tests of macroblock m's chroma record ask for
pub record FineChroma (l : Layout) (m qp : ℕ) (part : List ℕ) : Type 0 where
  pub cb_offset : inside (minus 12) (pos 12) (cb_offset_in part) ≡ true
  pub cr_offset : inside (minus 12) (pos 12) (cr_offset_in part) ≡ true
  pub mode : permitted (flags_round 8 l m) (chroma_mode_in part) ≡ true
  pub cb_range : in_range (cb_quantizer qp part) (cb_levels_in part) ≡ true
  pub cr_range : in_range (cr_quantizer qp part) (cr_levels_in part) ≡ true
