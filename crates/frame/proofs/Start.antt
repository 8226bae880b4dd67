-- What stood in the planes of chroma at entry has no value for the decoder: by the one law over steps (`picture_start_has_no_value`).
--     cb_start_has_no_value, cr_start_has_no_value     a plane of any records is the same from any two planes at the start
-- Assumes nothing.
use mathlib.Core.Path.{◌≡◌}
use mathlib.Core.List.{List}
use Prim.Native.Nat.{ℕ, ◌<◌}
use native.Mathlib.Omega.{arith}
use lib.ListN.{length}
use Rattle.record.specs.Records.{qp_in}
use Rattle.picture.specs.declared.Layout.{Layout}
use Rattle.picture.specs.Plane.{plane_length}
use Rattle.picture.proofs.Steps.{picture_start_has_no_value}
use Rattle.macroblock_chroma.specs.Rebuild.{cb_step, cr_step}
use Rattle.macroblock_chroma.proofs.Looks.{cb_step_law, cr_step_law}
use Rattle.frame.specs.Decode.{cb_from, cr_from}

module _ (l : Layout) (some : 0 < l.width) (luma chroma : ℕ → List ℕ) (p q : List ℕ) (this : length p ≡ plane_length 8 l) (that : length q ≡ plane_length 8 l) where
  pub cb_start_has_no_value : cb_from l luma chroma p ≡ cb_from l luma chroma q
  unfolding cb_from
  cb_start_has_no_value =
      picture_start_has_no_value 8 (omega arith) l some (λ m. cb_step l m (qp_in (luma m)) (chroma m)) (λ m h. cb_step_law l some m h (qp_in (luma m)) (chroma m)) p q this that

  pub cr_start_has_no_value : cr_from l luma chroma p ≡ cr_from l luma chroma q
  unfolding cr_from
  cr_start_has_no_value =
      picture_start_has_no_value 8 (omega arith) l some (λ m. cr_step l m (qp_in (luma m)) (chroma m)) (λ m h. cr_step_law l some m h (qp_in (luma m)) (chroma m)) p q this that
