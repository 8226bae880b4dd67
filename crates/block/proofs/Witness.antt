-- Inputs at which a faulty definition would answer otherwise: what the must-fail edits of specs/ run into. Assumes nothing.
use mathlib.Core.Path.{◌≡◌, refl}
use mathlib.Core.List.{◌∷◌}
use lib.IntN.{pos}
use lib.ListN.{replicate}
use Rattle.lists.specs.Chain.{chain}
use Rattle.lists.specs.Fold.{fold}
use Rattle.lists.specs.Tab.{tab, grid}
use Rattle.lists.specs.Total.{total}
use Rattle.refusal.specs.Number.{number}
use Rattle.whole.specs.Clip.{clip}
use Rattle.transform.specs.Forward.{forward}
use Rattle.transform.specs.Inverse.{inverse}
use Rattle.intra4.specs.Samples.{bit_of, mask}
use Rattle.intra4.specs.Rules.{vertical, horizontal, down_left, down_right, vertical_right, vertical_left, horizontal_up, predicted}
use Rattle.intra4.specs.Choice.{at, sad, best_of, chosen}
use Rattle.residual.specs.Levels.{quantized}
use Rattle.residual.specs.Order.{in_zigzag, in_places}
use Rattle.residual.specs.Quantize.{level_by}
use Rattle.residual.specs.Rescale.{scaled_by, rescaled}
use Rattle.residual.specs.Rebuild.{added, rebuilt_samples}
use Rattle.block.specs.Block.{residual_of, coded_levels, coded_samples}
use Rattle.block.specs.Entry.{code_tests}

-- flags 16 and QP 52 are both bad: FLAGS, which is tested first, is sent back
pub flags_before_quantizer : number (chain (code_tests 52 16 (replicate 13 0) (replicate 16 0) (replicate 16 (pos 0)) (replicate 16 0))) ≡ 10
flags_before_quantizer = refl

-- the program's example: nothing present, all samples 138
pub example_mode : chosen (mask (replicate 13 77) 0) (replicate 16 138) ≡ at 2 160
unfolding chosen best_of fold sad total predicted bit_of grid tab
example_mode = refl

pub example_levels : coded_levels 28 (mask (replicate 13 77) 0) (replicate 16 138) ≡ pos 2 ∷ replicate 15 (pos 0)
unfolding chosen best_of fold sad total predicted bit_of grid tab residual_of forward quantized level_by in_zigzag
example_levels = refl

-- 136 and not 138: what is rebuilt is not the original
pub rebuilt_is_not_original : coded_samples 28 (mask (replicate 13 77) 0) (replicate 16 138) ≡ replicate 16 136
unfolding chosen best_of fold sad total predicted bit_of grid tab residual_of forward quantized level_by in_zigzag in_places scaled_by rescaled inverse added rebuilt_samples clip
rebuilt_is_not_original = refl

-- "All neighbours and all samples 100: mode 0, SAD 0"
pub vertical_chosen : chosen (mask (replicate 13 100) 15) (replicate 16 100) ≡ at 0 0
unfolding chosen best_of fold sad total predicted bit_of grid tab vertical horizontal down_left down_right vertical_right vertical_left horizontal_up
vertical_chosen = refl
