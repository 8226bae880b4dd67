-- Inputs at which a faulty definition or function would answer otherwise. Assumes nothing.
use mathlib.Core.Path.{◌≡◌, refl}
use mathlib.Core.List.{List, [], ◌∷◌}
use Prim.Native.Nat.{ℕ}
use lib.ListN.{replicate}
use Rattle.lists.specs.Tab.{tab, grid}
use Rattle.whole.specs.Clip.{clip}
use Rattle.transform.specs.Forward.{forward}
use Rattle.transform.specs.Inverse.{inverse}
use Rattle.residual.specs.Levels.{quantized}
use Rattle.residual.specs.Order.{in_zigzag, in_places}
use Rattle.residual.specs.Quantize.{level_by}
use Rattle.residual.specs.Rebuild.{added, rebuilt_samples}
use Rattle.residual.specs.Rescale.{scaled_by, rescaled}
use Rattle.block.specs.Block.{residual_of}
use Rattle.distance.specs.Distance.{promise_of, numbers_sent, rebuilt_at, distance_at}
use Rattle.distance.specs.Entry.{samples_off}

-- the promise in 384ths of a sample at QP 0, 28 and 51
pub promises : promise_of 0 ∷ promise_of 28 ∷ promise_of 51 ∷ [] ≡ 1000 ∷ 15760 ∷ 221312 ∷ []
promises = refl

-- and in whole samples; at QP 47 nothing is rounded off, so that 383 for 384 would come to 367
pub whole_promises : samples_off 0 ∷ samples_off 28 ∷ samples_off 47 ∷ samples_off 51 ∷ [] ≡ 2 ∷ 41 ∷ 368 ∷ 576 ∷ []
whole_promises = refl

-- all coefficients of this block lie nearly two thirds of a step behind a level: at QP 33 its sample 36 comes back as 108, which is all that is
-- promised in whole samples, so that a smaller promise would be broken
abbrev far_off : List ℕ
far_off = 158 ∷ 147 ∷ 36 ∷ 98 ∷ 133 ∷ 143 ∷ 125 ∷ 123 ∷ 114 ∷ 131 ∷ 113 ∷ 142 ∷ 101 ∷ 126 ∷ 129 ∷ 155 ∷ []

abbrev grey : List ℕ
grey = replicate 16 128

pub promise_met : distance_at far_off 2 (rebuilt_at grey (numbers_sent 33 far_off grey) 2) ∷ samples_off 33 ∷ [] ≡ 72 ∷ 72 ∷ []
unfolding grid tab clip forward inverse quantized in_zigzag in_places level_by added rebuilt_samples scaled_by rescaled residual_of
promise_met = refl
