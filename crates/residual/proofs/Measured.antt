-- Witnesses of the must-fail edits about a block's levels, computed from the definitions that the contracts cite (the table of all starred
-- pieces is in crate `pieces`). Assumes nothing.
use mathlib.Core.Path.{◌≡◌, refl}
use mathlib.Core.List.{List, [], ◌∷◌}
use Prim.Native.Nat.{ℕ}
use lib.IntN.{ℤ, pos, negsuc}
use lib.ListN.{replicate}
use Rattle.lists.specs.Chain.{chain}
use Rattle.lists.specs.First.{first}
use Rattle.lists.specs.Tab.{tab}
use Rattle.refusal.specs.Number.{number, place}
use Rattle.whole.specs.Range.{inside, first_outside}
use Rattle.quantizer.specs.Range.{period_of}
use Rattle.residual.specs.Entry.{rebuild_tests, with_dc_tests}
use Rattle.residual.specs.Order.{in_zigzag, in_places}
use Rattle.residual.specs.Quantize.{level_by, level_of}
use Rattle.residual.specs.Rescale.{mf_at, scaled_by, rescaled}

-- "QP 28, class a: |Y|=42 gives 0, 43 gives 1; -43 gives -1", and -42 gives 0 too
abbrev level_at28 : ℤ → ℤ
level_at28 y = level_of 0 (period_of 28) (mf_at 28 0) y

pub levels_measured : level_at28 (pos 42) ∷ level_at28 (pos 43) ∷ level_at28 (negsuc 42) ∷ level_at28 (negsuc 41) ∷ [] ≡ pos 0 ∷ pos 1 ∷ negsuc 0 ∷ pos 0 ∷ []
unfolding level_by
levels_measured = refl

-- a level alone at place 0 of a grey block at QP 0, and what `rebuild` answers
abbrev alone : ℤ → List ℤ
alone z = z ∷ replicate 15 (pos 0)

abbrev grey : List ℕ
grey = replicate 16 128

abbrev answered : List ℤ → List ℕ
answered l = number (chain (rebuild_tests 0 grey l grey)) ∷ place (chain (rebuild_tests 0 grey l grey)) ∷ []

-- LEVEL comes before RANGE: level 0 rescales too far, and level 1 is no level
pub level_before_range : answered (pos 3277 ∷ pos 40000 ∷ replicate 14 (pos 0)) ≡ 5 ∷ 1 ∷ []
unfolding in_zigzag in_places rescaled scaled_by first_outside first inside tab
level_before_range = refl

-- with a given DC: its RANGE is index 0, and AC levels count from 1
abbrev with_dc : ℤ → List ℤ → List ℕ
with_dc dc ac = number (chain (with_dc_tests 0 grey dc ac grey)) ∷ place (chain (with_dc_tests 0 grey dc ac grey)) ∷ []

pub dc_is_0 : with_dc (pos 32768) (replicate 15 (pos 0)) ≡ 6 ∷ 0 ∷ []
unfolding in_zigzag in_places rescaled scaled_by first_outside first inside tab
dc_is_0 = refl

pub ac_from_1 : with_dc (pos 32767) (pos 40000 ∷ replicate 14 (pos 0)) ≡ 5 ∷ 1 ∷ []
unfolding in_zigzag in_places rescaled scaled_by first_outside first inside tab
ac_from_1 = refl
