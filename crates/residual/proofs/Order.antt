-- Laws of the zigzag order.
--     places_again     the zigzag order and back
--     in_zigzag_each, places_each, zigzag_each       a bound of each number, from the one order to the other
-- Assumes nothing.
use mathlib.Core.Path.{◌≡◌, ap, subst, ◌∙◌}
use mathlib.Core.List.{List}
use Prim.Native.Nat.{ℕ, ◌<◌}
use lib.IntN.{ℤ, pos}
use lib.ListN.{length, get_or}
use Rattle.lists.proofs.Tab.{length_tab, get_d_tab, tab_of}
use Rattle.whole.specs.Bounds.{Each}
use Rattle.whole.proofs.Lists.{each_tab}
use Rattle.whole.proofs.Steps.{each_at}
use Rattle.quantizer.specs.Tables.{zigzag_of, step_of}
use Rattle.quantizer.proofs.Tables.{zigzag_permutes}
use Rattle.residual.specs.Order.{in_zigzag, in_places}

module _ (l : List ℤ) where
  pub length_zigzag : length (in_zigzag l) ≡ 16
  unfolding in_zigzag
  length_zigzag = length_tab 16 (λ step. get_or l (zigzag_of step) (pos 0))

  -- the number of a place stands in the zigzag at the place's step
  step_at : (place : ℕ) → place < 16 → get_or (in_zigzag l) (step_of place) (pos 0) ≡ get_or l place (pos 0)
  unfolding in_zigzag
  step_at place h =
      let p = zigzag_permutes place h in
      get_d_tab 16 (λ step. get_or l (zigzag_of step) (pos 0)) (step_of place) (pos 0) p.step ∙ ap (λ (i : ℕ). get_or l i (pos 0)) p.place_of_step

  module _ (long : length l ≡ 16) where
    pub places_again : in_places (in_zigzag l) ≡ l
    unfolding in_places
    places_again = tab_of 16 (λ place. get_or (in_zigzag l) (step_of place) (pos 0)) l (pos 0) long step_at

pub places_each : (B : ℕ) (l : List ℤ) → Each B l → Each B (in_places l)
unfolding in_places
places_each B l h = each_tab B 16 (λ place. get_or l (step_of place) (pos 0)) (λ place k. each_at B l h (step_of place))

pub in_zigzag_each : (B : ℕ) (l : List ℤ) → Each B l → Each B (in_zigzag l)
unfolding in_zigzag
in_zigzag_each B l h = each_tab B 16 (λ step. get_or l (zigzag_of step) (pos 0)) (λ step k. each_at B l h (zigzag_of step))

pub zigzag_each : (B : ℕ) (l : List ℤ) → length l ≡ 16 → Each B (in_zigzag l) → Each B l
zigzag_each B l long h = subst (Each B) (places_again l long) (places_each B (in_zigzag l) h)
