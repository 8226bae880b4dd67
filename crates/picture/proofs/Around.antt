-- How the code reaches a block's neighbours: by places counted back from the block's first sample.
--     reach_corner, reach_above, reach_right, reach_left     a group that is present lies in the plane
--     seen               what a neighbour's presence says of the block
--     corner_place, above_place, right_place, left_place     a neighbour by its place
--     in_groups, gathered_parts     the neighbours, group by group; by their places
--     listed             a list of what was read of each group
-- Assumes nothing.
use mathlib.Core.Path.{◌≡◌, refl, ◌∙◌}
use mathlib.Core.Bool.{Bool, true, false, cond}
use mathlib.Core.List.{List, [], ◌∷◌, ◌++◌}
use Prim.Native.Nat.{ℕ, ◌+◌, ◌*◌, ◌-◌, ◌<◌, ◌≤◌}
use native.Mathlib.Omega.{arith}
use borrow.Author.Tests.{le-leb, lt-leb}
use lib.ListN.{get_or}
use Rattle.lists.specs.Tab.{tab}
use Rattle.lists.proofs.Tab.{tab_same}
use Rattle.picture.specs.declared.Layout.{Layout}
use Rattle.picture.specs.Order.{Among, block_column, block_row, order_of}
use Rattle.picture.specs.Plane.{stride, plane_length, neighbour, gathered}
use Rattle.picture.specs.Presence.{present_at, neighbour_column, neighbour_row}
use Rattle.picture.specs.Reach.{Behind}
use Rattle.picture.proofs.Byte.{among_four, with_first_above, with_first_right, with_first_left}
use Rattle.picture.proofs.Plane.{spot_in}
use Rattle.picture.proofs.Presence.{Present, present_is, row_up}

-- the place of the block's first sample
abbrev first_place : Layout → (m b : ℕ) → ℕ
first_place l m b = block_row l m b * stride 16 l + block_column l m b

-- what a neighbour's presence says of the block
pub seen : (l : Layout) (m b k : ℕ) → present_at 4 l m b k ≡ true → Present l (order_of m b) (neighbour_column 4 (block_column l m b) k) (neighbour_row 4 (block_row l m b) k)
unfolding present_at
seen l m b k e = present_is l (order_of m b) (neighbour_column 4 (block_column l m b) k) (neighbour_row 4 (block_row l m b) k) e

-- a neighbour by its place, where it is present
by_place : (l : Layout) (m b : ℕ) (plane : List ℕ) (k : ℕ) (t : Bool) (place : ℕ) → present_at 4 l m b k ≡ t
    → (t ≡ true → (neighbour_row 4 (block_row l m b) k - 1) * stride 16 l + (neighbour_column 4 (block_column l m b) k - 1) ≡ place)
    → neighbour 4 l m b plane k ≡ cond t (get_or plane place 0) 0
unfolding neighbour
by_place l m b plane k true place e h = rw (e, h refl)
by_place l m b plane k false place e h = rw e

-- M, A-D, E-H, I-L
pub in_groups : (l : Layout) (m b : ℕ) (plane : List ℕ) → gathered 4 l m b plane
    ≡ (neighbour 4 l m b plane 0 ∷ [])
    ++ tab 4 (λ i. neighbour 4 l m b plane (1 + i))
    ++ tab 4 (λ i. neighbour 4 l m b plane (5 + i))
    ++ tab 4 (λ i. neighbour 4 l m b plane (9 + i))
unfolding gathered tab
in_groups l m b plane = refl

-- a list of four groups is the list of what was read of each
pub listed : {corner c : ℕ} {above right left out : List ℕ} (x y z : ℕ → ℕ) → out ≡ (corner ∷ []) ++ tab 4 (λ k. get_or above k 0) ++ tab 4 (λ k. get_or right k 0) ++ tab 4 (λ k. get_or left k 0)
    → corner ≡ c → above ≡ tab 4 x → right ≡ tab 4 y → left ≡ tab 4 z → out ≡ (c ∷ []) ++ tab 4 x ++ tab 4 y ++ tab 4 z
unfolding tab
listed x y z o e f g h = rw (o, e, f, g, h)

module _ {l : Layout} {m b : ℕ} (a : Among l m b) where
  -- a present group has a row above, or a column at the left
  row_above : (k : ℕ) → k ≤ 8 → present_at 4 l m b k ≡ true → block_row l m b * stride 16 l ≡ (block_row l m b - 1) * stride 16 l + stride 16 l
  row_above k h e = row_up (block_row l m b) (stride 16 l) (rw (le-leb k 8 h) at (seen l m b k e).up)

  left_of : (k : ℕ) → 8 < k → present_at 4 l m b k ≡ true → 0 < block_column l m b
  left_of k h e = rw (lt-leb k 8 h) at (seen l m b k e).left

  pub reach_corner : Behind (present_at 4 l m b 0) 1 0 (first_place l m b) (stride 16 l + 1) (plane_length 16 l)
  reach_corner = record {
    before = λ e. omega (arith, row_above 0 (omega arith) e, (seen l m b 0 e).left);
    within = λ e. omega (arith, spot_in a 0 0 (omega arith) (omega arith));
  }

  pub reach_above : Behind (present_at 4 l m b 1) 4 1 (first_place l m b) (stride 16 l) (plane_length 16 l)
  reach_above = record {
    before = λ e. omega (arith, row_above 1 (omega arith) e);
    within = λ e. omega (arith, spot_in a 3 0 (omega arith) (omega arith));
  }

  pub reach_right : Behind (present_at 4 l m b 5) 4 1 (first_place l m b) (stride 16 l - 4) (plane_length 16 l)
  reach_right = record {
    before = λ e. omega (arith, row_above 5 (omega arith) e);
    within = λ e. omega (arith, a.sound.some, row_above 5 (omega arith) e, spot_in a 0 0 (omega arith) (omega arith));
  }

  pub reach_left : Behind (present_at 4 l m b 9) 4 (stride 16 l) (first_place l m b) 1 (plane_length 16 l)
  reach_left = record {
    before = λ e. omega (arith, left_of 9 (omega arith) e);
    within = λ e. omega (arith, spot_in a 0 3 (omega arith) (omega arith));
  }

  module _ (plane : List ℕ) where
    pub corner_place : neighbour 4 l m b plane 0 ≡ cond (present_at 4 l m b 0) (get_or plane (first_place l m b - (stride 16 l + 1)) 0) 0
    corner_place = by_place l m b plane 0 (present_at 4 l m b 0) _ refl (λ e. omega (arith, row_above 0 (omega arith) e, (seen l m b 0 e).left))

    pub above_place : (i : ℕ) → i < 4 → neighbour 4 l m b plane (1 + i) ≡ cond (present_at 4 l m b 1) (get_or plane (first_place l m b - stride 16 l + i * 1) 0) 0
    above_place i h =
        by_place l m b plane (1 + i) (present_at 4 l m b 1) _ (with_first_above (among_four a) (1 + i) (omega arith) (omega arith))
        (λ e. rw (le-leb (1 + i) 8 (omega arith)) (omega (arith, row_above 1 (omega arith) e)))

    pub right_place : (i : ℕ) → i < 4 → neighbour 4 l m b plane (5 + i) ≡ cond (present_at 4 l m b 5) (get_or plane (first_place l m b - (stride 16 l - 4) + i * 1) 0) 0
    right_place i h =
        by_place l m b plane (5 + i) (present_at 4 l m b 5) _ (with_first_right (among_four a) (5 + i) (omega arith) (omega arith))
        (λ e. rw (le-leb (5 + i) 8 (omega arith)) (omega (arith, a.sound.some, row_above 5 (omega arith) e)))

    pub left_place : (i : ℕ) → i < 4 → neighbour 4 l m b plane (9 + i) ≡ cond (present_at 4 l m b 9) (get_or plane (first_place l m b - 1 + i * stride 16 l) 0) 0
    left_place i h =
        by_place l m b plane (9 + i) (present_at 4 l m b 9) _ (with_first_left (among_four a) (9 + i) (omega arith) (omega arith))
        (λ e.
        let z : block_row l m b + (9 + i - 8) - 1 ≡ block_row l m b + i = omega arith in
        rw (lt-leb (9 + i) 8 (omega arith), z) (omega (arith, left_of 9 (omega arith) e)))

    pub gathered_parts : gathered 4 l m b plane
        ≡ (cond (present_at 4 l m b 0) (get_or plane (first_place l m b - (stride 16 l + 1)) 0) 0 ∷ [])
        ++ tab 4 (λ i. cond (present_at 4 l m b 1) (get_or plane (first_place l m b - stride 16 l + i * 1) 0) 0)
        ++ tab 4 (λ i. cond (present_at 4 l m b 5) (get_or plane (first_place l m b - (stride 16 l - 4) + i * 1) 0) 0)
        ++ tab 4 (λ i. cond (present_at 4 l m b 9) (get_or plane (first_place l m b - 1 + i * stride 16 l) 0) 0)
    gathered_parts =
        in_groups l m b plane
        ∙ rw (corner_place, tab_same 4 _ _ above_place, tab_same 4 _ _ right_place, tab_same 4 _ _ left_place)
