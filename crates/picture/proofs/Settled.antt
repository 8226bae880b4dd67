-- What a macroblock, and a block inside it, saw when its turn came stands in the plane as it is left: later steps change none of it, whatever the
-- steps are (`Steps`).
--     looks_left     what a macroblock makes by what it may see
--     sees_left      the neighbours of a 4x4 block
--     block_left     and its samples, which its turn made
-- Assumes nothing.
use mathlib.Core.Path.{◌≡◌, refl, sym, ap, ◌∙◌}
use mathlib.Core.Bool.{Bool, true, false}
use mathlib.Core.List.{List}
use Prim.Native.Nat.{ℕ, zero, suc, ◌+◌, ◌*◌, ◌/◌, ◌%◌, ◌<◌, ◌≤◌}
use native.Mathlib.Omega.{arith}
use borrow.Author.Tests.{eqb-true, eqb-false}
use lib.Arith.{digits_div, digits_mod}
use lib.Dec.{eqb}
use lib.ListN.{length, get_or}
use Rattle.lists.specs.Fold.{fold}
use Rattle.lists.proofs.Tab.{grid_same}
use Rattle.picture.specs.declared.Layout.{Layout}
use Rattle.picture.specs.Order.{count_of, covers, block_count, block_column, block_row, order_of}
use Rattle.picture.specs.Plane.{stride, plane_length, block_at, block_of, gathered, turn, first_turns}
use Rattle.picture.proofs.Blocks.{starts_four}
use Rattle.picture.proofs.Macroblocks.{seen_before, seen_earlier}
use Rattle.picture.proofs.Over.{settled}
use Rattle.picture.proofs.Owner.{owner_of, own_order, order_macroblock, read_back}
use Rattle.picture.proofs.Plane.{within, room_of}
use Rattle.picture.proofs.Start.{gathered_looks, turn_step, turns_agree, by_one}
use Rattle.picture.proofs.Steps.{MacroblockStep, LooksFrom, first_steps}

-- ---- a macroblock, in a plane where one has s by s samples

module _ (s : ℕ) (small : 0 < s) (l : Layout) (some : 0 < l.width) (f : ℕ → List ℕ → List ℕ) (steps : (m : ℕ) → m < count_of l → MacroblockStep s l m (f m))
    (start : List ℕ) (long : length start ≡ plane_length s l)
  where
    pub before_long : (m : ℕ) → m ≤ count_of l → length (fold m f start) ≡ plane_length s l
    before_long m h = (first_steps s small l some f steps m h).long start ∙ long

    pub looks_left : (m : ℕ) → m < count_of l → {B : Type 0} (v : List ℕ → B) → LooksFrom s l m v → v (fold (count_of l) f start) ≡ v (fold m f start)
    looks_left m h v looks =
        looks (fold (count_of l) f start) (fold m f start)
        (record {
          this = before_long (count_of l) (omega arith);
          that = before_long m (omega arith);
          agree = λ i hi seen. settled s small l some f steps start m (count_of l) (omega arith) (omega arith) i hi (seen_before s l m i seen);
        })

-- ---- a macroblock's 4x4 blocks, whose turns are made by any function

next_step : (n : ℕ) (f : ℕ → List ℕ → List ℕ) (p : List ℕ) → fold (suc n) f p ≡ f n (fold n f p)
unfolding fold
next_step n f p = refl

module _ (make : ℕ → ℕ → List ℕ → List ℕ) (l : Layout) (some : 0 < l.width) (m : ℕ) (among : m < count_of l) where
  next_turn : (k : ℕ) (p : List ℕ) → first_turns 4 make l m (suc k) p ≡ turn 4 make l m k (first_turns 4 make l m k p)
  unfolding first_turns
  next_turn k p = next_step k (λ j. turn 4 make l m (covers 4 * j)) p ∙ ap (λ (b : ℕ). turn 4 make l m b (first_turns 4 make l m k p)) (sym (by_one k))

  -- a turn changes no sample of an earlier block
  turn_off : (k : ℕ) → k < 16 → (p : List ℕ) (i : ℕ) → i < plane_length 16 l → owner_of l i < order_of m k
      → get_or (first_turns 4 make l m (suc k) p) i 0 ≡ get_or (first_turns 4 make l m k p) i 0
  turn_off k h p i hi own =
      ap (λ (q : List ℕ). get_or q i 0) (next_turn k p)
      ∙ (turn_step 4 make l some m among k (starts_four k h)).off (first_turns 4 make l m k p) i hi (λ w. absurd (omega (arith, w.0, own)))

  -- nor do all later ones
  turns_off : (b k : ℕ) → b ≤ k → k ≤ 16 → (p : List ℕ) (i : ℕ) → i < plane_length 16 l → owner_of l i < order_of m b
      → get_or (first_turns 4 make l m k p) i 0 ≡ get_or (first_turns 4 make l m b p) i 0
  turns_off b zero below most p i hi own = let e : b ≡ 0 = omega arith in ap (λ (k : ℕ). get_or (first_turns 4 make l m k p) i 0) (sym e)
  turns_off b (suc k) below most p i hi own = by (λ e. turns_off b k e (omega arith) p i hi own) (eqb b (suc k)) refl
    where
      by : (b ≤ k → get_or (first_turns 4 make l m k p) i 0 ≡ get_or (first_turns 4 make l m b p) i 0) → (t : Bool) → eqb b (suc k) ≡ t
          → get_or (first_turns 4 make l m (suc k) p) i 0 ≡ get_or (first_turns 4 make l m b p) i 0
      by rest true e = ap (λ (n : ℕ). get_or (first_turns 4 make l m n p) i 0) (sym (eqb-true b (suc k) e))
      by rest false e =
          let earlier : b ≤ k = omega (arith, below, eqb-false b (suc k) e) in
          turn_off k (omega arith) p i hi (omega (arith, own, earlier)) ∙ rest earlier

  length_turns : (k : ℕ) → k ≤ 16 → (p : List ℕ) → length p ≡ plane_length 16 l → length (first_turns 4 make l m k p) ≡ plane_length 16 l
  unfolding block_count
  length_turns k h p long = (turns_agree 4 tt make l some m among k h p p (record { this = long; that = long; agree = λ i hi seen. refl })).this

  -- planes that agree at every sample of a block have the same block
  same_block : (b : ℕ) → b < 16 → (p q : List ℕ) → ((i : ℕ) → i < plane_length 16 l → owner_of l i ≡ order_of m b → get_or p i 0 ≡ get_or q i 0) → block_of 4 l m b p ≡ block_of 4 l m b q
  unfolding block_at
  same_block b h p q same =
      let room = room_of 4 l m b some among (starts_four b h) in
      grid_same 4 _ _
      (λ i j hi hj.
      let column : block_column l m b + i < 16 * l.width = omega (arith, room.wide) in
      same ((block_row l m b + j) * stride 16 l + (block_column l m b + i)) (within room i j hi hj)
      (rw (digits_mod (block_row l m b + j) column, digits_div (block_row l m b + j) column) (own_order l m b i j h hi hj)))

  -- the picture, in which macroblock m makes these turns
  module _ (f : ℕ → List ℕ → List ℕ) (steps : (k : ℕ) → k < count_of l → MacroblockStep 16 l k (f k)) (start : List ℕ) (long : length start ≡ plane_length 16 l)
      (makes : f m (fold m f start) ≡ first_turns 4 make l m 16 (fold m f start))
    where
      -- the plane when block b's turn comes
      abbrev when : ℕ → List ℕ
      when b = first_turns 4 make l m b (fold m f start)

      when_long : (b : ℕ) → b ≤ 16 → length (when b) ≡ plane_length 16 l
      when_long b h = length_turns b h (fold m f start) (before_long 16 (omega arith) l some f steps start long m (omega (arith, among)))

      earlier_left : (b : ℕ) → b ≤ 16 → (i : ℕ) → i < plane_length 16 l → owner_of l i < order_of m b → get_or (fold (count_of l) f start) i 0 ≡ get_or (when b) i 0
      earlier_left b h i hi own =
          let o = order_macroblock l (i % stride 16 l) (i / stride 16 l) in
          settled 16 (omega arith) l some f steps start (suc m) (count_of l) (omega (arith, among)) (omega arith) i hi (omega (arith, own, o.0))
          ∙ ap (λ (p : List ℕ). get_or p i 0) (next_step m f start ∙ makes)
          ∙ turns_off b 16 h (omega arith) (fold m f start) i hi own

      pub sees_left : (b : ℕ) → b < 16 → gathered 4 l m b (fold (count_of l) f start) ≡ gathered 4 l m b (when b)
      sees_left b h =
          gathered_looks 4 l m b (starts_four b h) (fold (count_of l) f start) (when b)
          (record {
            this = before_long 16 (omega arith) l some f steps start long (count_of l) (omega arith);
            that = when_long b (omega arith);
            agree = λ i hi seen. earlier_left b (omega arith) i hi (seen_earlier l m b i seen);
          })

      pub block_left : (b : ℕ) → b < 16 → length (make m b (gathered 4 l m b (when b))) ≡ 16
          → block_of 4 l m b (fold (count_of l) f start) ≡ make m b (gathered 4 l m b (when b))
      unfolding turn
      block_left b h sixteen =
          same_block b h (fold (count_of l) f start) (when (suc b)) (λ i hi own. earlier_left (suc b) (omega arith) i hi (omega (arith, own)))
          ∙ ap (block_of 4 l m b) (next_turn b (fold m f start))
          ∙ read_back l some 4 m b among (starts_four b h) (make m b (gathered 4 l m b (when b))) (when b) sixteen (when_long b (omega arith))
