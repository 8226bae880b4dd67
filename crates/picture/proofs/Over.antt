-- A plane with a macroblock's own samples in their places: the neighbours of its blocks by where each stands, in the samples or in the plane; a
-- block stored in the samples; and a step of the macroblock, made of its samples and then stored.
--     reach_own_corner, reach_own_above, reach_own_right, reach_own_left     a group that lies in the macroblock lies among its own samples
--     corner_own, above_own, right_own, left_own             and is read there
--     corner_beside, above_beside, right_beside, left_beside    another is read in the plane
--     block_over          a block stored among the samples is the block stored in that plane
--     step_beside         what a step makes of the macroblock's samples, it makes of any that stood there
--     step_stored         the step is its samples, stored
--     whole_same          planes that agree at every sample of a macroblock have the same samples of it in raster order
--     whole_at            where a sample of the macroblock stands among these
--     settled             no later step changes a macroblock's samples
--     made_beside         a step beside a plane that agrees with the picture before its macroblock makes the picture's samples there
-- Assumes nothing.
use mathlib.Core.Path.{◌≡◌, refl, sym, ap, subst, ◌∙◌}
use mathlib.Core.Bool.{Bool, true, false, cond, ◌&&◌}
use mathlib.Core.List.{List}
use Prim.Native.Nat.{ℕ, zero, suc, ◌+◌, ◌*◌, ◌-◌, ◌/◌, ◌%◌, ◌<◌, ◌≤◌}
use native.Mathlib.Nat.{mod-lt, mul_comm, mul-le-mul, div-add-mod'}
use native.Mathlib.Omega.{arith}
use borrow.Author.Tests.{eqb-true, eqb-false, ltb-true, ltb-false, le-leb, lt-leb}
use lib.Arith.{digits_div, digits_mod}
use lib.Dec.{T, eqb, leb, ltb}
use lib.ListN.{length, get_or}
use lib.Seq.{ext_get_or}
use Rattle.lists.specs.Fold.{fold}
use Rattle.lists.proofs.Every.{both_true}
use Rattle.lists.proofs.Tab.{grid_same, get_d_grid}
use Rattle.picture.specs.declared.Layout.{Layout}
use Rattle.picture.specs.Order.{Among, count_of, column_in, row_in, covers, block_column, block_row, order_of}
use Rattle.picture.specs.Plane.{stride, plane_length, sample_at, block_at, stored, with_block, neighbour}
use Rattle.picture.specs.Presence.{neighbour_column, neighbour_row, present_at}
use Rattle.picture.specs.Reach.{Behind, row_in_slice, early}
use Rattle.picture.specs.Whole.{whole_column, whole_row, whole_of, with_whole}
use Rattle.picture.proofs.Around.{seen}
use Rattle.picture.proofs.Blocks.{inner_facts, starts_four}
use Rattle.picture.proofs.Byte.{among_four, upper_right_is, with_first_above, with_first_right, with_first_left}
use Rattle.picture.proofs.Macroblocks.{seen_before}
use Rattle.picture.proofs.Owner.{Within, macroblock_owning, owner_of, own_order, order_macroblock, in_block, others_kept, own_stored}
use Rattle.picture.proofs.Plane.{Room, within, length_stored, sample_stored, sample_off}
use Rattle.picture.proofs.Round.{room_whole, whole_owned, in_whole}
use Rattle.picture.proofs.Steps.{MacroblockStep, wide, first_steps}
use Rattle.picture.proofs.Whole.{whole_kept, whole_stored, whole_forgets}

-- the place of a block's first sample among its macroblock's own
abbrev own_place : ℕ → ℕ
own_place b = 64 * row_in b + 4 * column_in b

-- where a block stands among them
module _ (b : ℕ) (below : b < 16) where
  column_four : column_in b < 4
  column_four = omega (arith, (inner_facts b below).thin)

  row_four : row_in b < 4
  row_four = omega (arith, (inner_facts b below).low)

  pub reach_own_corner : (t : Bool) → 0 < row_in b → 0 < column_in b → Behind t 1 0 (own_place b) 17 256
  reach_own_corner t v u = record { before = λ e. omega arith; within = λ e. omega (arith, column_four, row_four) }

  pub reach_own_above : (t : Bool) → 0 < row_in b → Behind t 4 1 (own_place b) 16 256
  reach_own_above t v = record { before = λ e. omega arith; within = λ e. omega (arith, column_four, row_four) }

  pub reach_own_right : (t : Bool) → 0 < row_in b → Behind t 4 1 (own_place b) 12 256
  reach_own_right t v = record { before = λ e. omega arith; within = λ e. omega (arith, column_four, row_four) }

  pub reach_own_left : (t : Bool) → 0 < column_in b → Behind t 4 16 (own_place b) 1 256
  reach_own_left t u = record { before = λ e. omega arith; within = λ e. omega (arith, column_four, row_four) }

-- ---- the neighbours of its blocks

module _ {l : Layout} {m b : ℕ} (a : Among l m b) (own plane : List ℕ) (long : length plane ≡ plane_length 16 l) where
  room : Room 16 (length plane) (stride 16 l) (whole_column 16 l m) (whole_row 16 l m)
  room = rw long (room_whole l a.sound.some m a.macroblock 16)

  -- neighbour k in column i and row j of the macroblock, where it is present
  by_own : (k : ℕ) (t : Bool) (i j place : ℕ) → present_at 4 l m b k ≡ t
      → (t ≡ true → (i < 16) × (j < 16) × (neighbour_column 4 (block_column l m b) k - 1 ≡ whole_column 16 l m + i) × (neighbour_row 4 (block_row l m b) k - 1 ≡ whole_row 16 l m + j) × (j * 16 + i ≡ place))
      → neighbour 4 l m b (with_whole 16 l m own plane) k ≡ cond t (get_or own place 0) 0
  unfolding neighbour
  by_own k true i j place e h =
      let p = h refl in
      let s = sample_stored 16 (stride 16 l) (whole_column 16 l m) (whole_row 16 l m) own plane room (j * 16 + i) (omega (arith, p.0, p.1)) in
      rw (e, p.2, p.3, ← p.4) (rw (digits_mod j {m = 16} {r = i} p.0, digits_div j {m = 16} {r = i} p.0) at s)
  by_own k false i j place e h = rw e

  -- neighbour k outside it
  by_plane : (k : ℕ) (t : Bool) → present_at 4 l m b k ≡ t
      → (t ≡ true → (i j : ℕ) → i < 16 → j < 16 → neighbour_column 4 (block_column l m b) k - 1 ≡ whole_column 16 l m + i → neighbour_row 4 (block_row l m b) k - 1 ≡ whole_row 16 l m + j → ⊥)
      → neighbour 4 l m b (with_whole 16 l m own plane) k ≡ neighbour 4 l m b plane k
  unfolding neighbour
  by_plane k true e off =
      let p = seen l m b k e in
      rw e
      (sample_off 16 (stride 16 l) (whole_column 16 l m) (whole_row 16 l m) own plane room.wide (neighbour_column 4 (block_column l m b) k - 1) (neighbour_row 4 (block_row l m b) k - 1)
      (omega (arith, p.left, p.right)) (off refl))
  by_plane k false e off = rw e

  -- the block in its macroblock
  column_is : block_column l m b ≡ whole_column 16 l m + 4 * column_in b
  unfolding block_column
  column_is = refl

  row_is : block_row l m b ≡ whole_row 16 l m + 4 * row_in b
  unfolding block_row
  row_is = refl

  pub corner_own : 0 < row_in b → 0 < column_in b → neighbour 4 l m b (with_whole 16 l m own plane) 0 ≡ cond (present_at 4 l m b 0) (get_or own (own_place b - 17) 0) 0
  corner_own v u =
      by_own 0 (present_at 4 l m b 0) (4 * column_in b - 1) (4 * row_in b - 1) (own_place b - 17) refl
      (λ e. (omega (arith, column_four b a.block), omega (arith, row_four b a.block), omega (arith, column_is), omega (arith, row_is), omega arith))

  pub above_own : 0 < row_in b → (i : ℕ) → i < 4 → neighbour 4 l m b (with_whole 16 l m own plane) (1 + i) ≡ cond (present_at 4 l m b 1) (get_or own (own_place b - 16 + i * 1) 0) 0
  above_own v i h =
      by_own (1 + i) (present_at 4 l m b 1) (4 * column_in b + i) (4 * row_in b - 1) (own_place b - 16 + i * 1) (with_first_above (among_four a) (1 + i) (omega arith) (omega arith))
      (λ e.
      rw (le-leb (1 + i) 8 (omega arith))
      (omega (arith, column_four b a.block), omega (arith, row_four b a.block), omega (arith, column_is), omega (arith, row_is), omega arith))

  -- where they are present the block is not in the last column
  not_last : 0 < row_in b → present_at 4 l m b 5 ≡ true → column_in b < 3
  not_last v e = by_case (ltb (column_in b) 3) refl
    where
      is_early : early 4 b ≡ true
      is_early =
          (both_true (leb (block_column l m b + 2 * 4) (16 * l.width)) (early 4 b)
          (both_true (ltb 0 (row_in_slice l m b)) (leb (block_column l m b + 2 * 4) (16 * l.width) && early 4 b) (sym (upper_right_is (among_four a)) ∙ e)).1).1

      by_case : (t : Bool) → ltb (column_in b) 3 ≡ t → column_in b < 3
      by_case true f = ltb-true (column_in b) 3 f
      by_case false f = absurd (subst T (sym is_early ∙ (inner_facts b a.block).edge (omega (arith, ltb-false (column_in b) 3 f)) v) tt)

  pub right_own : 0 < row_in b → (i : ℕ) → i < 4 → neighbour 4 l m b (with_whole 16 l m own plane) (5 + i) ≡ cond (present_at 4 l m b 5) (get_or own (own_place b - 12 + i * 1) 0) 0
  right_own v i h =
      by_own (5 + i) (present_at 4 l m b 5) (4 * column_in b + 4 + i) (4 * row_in b - 1) (own_place b - 12 + i * 1) (with_first_right (among_four a) (5 + i) (omega arith) (omega arith))
      (λ e.
      rw (le-leb (5 + i) 8 (omega arith))
      (omega (arith, not_last v e), omega (arith, row_four b a.block), omega (arith, column_is), omega (arith, row_is), omega arith))

  pub left_own : 0 < column_in b → (i : ℕ) → i < 4 → neighbour 4 l m b (with_whole 16 l m own plane) (9 + i) ≡ cond (present_at 4 l m b 9) (get_or own (own_place b - 1 + i * 16) 0) 0
  left_own u i h =
      by_own (9 + i) (present_at 4 l m b 9) (4 * column_in b - 1) (4 * row_in b + i) (own_place b - 1 + i * 16) (with_first_left (among_four a) (9 + i) (omega arith) (omega arith))
      (λ e.
      rw (lt-leb (9 + i) 8 (omega arith))
      (omega (arith, column_four b a.block), omega (arith, row_four b a.block), omega (arith, column_is), omega (arith, row_is), omega arith))

  -- outside it: a row above the macroblock, or a column before it
  pub corner_beside : row_in b * column_in b ≡ 0 → neighbour 4 l m b (with_whole 16 l m own plane) 0 ≡ neighbour 4 l m b plane 0
  corner_beside z =
      by_plane 0 (present_at 4 l m b 0) refl
      (λ e i j hi hj x y. let p = seen l m b 0 e in by_case (eqb (row_in b) 0) (eqb (column_in b) 0) refl refl i j x y p.left p.up)
    where
      by_case : (s t : Bool) → eqb (row_in b) 0 ≡ s → eqb (column_in b) 0 ≡ t → (i j : ℕ)
          → block_column l m b + 0 - 1 ≡ whole_column 16 l m + i → block_row l m b - 1 ≡ whole_row 16 l m + j → 0 < block_column l m b + 0 → 0 < block_row l m b → ⊥
      by_case true t e f i j x y left up = let q = eqb-true (row_in b) 0 e in absurd (omega (arith, row_is))
      by_case false true e f i j x y left up = let q = eqb-true (column_in b) 0 f in absurd (omega (arith, column_is))
      by_case false false e f i j x y left up =
          let v = eqb-false (row_in b) 0 e in
          let u = eqb-false (column_in b) 0 f in
          let v1 : 1 ≤ row_in b = omega arith in
          let u1 : 1 ≤ column_in b = omega arith in
          absurd (omega (arith, z, mul-le-mul v1 u1))

  pub above_beside : row_in b ≡ 0 → (i : ℕ) → i < 4 → neighbour 4 l m b (with_whole 16 l m own plane) (1 + i) ≡ neighbour 4 l m b plane (1 + i)
  above_beside v i h =
      by_plane (1 + i) (present_at 4 l m b (1 + i)) refl
      (λ e u w hu hw x y. let p = rw (le-leb (1 + i) 8 (omega arith)) at (seen l m b (1 + i) e).up in omega (arith, rw (le-leb (1 + i) 8 (omega arith)) at y, row_is))

  pub right_beside : row_in b ≡ 0 → (i : ℕ) → i < 4 → neighbour 4 l m b (with_whole 16 l m own plane) (5 + i) ≡ neighbour 4 l m b plane (5 + i)
  right_beside v i h =
      by_plane (5 + i) (present_at 4 l m b (5 + i)) refl
      (λ e u w hu hw x y. let p = rw (le-leb (5 + i) 8 (omega arith)) at (seen l m b (5 + i) e).up in omega (arith, rw (le-leb (5 + i) 8 (omega arith)) at y, row_is))

  pub left_beside : column_in b ≡ 0 → (i : ℕ) → i < 4 → neighbour 4 l m b (with_whole 16 l m own plane) (9 + i) ≡ neighbour 4 l m b plane (9 + i)
  left_beside u i h =
      by_plane (9 + i) (present_at 4 l m b (9 + i)) refl
      (λ e v w hv hw x y. let p = rw (lt-leb (9 + i) 8 (omega arith)) at (seen l m b (9 + i) e).left in omega (arith, rw (lt-leb (9 + i) 8 (omega arith)) at x, column_is))

-- ---- a block stored among the samples

module _ {l : Layout} {m b : ℕ} (a : Among l m b) (block own plane : List ℕ) (size : length own ≡ 256) (long : length plane ≡ plane_length 16 l) where
  some : 0 < l.width
  some = a.sound.some

  abbrev patched : List ℕ
  patched = with_whole 16 l m own plane

  abbrev inner : List ℕ
  inner = stored 4 16 (4 * column_in b) (4 * row_in b) block own

  patched_long : length (with_whole 16 l m own plane) ≡ plane_length 16 l
  patched_long = length_stored 16 (stride 16 l) (whole_column 16 l m) (whole_row 16 l m) own plane ∙ long

  room_own : Room 4 (length own) 16 (4 * column_in b) (4 * row_in b)
  room_own = let f = inner_facts b a.block in record { wide = f.thin; high = rw size (omega (arith, f.low)) }

  covers_one : covers 4 ≡ 1
  unfolding covers
  covers_one = refl

  pub block_over : with_whole 16 l m inner plane ≡ with_block 4 l m b block patched
  block_over =
      ext_get_or 0 (with_whole 16 l m inner plane) (with_block 4 l m b block patched)
      (length_stored 16 (stride 16 l) (whole_column 16 l m) (whole_row 16 l m) inner plane
      ∙ sym (length_stored 4 (stride 16 l) (block_column l m b) (block_row l m b) block patched ∙ length_stored 16 (stride 16 l) (whole_column 16 l m) (whole_row 16 l m) own plane))
      (λ i h. by_case i (eqb (macroblock_owning 16 l i) m) (eqb (owner_of l i) (order_of m b)) refl refl)
    where
      kept : (i : ℕ) → (owner_of l i ≡ order_of m b → ⊥) → get_or (with_block 4 l m b block patched) i 0 ≡ get_or patched i 0
      kept i other = others_kept l some 4 m b a.macroblock (starts_four b a.block) block patched i (λ w. other (omega (arith, w.0, w.1, covers_one)))

      inside : (i : ℕ) → macroblock_owning 16 l i ≡ m → Within 16 (whole_column 16 l m) (whole_row 16 l m) (i % stride 16 l) (i / stride 16 l)
      inside i o = in_whole 16 (omega arith) l (i % stride 16 l) (i / stride 16 l) m (mod-lt i (wide 16 (omega arith) l some)) o

      by_case : (i : ℕ) (s t : Bool) → eqb (macroblock_owning 16 l i) m ≡ s → eqb (owner_of l i) (order_of m b) ≡ t
          → get_or (with_whole 16 l m inner plane) i 0 ≡ get_or (with_block 4 l m b block patched) i 0
      by_case i false t e f =
          let n = eqb-false (macroblock_owning 16 l i) m e in
          let o = order_macroblock l (i % stride 16 l) (i / stride 16 l) in
          whole_kept 16 (omega arith) l some m a.macroblock inner plane i n
          ∙ sym (kept i (λ w. n (omega (arith, o.0, o.1, a.block))) ∙ whole_kept 16 (omega arith) l some m a.macroblock own plane i n)
      by_case i true false e f =
          let o = eqb-true (macroblock_owning 16 l i) m e in
          let n = eqb-false (owner_of l i) (order_of m b) f in
          let w = inside i o in
          whole_stored 16 (omega arith) l some m a.macroblock inner plane long i o
          ∙ sample_off 4 16 (4 * column_in b) (4 * row_in b) block own room_own.wide (i % stride 16 l - whole_column 16 l m) (i / stride 16 l - whole_row 16 l m) (omega (arith, w.left, w.right))
          (λ u v hu hv x y. n (off i u v hu hv (omega (arith, w.left)) (omega (arith, w.up))))
          ∙ sym (kept i n ∙ whole_stored 16 (omega arith) l some m a.macroblock own plane long i o)
        where
          off : (i u v : ℕ) → u < 4 → v < 4 → i % stride 16 l ≡ whole_column 16 l m + 4 * column_in b + u → i / stride 16 l ≡ whole_row 16 l m + 4 * row_in b + v → owner_of l i ≡ order_of m b
          off i u v hu hv x y = rw (x, y) (rw (column_is a own plane long, row_is a own plane long) at (own_order l m b u v a.block hu hv))
      by_case i true true e f =
          let o = eqb-true (macroblock_owning 16 l i) m e in
          let w = inside i o in
          let n = eqb-true (owner_of l i) (order_of m b) f in
          let q = in_block 4 l (i % stride 16 l) (i / stride 16 l) m b (starts_four b a.block) (mod-lt i (wide 16 (omega arith) l some)) (omega arith) (omega (arith, covers_one)) in
          let c = column_is a own plane long in
          let r = row_is a own plane long in
          let dx : i % stride 16 l - block_column l m b < 4 = omega (arith, q.left, q.right) in
          let dy : i / stride 16 l - block_row l m b < 4 = omega (arith, q.up, q.down) in
          let x : 4 * column_in b + (i % stride 16 l - block_column l m b) ≡ i % stride 16 l - whole_column 16 l m = omega (arith, q.left, c) in
          let y : 4 * row_in b + (i / stride 16 l - block_row l m b) ≡ i / stride 16 l - whole_row 16 l m = omega (arith, q.up, r) in
          whole_stored 16 (omega arith) l some m a.macroblock inner plane long i o
          ∙ (rw (digits_mod (i / stride 16 l - block_row l m b) {m = 4} {r = i % stride 16 l - block_column l m b} dx, digits_div (i / stride 16 l - block_row l m b) {m = 4} {r = i % stride 16 l - block_column l m b} dx, x, y) at
          (sample_stored 4 16 (4 * column_in b) (4 * row_in b) block own room_own ((i / stride 16 l - block_row l m b) * 4 + (i % stride 16 l - block_column l m b)) (omega (arith, dx, dy))))
          ∙ sym (own_stored l some 4 m b a.macroblock (starts_four b a.block) block patched patched_long i (omega arith, omega (arith, covers_one)))

-- ---- a step of the macroblock, of its samples

module _ (s : ℕ) (small : 0 < s) (l : Layout) (some : 0 < l.width) (m : ℕ) (among : m < count_of l) where
  -- planes that agree at every sample of a macroblock have the same samples of it in raster order
  pub whole_same : (p q : List ℕ) → ((i : ℕ) → i < plane_length s l → macroblock_owning s l i ≡ m → get_or p i 0 ≡ get_or q i 0) → whole_of s l m p ≡ whole_of s l m q
  unfolding block_at
  whole_same p q same =
      let room = room_whole l some m among s in
      grid_same s _ _
      (λ i j hi hj.
      let column : whole_column s l m + i < s * l.width = omega (arith, room.wide) in
      same ((whole_row s l m + j) * stride s l + (whole_column s l m + i)) (within room i j hi hj)
      (rw (digits_mod (whole_row s l m + j) column, digits_div (whole_row s l m + j) column) (whole_owned s l m i j hi hj)))

  -- a sample of the macroblock, among these
  pub record Inside (i : ℕ) : Type 0 where
    pub column : i % stride s l - whole_column s l m < s
    pub row : i / stride s l - whole_row s l m < s
    pub reads : (q : List ℕ) → get_or (whole_of s l m q) (s * (i / stride s l - whole_row s l m) + (i % stride s l - whole_column s l m)) 0 ≡ get_or q i 0

  pub whole_at : (i : ℕ) → macroblock_owning s l i ≡ m → Inside i
  unfolding block_at
  whole_at i o =
      let w = in_whole s small l (i % stride s l) (i / stride s l) m (mod-lt i (wide s small l some)) o in
      let x : whole_column s l m + (i % stride s l - whole_column s l m) ≡ i % stride s l = omega (arith, w.left) in
      let y : whole_row s l m + (i / stride s l - whole_row s l m) ≡ i / stride s l = omega (arith, w.up) in
      let column : i % stride s l - whole_column s l m < s = omega (arith, w.left, w.right) in
      let row : i / stride s l - whole_row s l m < s = omega (arith, w.up, w.down) in
      record {
        column = column;
        row = row;
        reads = λ q.
            get_d_grid s (λ u v. sample_at (stride s l) q (whole_column s l m + u) (whole_row s l m + v)) (i % stride s l - whole_column s l m) (i / stride s l - whole_row s l m) 0 column row
            ∙ rw (x, y) (ap (λ (k : ℕ). get_or q k 0) (div-add-mod' i (s * l.width)));
      }

  -- what stands there, stored there
  whole_again : (q : List ℕ) → length q ≡ plane_length s l → with_whole s l m (whole_of s l m q) q ≡ q
  whole_again q long =
      ext_get_or 0 (with_whole s l m (whole_of s l m q) q) q
      (length_stored s (stride s l) (whole_column s l m) (whole_row s l m) (whole_of s l m q) q)
      (λ i h. by_case i (eqb (macroblock_owning s l i) m) refl)
    where
      by_case : (i : ℕ) (t : Bool) → eqb (macroblock_owning s l i) m ≡ t → get_or (with_whole s l m (whole_of s l m q) q) i 0 ≡ get_or q i 0
      by_case i true e =
          let o = eqb-true (macroblock_owning s l i) m e in
          whole_stored s small l some m among (whole_of s l m q) q long i o
          ∙ ap (λ (k : ℕ). get_or (whole_of s l m q) (k + (i % stride s l - whole_column s l m)) 0) (mul_comm (i / stride s l - whole_row s l m) s)
          ∙ (whole_at i o).reads q
      by_case i false e = whole_kept s small l some m among (whole_of s l m q) q i (eqb-false (macroblock_owning s l i) m e)

  module _ {f : List ℕ → List ℕ} (step : MacroblockStep s l m f) (p : List ℕ) (long : length p ≡ plane_length s l) where
    pub step_beside : (own : List ℕ) → whole_of s l m (f (with_whole s l m own p)) ≡ whole_of s l m (f p)
    step_beside own =
        whole_same (f (with_whole s l m own p)) (f p)
        (λ i h o.
        step.on (with_whole s l m own p) p
        (record {
          this = length_stored s (stride s l) (whole_column s l m) (whole_row s l m) own p ∙ long;
          that = long;
          agree = λ k hk before. whole_kept s small l some m among own p k (λ e. let n = seen_before s l m k before in absurd (omega arith));
        })
        i h (omega (arith, o), omega (arith, o)))

    pub step_stored : with_whole s l m (whole_of s l m (f p)) p ≡ f p
    step_stored = sym (whole_forgets s small l some m among step p long (whole_of s l m (f p))) ∙ whole_again (f p) (step.long p ∙ long)

-- ---- the picture, beside a plane that agrees with it before a macroblock

fold_suc : (n : ℕ) (f : ℕ → List ℕ → List ℕ) (a : List ℕ) → fold (suc n) f a ≡ f n (fold n f a)
unfolding fold
fold_suc n f a = refl

module _ (s : ℕ) (small : 0 < s) (l : Layout) (some : 0 < l.width) (f : ℕ → List ℕ → List ℕ) (steps : (m : ℕ) → m < count_of l → MacroblockStep s l m (f m)) (start : List ℕ) where
  pub settled : (m n : ℕ) → m ≤ n → n ≤ count_of l → (i : ℕ) → i < plane_length s l → macroblock_owning s l i < m → get_or (fold n f start) i 0 ≡ get_or (fold m f start) i 0
  settled m zero below most i h own = absurd (omega (arith, own))
  settled m (suc n) below most i h own = by (λ b. settled m n b (omega arith) i h own) (eqb m (suc n)) refl
    where
      by : (m ≤ n → get_or (fold n f start) i 0 ≡ get_or (fold m f start) i 0) → (t : Bool) → eqb m (suc n) ≡ t → get_or (fold (suc n) f start) i 0 ≡ get_or (fold m f start) i 0
      by rest true e = ap (λ (k : ℕ). get_or (fold k f start) i 0) (sym (eqb-true m (suc n) e))
      by rest false e =
          let earlier : m ≤ n = omega (arith, below, eqb-false m (suc n) e) in
          ap (λ (p : List ℕ). get_or p i 0) (fold_suc n f start)
          ∙ (steps n (omega arith)).off (fold n f start) i h (λ b. absurd (omega (arith, b.0, own, earlier)))
          ∙ rest earlier

  module _ (long : length start ≡ plane_length s l) (m : ℕ) (among : m < count_of l) where
    pub made_beside : (theirs : List ℕ) → length theirs ≡ plane_length s l
        → ((i : ℕ) → i < plane_length s l → macroblock_owning s l i < m → get_or theirs i 0 ≡ get_or (fold (count_of l) f start) i 0)
        → whole_of s l m (f m theirs) ≡ whole_of s l m (fold (count_of l) f start)
    made_beside theirs lent before =
        whole_same s small l some m among (f m theirs) (fold (count_of l) f start)
        (λ i h own.
        (steps m among).on theirs (fold m f start)
        (record {
          this = lent;
          that = (first_steps s small l some f steps m (omega arith)).long start ∙ long;
          agree = λ j hj seen. let b = seen_before s l m j seen in before j hj b ∙ settled m (count_of l) (omega arith) (omega arith) j hj b;
        })
        i h (omega (arith, own), omega (arith, own))
        ∙ ap (λ (p : List ℕ). get_or p i 0) (sym (fold_suc m f start))
        ∙ sym (settled (suc m) (count_of l) (omega arith) (omega arith) i h (omega (arith, own))))
