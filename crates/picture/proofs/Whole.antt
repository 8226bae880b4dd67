-- A macroblock as one block of s by s samples, in a plane where a macroblock has so many.
--     whole_back                      a stored macroblock is read back
--     whole_kept, whole_stored        what stands in a plane with a macroblock stored: in its own places, and in the others
--     whole_step                      its turn is a step of it
--     whole_forgets, round_after      storing a macroblock forgets what another step of it did, and its neighbours are the same after that step
--     MakesWholeBytes, whole_turn_bytes     a plane of bytes stays one
--     same_blocks, same_whole         in luma: planes that agree at every sample of a macroblock have the same sixteen 4x4 blocks of it; planes that
--                                     have these have the same samples of it in raster order
-- Assumes nothing.
use mathlib.Core.Path.{◌≡◌, refl, sym, ap, ◌∙◌}
use mathlib.Core.Bool.{Bool, true, false}
use mathlib.Core.List.{List}
use Prim.Native.Nat.{ℕ, ◌+◌, ◌*◌, ◌-◌, ◌/◌, ◌%◌, ◌<◌}
use native.Mathlib.Nat.{mod-lt, div-add-mod'}
use native.Mathlib.Omega.{arith}
use borrow.Author.Tests.{eqb-true, eqb-false}
use lib.Arith.{digits_lt, digits_div, digits_mod}
use lib.Dec.{eqb}
use lib.ListN.{length, get_or}
use lib.Seq.{ext_get_or}
use Rattle.lists.specs.Bytes.{Bytes}
use Rattle.lists.proofs.Alike.{Agree}
use Rattle.lists.proofs.Tab.{grid_same, get_d_grid}
use Rattle.picture.specs.declared.Layout.{Layout}
use Rattle.picture.specs.Order.{count_of, column_in, row_in, block_in, block_column, block_row}
use Rattle.picture.specs.Plane.{stride, plane_length, sample_at, block_at, block_of}
use Rattle.picture.specs.Whole.{whole_column, whole_row, whole_of, with_whole, gathered_round, whole_turn}
use Rattle.picture.proofs.Blocks.{block_lt, table_permutes, starts_four}
use Rattle.picture.proofs.Bytes.{stored_bytes}
use Rattle.picture.proofs.Owner.{own_order, order_macroblock, macroblock_owning}
use Rattle.picture.proofs.Plane.{within, room_of, length_stored, sample_stored, sample_off, read_stored}
use Rattle.picture.proofs.Round.{whole_owned, in_whole, room_whole, length_gathered_round, gathered_round_bytes, gathered_round_looks}
use Rattle.picture.proofs.Steps.{MacroblockStep, wide, looks_after}

module _ (s : ℕ) (small : 0 < s) (l : Layout) (some : 0 < l.width) (m : ℕ) (among : m < count_of l) where
  module _ (block plane : List ℕ) where
    pub whole_back : length block ≡ s * s → length plane ≡ plane_length s l → whole_of s l m (with_whole s l m block plane) ≡ block
    whole_back e f = read_stored s (stride s l) (whole_column s l m) (whole_row s l m) block plane e (rw f (room_whole l some m among s))

    -- a place by its column and row
    spot : (i : ℕ) → i / stride s l * stride s l + i % stride s l ≡ i
    spot i = div-add-mod' i (s * l.width)

    pub whole_kept : (i : ℕ) → (macroblock_owning s l i ≡ m → ⊥) → get_or (with_whole s l m block plane) i 0 ≡ get_or plane i 0
    whole_kept i other =
        rw (spot i) at
        (sample_off s (stride s l) (whole_column s l m) (whole_row s l m) block plane (room_whole l some m among s).wide (i % stride s l) (i / stride s l) (mod-lt i (wide s small l some))
        (λ u v hu hv x y. other (rw (x, y) (whole_owned s l m u v hu hv))))

    pub whole_stored : length plane ≡ plane_length s l → (i : ℕ) → macroblock_owning s l i ≡ m
        → get_or (with_whole s l m block plane) i 0 ≡ get_or block ((i / stride s l - whole_row s l m) * s + (i % stride s l - whole_column s l m)) 0
    whole_stored e i o =
        let q = in_whole s small l (i % stride s l) (i / stride s l) m (mod-lt i (wide s small l some)) o in
        let dx : i % stride s l - whole_column s l m < s = omega (arith, q.left, q.right) in
        let dy : i / stride s l - whole_row s l m < s = omega (arith, q.up, q.down) in
        let x : whole_column s l m + (i % stride s l - whole_column s l m) ≡ i % stride s l = omega (arith, q.left) in
        let y : whole_row s l m + (i / stride s l - whole_row s l m) ≡ i / stride s l = omega (arith, q.up) in
        rw (digits_mod (i / stride s l - whole_row s l m) dx, digits_div (i / stride s l - whole_row s l m) dx, x, y, spot i) at
        (sample_stored s (stride s l) (whole_column s l m) (whole_row s l m) block plane (rw e (room_whole l some m among s))
        ((i / stride s l - whole_row s l m) * s + (i % stride s l - whole_column s l m)) (digits_lt dy dx))

  -- ---- its turn

  pub whole_step : (make : ℕ → List ℕ → List ℕ) → MacroblockStep s l m (whole_turn s make l m)
  unfolding whole_turn
  whole_step make = record {
    long = λ p. length_stored s (stride s l) (whole_column s l m) (whole_row s l m) (make m (gathered_round s l m p)) p;
    off = λ p i h other. whole_kept (make m (gathered_round s l m p)) p i (λ e. other (omega arith, omega arith));
    on = λ p q a i h own.
        let o : macroblock_owning s l i ≡ m = omega (arith, own.0, own.1) in
        whole_stored (make m (gathered_round s l m p)) p a.this i o
        ∙ ap (λ (v : List ℕ). get_or (make m v) ((i / stride s l - whole_row s l m) * s + (i % stride s l - whole_column s l m)) 0) (gathered_round_looks l some m among s small p q a)
        ∙ sym (whole_stored (make m (gathered_round s l m q)) q a.that i o);
  }

  -- ---- behind another step of it

  module _ {f : List ℕ → List ℕ} (step : MacroblockStep s l m f) (p : List ℕ) (long : length p ≡ plane_length s l) where
    pub whole_forgets : (block : List ℕ) → with_whole s l m block (f p) ≡ with_whole s l m block p
    whole_forgets block =
        ext_get_or 0 (with_whole s l m block (f p)) (with_whole s l m block p)
        (kept (f p) ∙ step.long p ∙ sym (kept p))
        (λ i h. by_case i (rw (kept (f p), step.long p, long) at h) (eqb (macroblock_owning s l i) m) refl)
      where
        kept : (q : List ℕ) → length (with_whole s l m block q) ≡ length q
        kept q = length_stored s (stride s l) (whole_column s l m) (whole_row s l m) block q

        by_case : (i : ℕ) → i < plane_length s l → (t : Bool) → eqb (macroblock_owning s l i) m ≡ t → get_or (with_whole s l m block (f p)) i 0 ≡ get_or (with_whole s l m block p) i 0
        by_case i h true e =
            let o = eqb-true (macroblock_owning s l i) m e in
            whole_stored block (f p) (step.long p ∙ long) i o ∙ sym (whole_stored block p long i o)
        by_case i h false e =
            let n = eqb-false (macroblock_owning s l i) m e in
            whole_kept block (f p) i n ∙ step.off p i h (λ own. n (omega (arith, own.0, own.1))) ∙ sym (whole_kept block p i n)

    pub round_after : gathered_round s l m (f p) ≡ gathered_round s l m p
    round_after = looks_after s l m (gathered_round s l m) (gathered_round_looks l some m among s small) step p long

-- ---- bytes

-- of the neighbours of a macroblock, which are bytes, it makes bytes
abbrev pub MakesWholeBytes : (s : ℕ) (make : ℕ → List ℕ → List ℕ) → Type 0
MakesWholeBytes s make = (m : ℕ) (neighbours : List ℕ) → length neighbours ≡ 2 * s + 1 → Bytes neighbours → Bytes (make m neighbours)

pub whole_turn_bytes : (s : ℕ) (make : ℕ → List ℕ → List ℕ) → MakesWholeBytes s make → (l : Layout) (m : ℕ) (plane : List ℕ) → Bytes plane → Bytes (whole_turn s make l m plane)
unfolding whole_turn
whole_turn_bytes s make makes l m plane bytes =
    stored_bytes s (stride s l) (whole_column s l m) (whole_row s l m) (make m (gathered_round s l m plane)) plane
    (makes m (gathered_round s l m plane) (length_gathered_round s l m plane) (gathered_round_bytes s l m plane bytes)) bytes

-- ---- luma

-- a sample of the macroblock is one of a 4x4 block
by_fours : (l : Layout) (m i j : ℕ) (plane : List ℕ) → i < 16 → j < 16
    → sample_at (stride 16 l) plane (whole_column 16 l m + i) (whole_row 16 l m + j) ≡ get_or (block_of 4 l m (block_in (i / 4) (j / 4)) plane) (4 * (j % 4) + i % 4) 0
unfolding block_at block_column block_row
by_fours l m i j plane hi hj =
    let t = table_permutes (i / 4) (j / 4) (omega arith) (omega arith) in
    let b = block_in (i / 4) (j / 4) in
    let x : 16 * (m % l.width) + 4 * column_in (block_in (i / 4) (j / 4)) + i % 4 ≡ 16 * (m % l.width) + i = omega (arith, t.0) in
    let y : 16 * (m / l.width) + 4 * row_in (block_in (i / 4) (j / 4)) + j % 4 ≡ 16 * (m / l.width) + j = omega (arith, t.1) in
    sym (
    get_d_grid 4 (λ u v. sample_at (stride 16 l) plane (16 * (m % l.width) + 4 * column_in b + u) (16 * (m / l.width) + 4 * row_in b + v)) (i % 4) (j % 4) 0 (omega arith) (omega arith)
    ∙ rw (x, y)
    )

pub same_blocks : (l : Layout) → 0 < l.width → (m : ℕ) → m < count_of l → (p q : List ℕ) → Agree 0 (plane_length 16 l) (λ i. macroblock_owning 16 l i ≡ m) p q
    → (b : ℕ) → b < 16 → block_of 4 l m b p ≡ block_of 4 l m b q
unfolding block_at
same_blocks l some m among p q alike b hb =
    let room = room_of 4 l m b some among (starts_four b hb) in
    grid_same 4 _ _
    (λ i j hi hj.
    let column : block_column l m b + i < 16 * l.width = omega (arith, room.wide) in
    let own = own_order l m b i j hb hi hj in
    let order = order_macroblock l (block_column l m b + i) (block_row l m b + j) in
    alike.agree ((block_row l m b + j) * stride 16 l + (block_column l m b + i)) (within room i j hi hj)
    (rw (digits_mod (block_row l m b + j) column, digits_div (block_row l m b + j) column) (omega (arith, own, order.0, order.1))))

pub same_whole : (l : Layout) (m : ℕ) (p q : List ℕ) → ((b : ℕ) → b < 16 → block_of 4 l m b p ≡ block_of 4 l m b q) → whole_of 16 l m p ≡ whole_of 16 l m q
unfolding block_at
same_whole l m p q same =
    grid_same 16 _ _
    (λ i j hi hj.
    by_fours l m i j p hi hj
    ∙ ap (λ (block : List ℕ). get_or block (4 * (j % 4) + i % 4) 0) (same (block_in (i / 4) (j / 4)) (block_lt (i / 4) (j / 4) (omega arith) (omega arith)))
    ∙ sym (by_fours l m i j q hi hj))
