-- A macroblock's s by s samples block by block, for either side.
--     by_side, every_side, every_block               what holds for 16 and 8; a test that passes for both, and for all their blocks
--     side_count                                     as many blocks as a DC path has values
--     Square, square                                 what is known of a side
--     room                                           each block lies among the samples
--     Putting: putting_more, putting_done     a loop over b that puts `make b` into block b
--     blocks_bytes, part_of_blocks                   an area by its blocks: bytes; block b is `make b`
--     place_lt, block_of_place, stored_by_place      places in raster order; numbers stored by the places of their blocks
-- Assumes nothing.
use mathlib.Core.Path.{◌≡◌, sym, ap, ◌∙◌}
use mathlib.Core.Bool.{Bool, ◌&&◌}
use mathlib.Core.List.{List}
use mathlib.Core.Logic.{⊎_elim}
use Prim.Native.Nat.{ℕ, ◌+◌, ◌*◌, ◌/◌, ◌%◌, ◌<◌, ◌≤◌}
use native.Mathlib.Nat.{eq-or-lt_of_le, div-add-mod', mul-le-mul_right}
use native.Mathlib.Omega.{arith}
use lib.Dec.{T, eqb, leb, ltb, eqb→eq, leb→le, ltb→lt}
use lib.ListN.{length, get_or}
use Rattle.lists.specs.Bytes.{Bytes}
use Rattle.lists.specs.Every.{every}
use Rattle.lists.specs.First.{first}
use Rattle.lists.specs.Stores.{stores}
use Rattle.lists.specs.Tab.{tab, grid, in_raster}
use Rattle.lists.proofs.Bytes.{bytes_grid}
use Rattle.lists.proofs.Every.{every_at, every_two, both_left, both_right}
use Rattle.lists.proofs.Stores.{length_stores, get_d_stores_at}
use Rattle.lists.proofs.Tab.{get_d_grid, tab_of, row_below, column_below}
use Rattle.dc.specs.Dc.{DcCount}
use Rattle.dc.proofs.Levels.{either_of}
use Rattle.picture.specs.Order.{block_table, table_place, block_in, column_in, row_in}
use Rattle.picture.specs.Plane.{block_at}
use Rattle.picture.proofs.Blocks.{inner_facts, table_permutes}
use Rattle.picture.proofs.Plane.{Room, length_stored, sample_stored, sample_off}
use Rattle.residual_whole.specs.Area.{Sided, blocks_of, part_in, with_part, by_blocks, raster_place, raster_block}

-- ---- the two sides

pub by_side : (P : ℕ → Type 0) → P 16 → P 8 → (s : ℕ) → Sided s → P s
by_side P p q s side = either_of P 16 8 p q s side

-- its blocks are as many as a DC path has values
pub side_count : (s : ℕ) → Sided s → DcCount (blocks_of s)
side_count s side = by_side (λ n. DcCount (blocks_of n)) tt tt s side

pub every_side : (p : ℕ → Bool) → T (p 16 && p 8) → (s : ℕ) → Sided s → T (p s)
every_side p t s side = by_side (λ n. T (p n)) (both_left (p 16) (p 8) t) (both_right (p 16) (p 8) t) s side

pub every_block : (p : ℕ → ℕ → Bool) → T (every 16 (p 16) && every 4 (p 8)) → (s b : ℕ) → Sided s → b < blocks_of s → T (p s b)
every_block p t s b side h = every_at (blocks_of s) (p s) (every_side (λ n. every (blocks_of n) (p n)) t s side) b h

pub record Square (s : ℕ) : Type 0 where
  pub some : 0 < s
  pub most : s ≤ 16
  pub area : s * s ≤ 256
  pub fours : s % 4 ≡ 0
  pub many : 0 < blocks_of s
  pub few : blocks_of s ≤ 16
  -- the DC levels and fifteen AC levels for each block are as many as the samples
  pub levels : s * s ≡ blocks_of s + 15 * blocks_of s

pub square : (s : ℕ) → Sided s → Square s
square s side = record {
  some = ltb→lt _ _ (every_side (λ n. ltb 0 n) tt s side);
  most = leb→le _ _ (every_side (λ n. leb n 16) tt s side);
  area = leb→le _ _ (every_side (λ n. leb (n * n) 256) tt s side);
  fours = eqb→eq _ _ (every_side (λ n. eqb (n % 4) 0) tt s side);
  few = leb→le _ _ (every_side (λ n. leb (blocks_of n) 16) tt s side);
  many = ltb→lt _ _ (every_side (λ n. ltb 0 (blocks_of n)) tt s side);
  levels = eqb→eq _ _ (every_side (λ n. eqb (n * n) (blocks_of n + 15 * blocks_of n)) tt s side);
}

module _ (s b : ℕ) (side : Sided s) (h : b < blocks_of s) where
  thin : 4 * column_in b + 4 ≤ s
  unfolding column_in table_place block_table first
  thin = leb→le _ _ (every_block (λ n c. leb (4 * column_in c + 4) n) tt s b side h)

  low : 4 * row_in b + 4 ≤ s
  unfolding row_in table_place block_table first
  low = leb→le _ _ (every_block (λ n c. leb (4 * row_in c + 4) n) tt s b side h)

  pub room : {len : ℕ} → len ≡ s * s → Room 4 len s (4 * column_in b) (4 * row_in b)
  room e = record { wide = thin; high = rw e (mul-le-mul_right s low) }

  -- its samples are of no other block
  own : (i j : ℕ) → i < 4 → j < 4 → block_in ((4 * column_in b + i) / 4) ((4 * row_in b + j) / 4) ≡ b
  own i j hi hj =
      let u : (4 * column_in b + i) / 4 ≡ column_in b = omega arith in
      let v : (4 * row_in b + j) / 4 ≡ row_in b = omega arith in
      (λ t. block_in (u t) (v t)) ∙ (inner_facts b (omega (arith, (square s side).few))).self

-- ---- block after block

module _ (s : ℕ) (make : ℕ → List ℕ) where
  -- the block that holds place i, and its sample there
  abbrev holder : ℕ → ℕ
  holder i = block_in (i % s / 4) (i / s / 4)

  abbrev sample_of : ℕ → ℕ
  sample_of i = get_or (make (holder i)) (4 * (i / s % 4) + i % s % 4) 0

  -- the first b blocks stand in the area
  pub record Putting (area : List ℕ) (b : ℕ) : Type 0 where
    pub below : b ≤ blocks_of s
    pub long : length area ≡ s * s
    pub is : (i : ℕ) → i < s * s → holder i < b → get_or area i 0 ≡ sample_of i

  -- a place by its column and row
  spot : (i : ℕ) → i / s * s + i % s ≡ i
  spot i = div-add-mod' i s

  module _ (side : Sided s) where
    holder_lt : (i : ℕ) → i < s * s → holder i < blocks_of s
    unfolding block_in block_table
    holder_lt i h =
        let four = (square s side).fours in
        ltb→lt _ _
        (every_two (s / 4) (s / 4) (λ u v. ltb (block_in u v) (blocks_of s)) (every_side (λ n. every (n / 4) (λ u. every (n / 4) (λ v. ltb (block_in u v) (blocks_of n)))) tt s side)
        (i % s / 4) (i / s / 4) (omega (arith, four, column_below s i h)) (omega (arith, four, row_below s i h)))

    -- place i of an area with a block stored: of that block, and of the others
    placed : (b : ℕ) → b < blocks_of s → (block area : List ℕ) → length area ≡ s * s → (i : ℕ) → i < s * s → holder i ≡ b
        → get_or (with_part s b block area) i 0 ≡ get_or block (4 * (i / s % 4) + i % s % 4) 0
    placed b h block area long i l e =
        let t = table_permutes (i % s / 4) (i / s / 4) (omega (arith, column_below s i l, (square s side).most)) (omega (arith, row_below s i l, (square s side).most)) in
        let column : 4 * column_in b + (4 * (i / s % 4) + i % s % 4) % 4 ≡ i % s = omega (arith, ap column_in e, t.0) in
        let row : 4 * row_in b + (4 * (i / s % 4) + i % s % 4) / 4 ≡ i / s = omega (arith, ap row_in e, t.1) in
        rw (column, row, spot i) at
        (sample_stored 4 s (4 * column_in b) (4 * row_in b) block area (room s b side h long) (4 * (i / s % 4) + i % s % 4) (omega arith))

    kept : (b : ℕ) → b < blocks_of s → (block area : List ℕ) → (i : ℕ) → i < s * s → (holder i ≡ b → ⊥) → get_or (with_part s b block area) i 0 ≡ get_or area i 0
    kept b h block area i l other =
        rw (spot i) at
        (sample_off 4 s (4 * column_in b) (4 * row_in b) block area (thin s b side h) (i % s) (i / s) (column_below s i l)
        (λ u v hu hv x y. other ((λ t. block_in (x t / 4) (y t / 4)) ∙ own s b side h u v hu hv)))

    pub putting_more : {area after block : List ℕ} {b : ℕ} → Putting area b → b < blocks_of s → block ≡ make b → after ≡ with_part s b block area → Putting after (b + 1)
    putting_more {area} {after} {block} {b} p h is_Block is-after =
        record {
          below = omega arith;
          long = ap length is-after ∙ length_stored 4 s (4 * column_in b) (4 * row_in b) block area ∙ p.long;
          is = λ i l o.
              ap (λ (a : List ℕ). get_or a i 0) is-after
              ∙ ⊎_elim
              (λ (e : holder i ≡ b). placed b h block area p.long i l e ∙ ap (λ (t : List ℕ). get_or t (4 * (i / s % 4) + i % s % 4) 0) (is_Block ∙ ap make (sym e)))
              (λ (lt : holder i < b). kept b h block area i l (λ e. omega arith) ∙ p.is i l lt)
              (eq-or-lt_of_le (let z : holder i ≤ b = omega arith in z));
        }

    pub putting_done : {area : List ℕ} {b : ℕ} → Putting area b → blocks_of s ≤ b → area ≡ by_blocks s make
    unfolding by_blocks grid
    putting_done {area} {b} p h =
        sym (tab_of (s * s) (in_raster s (λ x y. get_or (make (block_in (x / 4) (y / 4))) (4 * (y % 4) + x % 4) 0)) area 0 p.long
        (λ i l. sym (p.is i l (omega (arith, holder_lt i l)))))

    -- block b of the area is `make b`
    pub part_of_blocks : (b : ℕ) → b < blocks_of s → length (make b) ≡ 16 → part_in s b (by_blocks s make) ≡ make b
    unfolding block_at by_blocks grid
    part_of_blocks b h e =
        tab_of 16 _ (make b) 0 e
        (λ k l.
        let x = 4 * column_in b + k % 4 in
        let y = 4 * row_in b + k / 4 in
        let z : (4 * row_in b + k / 4) * s + (4 * column_in b + k % 4) ≡ s * (4 * row_in b + k / 4) + (4 * column_in b + k % 4) = omega arith in
        let q : 4 * ((4 * row_in b + k / 4) % 4) + (4 * column_in b + k % 4) % 4 ≡ k = omega arith in
        ap (λ (i : ℕ). get_or (by_blocks s make) i 0) z
        ∙ get_d_grid s (λ x y. get_or (make (block_in (x / 4) (y / 4))) (4 * (y % 4) + x % 4) 0) x y 0 (omega (arith, thin s b side h)) (omega (arith, low s b side h))
        ∙ (λ i. get_or (make (own s b side h (k % 4) (k / 4) (omega arith) (omega arith) i)) (q i) 0))

pub blocks_bytes : (s : ℕ) (make : ℕ → List ℕ) → ((b : ℕ) → Bytes (make b)) → Bytes (by_blocks s make)
unfolding by_blocks
blocks_bytes s make h = bytes_grid s _ (λ x y. (h (block_in (x / 4) (y / 4))).byte _)

-- ---- in raster order

module _ (s : ℕ) (side : Sided s) where
  pub place_lt : (b : ℕ) → b < blocks_of s → raster_place s b < blocks_of s
  unfolding raster_place column_in row_in table_place block_table first
  place_lt b h = ltb→lt _ _ (every_block (λ n c. ltb (raster_place n c) (blocks_of n)) tt s b side h)

  pub block_of_place : (place : ℕ) → place < blocks_of s → raster_block s place < blocks_of s
  unfolding raster_block block_in block_table
  block_of_place place h = ltb→lt _ _ (every_block (λ n k. ltb (raster_block n k) (blocks_of n)) tt s place side h)

  self : (b : ℕ) → b < blocks_of s → raster_block s (raster_place s b) ≡ b
  unfolding raster_place raster_block column_in row_in table_place block_in block_table first
  self b h = eqb→eq _ _ (every_block (λ n c. eqb (raster_block n (raster_place n c)) c) tt s b side h)

  there : (k : ℕ) → k < blocks_of s → raster_place s (raster_block s k) ≡ k
  unfolding raster_place raster_block column_in row_in table_place block_in block_table first
  there k h = eqb→eq _ _ (every_block (λ n c. eqb (raster_place n (raster_block n c)) c) tt s k side h)

  pub stored_by_place : {A : Type 0} (v : ℕ → A) (z : A) (d : List A) → length d ≡ blocks_of s → stores (blocks_of s) (raster_place s) v d ≡ tab (blocks_of s) (λ place. v (raster_block s place))
  stored_by_place v z d e =
      sym (tab_of (blocks_of s) (λ place. v (raster_block s place)) (stores (blocks_of s) (raster_place s) v d) z (length_stores (raster_place s) v (blocks_of s) d ∙ e)
      (λ k h.
      let small = block_of_place k h in
      let back = there k h in
      sym (ap (λ (i : ℕ). get_or (stores (blocks_of s) (raster_place s) v d) i z) (sym back)
      ∙ get_d_stores_at (raster_place s) v (blocks_of s) d (raster_block s k) z
      (λ j l q. sym (self j l) ∙ ap (raster_block s) (sym q) ∙ self (raster_block s k) small) small (omega (arith, back, e)))))
