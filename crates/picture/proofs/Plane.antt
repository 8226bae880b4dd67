-- Blocks of n by n samples in a plane: a stored block is read back, and nothing else has changed.
--     Room, within                 the block lies in the plane, and each of its samples
--     sample_stored, sample_off    what stands in the block after it is stored, and at any other place
--     read_stored                  the block that is read there is the one that was stored
--     length_stored                a plane keeps its length
--     room_of, room_among          a block of the picture lies in its plane
--     spot_at, spot_in, block_by, stored_by     the same with places counted from the block's first, as the code takes them
-- Assumes nothing.
use mathlib.Core.Path.{◌≡◌, sym, ap, ◌∙◌}
use mathlib.Core.List.{List}
use Prim.Native.Nat.{ℕ, ◌+◌, ◌*◌, ◌/◌, ◌%◌, ◌<◌, ◌≤◌}
use native.Mathlib.Nat.{mod-lt, div-add-mod', div-lt_iff_lt-mul, mul-le-mul_right}
use native.Mathlib.Omega.{arith}
use lib.Arith.{digits_lt, digits_div, digits_mod}
use lib.ListN.{length, get_or}
use Rattle.lists.specs.Stores.{stores}
use Rattle.lists.specs.Tab.{grid, in_raster}
use Rattle.lists.proofs.Stores.{length_stores, get_d_stores_at, get_d_stores_off, stores_same}
use Rattle.lists.proofs.Tab.{row_below, column_below, tab_of, tab_same}
use Rattle.picture.specs.declared.Layout.{Layout}
use Rattle.picture.specs.Order.{Sound, Among, Starts, row_in, block_column, block_row}
use Rattle.picture.specs.Plane.{stride, plane_length, sample_at, block_at, sample_place, stored}
use Rattle.picture.proofs.Blocks.{stands, starts_four}

-- the n by n samples from column x of row y on lie within a plane of that length, in rows of s
pub record Room (n len s x y : ℕ) : Type 0 where
  pub wide : x + n ≤ s
  pub high : (y + n) * s ≤ len

-- a place in the block is known by its digits
same_digits : (n j k : ℕ) → j % n ≡ k % n → j / n ≡ k / n → j ≡ k
same_digits n j k c r = sym (div-add-mod' j n) ∙ rw (c, r) (div-add-mod' k n)

-- two places in rows of s samples are the same only in the same column and row
cell : (s x y x' y' : ℕ) → x < s → x' < s → y * s + x ≡ y' * s + x' → (x ≡ x') × (y ≡ y')
cell s x y x' y' h h' e =
    (sym (digits_mod y h) ∙ ap (λ (n : ℕ). n % s) e ∙ digits_mod y' h', sym (digits_div y h) ∙ ap (λ (n : ℕ). n / s) e ∙ digits_div y' h')

pub within : {n len s x y : ℕ} → Room n len s x y → (i j : ℕ) → i < n → j < n → (y + j) * s + (x + i) < len
within {n} {len} {s} {x} {y} r i j hi hj =
    omega (arith, r.high, digits_lt {q = y + j} {m = y + n} {r = x + i} {c = s} (omega arith) (omega (arith, r.wide)))

module _ (n s x y : ℕ) (block plane : List ℕ) where
  pub length_stored : length (stored n s x y block plane) ≡ length plane
  unfolding stored
  length_stored = length_stores (sample_place n s x y) (λ k. get_or block k 0) (n * n) plane

  pub sample_stored : Room n (length plane) s x y → (k : ℕ) → k < n * n → sample_at s (stored n s x y block plane) (x + k % n) (y + k / n) ≡ get_or block k 0
  unfolding stored
  sample_stored r k h =
      get_d_stores_at (sample_place n s x y) (λ j. get_or block j 0) (n * n) plane k 0
      (λ j l e.
      let q = cell s (x + k % n) (y + k / n) (x + j % n) (y + j / n) (omega (arith, r.wide, column_below n k h)) (omega (arith, r.wide, column_below n j l)) e in
      same_digits n j k (omega (arith, q.0)) (omega (arith, q.1)))
      h (within r (k % n) (k / n) (column_below n k h) (row_below n k h))

  pub sample_off : x + n ≤ s → (i j : ℕ) → i < s → ((a c : ℕ) → a < n → c < n → i ≡ x + a → j ≡ y + c → ⊥)
      → sample_at s (stored n s x y block plane) i j ≡ sample_at s plane i j
  unfolding stored
  sample_off w i j h off =
      get_d_stores_off (sample_place n s x y) (λ k. get_or block k 0) (n * n) plane (j * s + i) 0
      (λ k l e.
      let q = cell s i j (x + k % n) (y + k / n) h (omega (arith, column_below n k l)) e in
      off (k % n) (k / n) (column_below n k l) (row_below n k l) q.0 q.1)

  pub read_stored : length block ≡ n * n → Room n (length plane) s x y → block_at n s x y (stored n s x y block plane) ≡ block
  unfolding block_at grid
  read_stored e r = tab_of (n * n) (in_raster n (λ i j. sample_at s (stored n s x y block plane) (x + i) (y + j))) block 0 e (λ k h. sample_stored r k h)

-- a block of the picture lies in its plane
pub room_of : (n : ℕ) (l : Layout) (m b : ℕ) → 0 < l.width → m < l.width * l.height → Starts n b → Room n (plane_length 16 l) (stride 16 l) (block_column l m b) (block_row l m b)
unfolding block_column block_row
room_of n l m b some among start =
    let f = stands n b start in
    let r : m / l.width < l.height = (div-lt_iff_lt-mul some).1 (omega arith) in
    record {
      wide = omega (arith, f.thin, mod-lt m some);
      high = omega (arith, mul-le-mul_right (16 * l.width) (let e : 16 * (m / l.width) + 4 * row_in b + n ≤ 16 * l.height = omega (arith, f.low) in e));
    }

pub room_among : {l : Layout} {m b : ℕ} → Among l m b → Room 4 (plane_length 16 l) (stride 16 l) (block_column l m b) (block_row l m b)
room_among {l} {m} {b} a = room_of 4 l m b a.sound.some a.macroblock (starts_four b a.block)

-- no place of a plane is too large
pub samples_fit : {l : Layout} → Sound l → plane_length 16 l ≤ 4194304
samples_fit {l} s = omega (arith, s.high, mul-le-mul_right l.height s.wide)

-- the places of a block, counted from its first
pub from_first : (s x y i j : ℕ) → (y + j) * s + (x + i) ≡ y * s + x + j * s + i
from_first s x y i j = omega arith

pub spot_at : {n len s x y : ℕ} → Room n len s x y → (i j : ℕ) → i < n → j < n → y * s + x + j * s + i < len
spot_at {n} {len} {s} {x} {y} r i j hi hj = rw (from_first s x y i j) at (within r i j hi hj)

module _ {l : Layout} {m b : ℕ} (a : Among l m b) where
  pub spot_in : (i j : ℕ) → i < 4 → j < 4 → block_row l m b * stride 16 l + block_column l m b + j * stride 16 l + i < plane_length 16 l
  spot_in = spot_at (room_among a)

  pub first_in_law : block_row l m b * stride 16 l + block_column l m b < plane_length 16 l
  first_in_law = omega (arith, spot_in 0 0 (omega arith) (omega arith))

-- a block that is read, and a plane with a block stored, by those places
pub block_by : (n s x y : ℕ) (plane : List ℕ) → block_at n s x y plane ≡ grid n (λ i j. get_or plane (y * s + x + j * s + i) 0)
unfolding block_at grid
block_by n s x y plane =
    tab_same (n * n) _ _ (λ k h. ap (λ (place : ℕ). get_or plane place 0) (from_first s x y (k % n) (k / n)))

pub stored_by : (n s x y : ℕ) (block plane : List ℕ) → stored n s x y block plane ≡ stores (n * n) (λ k. y * s + x + k / n * s + k % n) (λ k. get_or block k 0) plane
unfolding stored
stored_by n s x y block plane = stores_same (sample_place n s x y) (λ k. y * s + x + k / n * s + k % n) (λ k. get_or block k 0) (n * n) plane (λ k h. from_first s x y (k % n) (k / n))
