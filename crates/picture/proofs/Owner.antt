-- Whose block a sample is in: blocks of n by n, for the three sizes.
--     own_orders, own_order     the samples of a block of n by n have the numbers that it covers; those of a 4x4 block have its number
--     in_block                  a sample that has such a number lies in the block
--     order_lt                  each sample of the picture has a number below the count of its blocks
--     order_macroblock          which macroblock it is in
--     owner_of, macroblock_owning: read-back, own_stored, others_kept     a stored block is read back, and no sample of another number has changed
-- Assumes nothing.
use mathlib.Core.Path.{◌≡◌, refl, sym, ap, ◌∙◌}
use mathlib.Core.List.{List}
use Prim.Native.Nat.{ℕ, ◌+◌, ◌*◌, ◌-◌, ◌/◌, ◌%◌, ◌<◌, ◌≤◌}
use native.Mathlib.Nat.{mod-lt, div-add-mod'}
use native.Mathlib.Omega.{arith}
use lib.Arith.{digits_lt, digits_div, digits_mod}
use lib.ListN.{length, get_or}
use Rattle.lists.proofs.Alike.{Between}
use Rattle.picture.specs.declared.Layout.{Layout}
use Rattle.picture.specs.Order.{Starts, covers, block_in, column_in, row_in, block_column, block_row, order_of, order_at, macroblock_in, macroblock_at}
use Rattle.picture.specs.Plane.{stride, plane_length, block_of, with_block}
use Rattle.picture.proofs.Blocks.{stands, starts_four, block_lt, table_permutes}
use Rattle.picture.proofs.Plane.{room_of, sample_stored, sample_off, read_stored}
use Rattle.picture.proofs.Presence.{order_at_law}

pub own_orders : (n : ℕ) (l : Layout) (m b i j : ℕ) → Starts n b → i < n → j < n
    → (order_of m b ≤ order_at l (block_column l m b + i) (block_row l m b + j)) × (order_at l (block_column l m b + i) (block_row l m b + j) < order_of m b + covers n)
unfolding block_column block_row
own_orders n l m b i j start hi hj =
    let f = stands n b start in
    let o = f.own (i / 4) (j / 4) (omega arith) (omega arith) in
    let e : order_at l (16 * (m % l.width) + 4 * column_in b + i) (16 * (m / l.width) + 4 * row_in b + j) ≡ 16 * m + block_in (column_in b + i / 4) (row_in b + j / 4) =
    order_at_law l (m % l.width) (m / l.width) (column_in b + i / 4) (row_in b + j / 4) (i % 4) (j % 4) _ _
    (omega (arith, f.thin)) (omega (arith, f.low)) (omega arith) (omega arith) (omega arith) (omega arith)
    ∙ ap (λ (k : ℕ). 16 * k + block_in (column_in b + i / 4) (row_in b + j / 4)) (div-add-mod' m l.width) in
    (omega (arith, e, o.0), omega (arith, e, o.1))

covers_four : covers 4 ≡ 1
unfolding covers
covers_four = refl

pub own_order : (l : Layout) (m b i j : ℕ) → b < 16 → i < 4 → j < 4 → order_at l (block_column l m b + i) (block_row l m b + j) ≡ order_of m b
own_order l m b i j hb hi hj = let o = own_orders 4 l m b i j (starts_four b hb) hi hj in omega (arith, o.0, o.1, covers_four)

-- a number by its digits
three : (x : ℕ) → 16 * (x / 16) + 4 * (x / 4 % 4) + x % 4 ≡ x
three x = let z : x / 4 / 4 ≡ x / 16 = omega arith in omega arith

-- which macroblock a number is of
pub order_macroblock : (l : Layout) (x y : ℕ) → (16 * macroblock_at l x y ≤ order_at l x y) × (order_at l x y < 16 * macroblock_at l x y + 16)
unfolding order_at
order_macroblock l x y = let i = block_lt (x / 4 % 4) (y / 4 % 4) (omega arith) (omega arith) in (omega arith, omega arith)

-- the samples of the block of n by n from column x' of row y' on
pub record Within (n x' y' x y : ℕ) : Type 0 where
  pub left : x' ≤ x
  pub right : x < x' + n
  pub up : y' ≤ y
  pub down : y < y' + n

pub in_block : (n : ℕ) (l : Layout) (x y m b : ℕ) → Starts n b → x < 16 * l.width → order_of m b ≤ order_at l x y → order_at l x y < order_of m b + covers n
    → Within n (block_column l m b) (block_row l m b) x y
unfolding order_at block_column block_row
in_block n l x y m b start hx lo hi =
    let f = stands n b start in
    let c = block_in (x / 4 % 4) (y / 4 % 4) in
    let i : block_in (x / 4 % 4) (y / 4 % 4) < 16 = block_lt (x / 4 % 4) (y / 4 % 4) (omega arith) (omega arith) in
    let q = table_permutes (x / 4 % 4) (y / 4 % 4) (omega arith) (omega arith) in
    let a : y / 16 * l.width + x / 16 ≡ m = omega (arith, f.below, f.block) in
    let u = f.column (block_in (x / 4 % 4) (y / 4 % 4)) (omega arith) (omega arith) in
    let v = f.row (block_in (x / 4 % 4) (y / 4 % 4)) (omega arith) (omega arith) in
    let hc : x / 16 < l.width = omega arith in
    let column : m % l.width ≡ x / 16 = ap (λ (k : ℕ). k % l.width) (sym a) ∙ digits_mod (y / 16) {m = l.width} {r = x / 16} hc in
    let row : m / l.width ≡ y / 16 = ap (λ (k : ℕ). k / l.width) (sym a) ∙ digits_div (y / 16) {m = l.width} {r = x / 16} hc in
    record {
      left = omega (arith, column, u.0, q.0, three x);
      right = omega (arith, column, u.1, q.0, three x);
      up = omega (arith, row, v.0, q.1, three y);
      down = omega (arith, row, v.1, q.1, three y);
    }

pub order_lt : (l : Layout) (x y : ℕ) → x < 16 * l.width → y < 16 * l.height → order_at l x y < 16 * (l.width * l.height)
unfolding order_at
order_lt l x y hx hy =
    let i = block_lt (x / 4 % 4) (y / 4 % 4) (omega arith) (omega arith) in
    let d = digits_lt {q = y / 16} {m = l.height} {r = x / 16} {c = l.width} (omega arith) (omega arith) in
    omega arith

-- ---- places of the plane

-- the number of the 4x4 block that owns place i of the luma plane; the macroblock, where one has s by s samples
abbrev pub owner_of : Layout → ℕ → ℕ
owner_of l i = order_at l (i % stride 16 l) (i / stride 16 l)

abbrev pub macroblock_owning : (s : ℕ) → Layout → ℕ → ℕ
macroblock_owning s l i = macroblock_in s l (i % stride s l) (i / stride s l)

module _ (l : Layout) (some : 0 < l.width) where
  -- a place by its column and row
  pub spot : (i : ℕ) → i / stride 16 l * stride 16 l + i % stride 16 l ≡ i
  spot i = div-add-mod' i (16 * l.width)

  pub column_lt : (i : ℕ) → i % stride 16 l < stride 16 l
  column_lt i = mod-lt i (let z : 0 < 16 * l.width = omega arith in z)

  module _ (n m b : ℕ) (among : m < l.width * l.height) (start : Starts n b) (block plane : List ℕ) where
    pub read_back : length block ≡ n * n → length plane ≡ plane_length 16 l → block_of n l m b (with_block n l m b block plane) ≡ block
    read_back e f = read_stored n (stride 16 l) (block_column l m b) (block_row l m b) block plane e (rw f (room_of n l m b some among start))

    pub others_kept : (i : ℕ) → (Between (owner_of l) (order_of m b) (order_of m b + covers n) i → ⊥) → get_or (with_block n l m b block plane) i 0 ≡ get_or plane i 0
    others_kept i other =
        rw (spot i) at
        (sample_off n (stride 16 l) (block_column l m b) (block_row l m b) block plane (room_of n l m b some among start).wide (i % stride 16 l) (i / stride 16 l) (column_lt i)
        (λ u v hu hv x y. other (rw (x, y) (own_orders n l m b u v start hu hv))))

    pub own_stored : length plane ≡ plane_length 16 l → (i : ℕ) → Between (owner_of l) (order_of m b) (order_of m b + covers n) i
        → get_or (with_block n l m b block plane) i 0 ≡ get_or block ((i / stride 16 l - block_row l m b) * n + (i % stride 16 l - block_column l m b)) 0
    own_stored e i w =
        let q = in_block n l (i % stride 16 l) (i / stride 16 l) m b start (column_lt i) w.0 w.1 in
        let dx : i % stride 16 l - block_column l m b < n = omega (arith, q.left, q.right) in
        let dy : i / stride 16 l - block_row l m b < n = omega (arith, q.up, q.down) in
        let x : block_column l m b + (i % stride 16 l - block_column l m b) ≡ i % stride 16 l = omega (arith, q.left) in
        let y : block_row l m b + (i / stride 16 l - block_row l m b) ≡ i / stride 16 l = omega (arith, q.up) in
        rw (digits_mod (i / stride 16 l - block_row l m b) dx, digits_div (i / stride 16 l - block_row l m b) dx, x, y, spot i) at
        (sample_stored n (stride 16 l) (block_column l m b) (block_row l m b) block plane (rw e (room_of n l m b some among start))
        ((i / stride 16 l - block_row l m b) * n + (i % stride 16 l - block_column l m b)) (digits_lt dy dx))
