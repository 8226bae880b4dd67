-- Presence is rooted in macroblocks.
--     InsidePlane, inside_plane_law     what it means that a sample lies inside
--     present_by           a sample inside the picture is present if its macroblock is, or, in the own macroblock, if its 4x4 block comes earlier
--     present_outside      the same for a sample of another macroblock
--     present_first        and for the block of 16 by 16: exactly if its macroblock is
--     before_is, slice_is     a macroblock that is present comes before, and is in the same slice
--     SeenBy, SeenFrom: seen_from, seen_before     the places that a block may see, and those that a macroblock may see: of the macroblocks
--                          at the left, above left, above and above right that are present
--     neighbour_seen       a present neighbour of a block of n by n is such a place
--     beside_is            which macroblocks these are: left, above left, above, above right
-- Assumes nothing.
use mathlib.Core.Path.{◌≡◌, refl, sym, ap, ◌∙◌}
use mathlib.Core.Bool.{Bool, true, false, cond, ◌&&◌, and-true}
use mathlib.Core.Logic.{inl, inr}
use Prim.Native.Nat.{ℕ, ◌+◌, ◌*◌, ◌-◌, ◌/◌, ◌%◌, ◌<◌, ◌≤◌}
use native.Mathlib.Nat.{mod-lt, div-add-mod'}
use native.Mathlib.Omega.{arith}
use borrow.Author.Tests.{ltb-true, ltb-false, leb-true, le-leb, lt-ltb, le-ltb, eqb-true, eqb-false, ne_eqb}
use lib.Arith.{digits_div, digits_mod}
use lib.Dec.{eqb, leb, ltb}
use Rattle.lists.proofs.Alike.{Also}
use Rattle.lists.proofs.Every.{both_true, same_test}
use Rattle.picture.specs.declared.Layout.{Layout}
use Rattle.picture.specs.Order.{Starts, block_in, column_in, row_in, block_column, block_row, order_of, order_at, macroblock_at}
use Rattle.picture.specs.Plane.{stride}
use Rattle.picture.specs.Presence.{inside_plane, inside_picture, slice_of, same_slice, macroblock_present, touches, present, neighbour_column, neighbour_row, present_at}
use Rattle.picture.proofs.Blocks.{stands}
use Rattle.picture.proofs.Owner.{owner_of, macroblock_owning, order_lt, order_macroblock}
use Rattle.picture.proofs.Presence.{ltb_shift, present_is}
use Rattle.picture.proofs.Slices.{same_self, same_slice_is}

-- what it means that a sample lies inside, from a margin of one
pub record InsidePlane (s : ℕ) (l : Layout) (X Y : ℕ) : Type 0 where
  pub left : 0 < X
  pub right : X ≤ s * l.width
  pub up : 0 < Y
  pub down : Y ≤ s * l.height

pub inside_plane_law : (s : ℕ) (l : Layout) (X Y : ℕ) → inside_plane s l X Y ≡ true → InsidePlane s l X Y
inside_plane_law s l X Y e =
    let a = both_true (ltb 0 X && leb X (s * l.width)) (ltb 0 Y && leb Y (s * l.height)) e in
    let x = both_true (ltb 0 X) (leb X (s * l.width)) a.0 in
    let y = both_true (ltb 0 Y) (leb Y (s * l.height)) a.1 in
    record { left = ltb-true _ _ x.0; right = leb-true _ _ x.1; up = ltb-true _ _ y.0; down = leb-true _ _ y.1 }

earlier : (l : Layout) (m b x y : ℕ) → b < 16 → x < 16 * l.width → y < 16 * l.height
    → (ltb (order_at l x y) (order_of m b) && same_slice l (order_of m b / 16) (macroblock_at l x y))
    ≡ cond (eqb (macroblock_at l x y) m) (ltb (block_in (x / 4 % 4) (y / 4 % 4)) b) (macroblock_present l m (macroblock_at l x y))
unfolding macroblock_present order_at
earlier l m b x y hb hx hy =
    let z : (16 * m + b) / 16 ≡ m = omega arith in
    rw z (by_case (eqb (macroblock_at l x y) m) refl)
  where
    o : (16 * macroblock_at l x y ≤ order_at l x y) × (order_at l x y < 16 * macroblock_at l x y + 16)
    o = order_macroblock l x y

    by_case : (t : Bool) → eqb (macroblock_at l x y) m ≡ t
        → (ltb (order_at l x y) (order_of m b) && same_slice l m (macroblock_at l x y))
        ≡ cond t (ltb (block_in (x / 4 % 4) (y / 4 % 4)) b) (ltb (macroblock_at l x y) (l.width * l.height) && ltb (macroblock_at l x y) m && same_slice l m (macroblock_at l x y))
    by_case true e = rw (eqb-true (macroblock_at l x y) m e, same_self l m, and-true) (ltb_shift (16 * m) (block_in (x / 4 % 4) (y / 4 % 4)) b)
    by_case false e =
        let n = eqb-false (macroblock_at l x y) m e in
        let comes : ltb (order_at l x y) (order_of m b) ≡ (ltb (macroblock_at l x y) (l.width * l.height) && ltb (macroblock_at l x y) m) =
        same_test _ _
        (λ q.
        let h : order_at l x y < order_of m b = ltb-true _ _ q in
        rw (lt-ltb (macroblock_at l x y) (l.width * l.height) (omega (arith, o.0, order_lt l x y hx hy)), lt-ltb (macroblock_at l x y) m (omega (arith, o.0, n))))
        (λ q.
        let k : macroblock_at l x y < m = ltb-true _ _ (both_true (ltb (macroblock_at l x y) (l.width * l.height)) (ltb (macroblock_at l x y) m) q).1 in
        lt-ltb (order_at l x y) (order_of m b) (omega (arith, o.1))) in
        ap (λ (t : Bool). t && same_slice l m (macroblock_at l x y)) comes

pub present_by : (l : Layout) (m b X Y : ℕ) → b < 16
    → present l (order_of m b) X Y
    ≡ (inside_picture l X Y
    && cond (eqb (macroblock_at l (X - 1) (Y - 1)) m) (ltb (block_in ((X - 1) / 4 % 4) ((Y - 1) / 4 % 4)) b) (macroblock_present l m (macroblock_at l (X - 1) (Y - 1))))
unfolding present
present_by l m b X Y hb = by_case (inside_picture l X Y) refl
  where
    by_case : (t : Bool) → inside_picture l X Y ≡ t
        → (t && ltb (order_at l (X - 1) (Y - 1)) (order_of m b) && same_slice l (order_of m b / 16) (macroblock_at l (X - 1) (Y - 1)))
        ≡ (t && cond (eqb (macroblock_at l (X - 1) (Y - 1)) m) (ltb (block_in ((X - 1) / 4 % 4) ((Y - 1) / 4 % 4)) b) (macroblock_present l m (macroblock_at l (X - 1) (Y - 1))))
    by_case false e = refl
    by_case true e =
        let i = inside_plane_law 16 l X Y e in
        earlier l m b (X - 1) (Y - 1) hb (omega (arith, i.left, i.right)) (omega (arith, i.up, i.down))

pub present_outside : (l : Layout) (m b X Y : ℕ) → b < 16 → inside_picture l X Y ≡ true → (macroblock_at l (X - 1) (Y - 1) ≡ m → ⊥)
    → present l (order_of m b) X Y ≡ macroblock_present l m (macroblock_at l (X - 1) (Y - 1))
present_outside l m b X Y hb inside other = present_by l m b X Y hb ∙ rw (inside, ne_eqb (macroblock_at l (X - 1) (Y - 1)) m other)

-- a macroblock that is present comes before
pub before_is : (l : Layout) (m k : ℕ) → macroblock_present l m k ≡ true → k < m
unfolding macroblock_present
before_is l m k e = ltb-true k m (both_true (ltb k (l.width * l.height)) (ltb k m) (both_true (ltb k (l.width * l.height) && ltb k m) (same_slice l m k) e).0).1

-- and is in the same slice
pub slice_is : (l : Layout) (m k : ℕ) → macroblock_present l m k ≡ true → slice_of l k ≡ slice_of l m
unfolding macroblock_present
slice_is l m k e = same_slice_is l m k (both_true (ltb k (l.width * l.height) && ltb k m) (same_slice l m k) e).1

-- a macroblock is not present to itself
own_missing : (l : Layout) (m k : ℕ) → k ≡ m → macroblock_present l m k ≡ false
own_missing l m k e = by_case (macroblock_present l m k) refl
  where
    by_case : (t : Bool) → macroblock_present l m k ≡ t → t ≡ false
    by_case false q = refl
    by_case true q = absurd (omega (arith, before_is l m k q))

-- to the first block of a macroblock, and so to the block of 16 by 16, exactly the samples of the macroblocks that are present to it
pub present_first : (l : Layout) (m X Y : ℕ) → present l (order_of m 0) X Y ≡ (inside_picture l X Y && macroblock_present l m (macroblock_at l (X - 1) (Y - 1)))
present_first l m X Y =
    present_by l m 0 X Y (omega arith)
    ∙ ap (λ (t : Bool). inside_picture l X Y && t) (by_case (eqb (macroblock_at l (X - 1) (Y - 1)) m) refl)
  where
    by_case : (t : Bool) → eqb (macroblock_at l (X - 1) (Y - 1)) m ≡ t
        → cond t (ltb (block_in ((X - 1) / 4 % 4) ((Y - 1) / 4 % 4)) 0) (macroblock_present l m (macroblock_at l (X - 1) (Y - 1)))
        ≡ macroblock_present l m (macroblock_at l (X - 1) (Y - 1))
    by_case false e = refl
    by_case true e =
        le-ltb (block_in ((X - 1) / 4 % 4) ((Y - 1) / 4 % 4)) 0 (omega arith)
        ∙ sym (own_missing l m (macroblock_at l (X - 1) (Y - 1)) (eqb-true (macroblock_at l (X - 1) (Y - 1)) m e))

-- ---- places of the plane

-- the places that block b of macroblock m may see: present to it, and of a macroblock beside its own, or of its own
abbrev pub SeenBy : Layout → (m b : ℕ) → ℕ → Type 0
SeenBy l m b i = (present l (order_of m b) (i % stride 16 l + 1) (i / stride 16 l + 1) ≡ true) × (touches l m (macroblock_owning 16 l i) ≡ true)

-- the places that macroblock m may see, in a plane where one has s by s samples: those of the macroblocks beside it that are present to it
abbrev pub SeenFrom : (s : ℕ) → Layout → (m : ℕ) → ℕ → Type 0
SeenFrom s l m i = (macroblock_present l m (macroblock_owning s l i) ≡ true) × (touches l m (macroblock_owning s l i) ≡ true)

-- what a macroblock may see comes before it
pub seen_before : (s : ℕ) (l : Layout) (m i : ℕ) → SeenFrom s l m i → macroblock_owning s l i < m
seen_before s l m i v = before_is l m (macroblock_owning s l i) v.0

-- so does what a block may see
pub seen_earlier : (l : Layout) (m b i : ℕ) → SeenBy l m b i → owner_of l i < order_of m b
seen_earlier l m b i s =
    let x : i % stride 16 l + 1 - 1 ≡ i % stride 16 l = omega arith in
    let y : i / stride 16 l + 1 - 1 ≡ i / stride 16 l = omega arith in
    rw (x, y) at (present_is l (order_of m b) (i % stride 16 l + 1) (i / stride 16 l + 1) s.0).earlier

-- it is of another macroblock that is present, or of an earlier block of its own
pub seen_from : (l : Layout) (m b : ℕ) → b < 16 → (i : ℕ) → SeenBy l m b i → Also (owner_of l) (SeenFrom 16 l m) (order_of m 0) (order_of m b) i
seen_from l m b hb i s = by_case (eqb (macroblock_owning 16 l i) m) refl
  where
    x : i % stride 16 l + 1 - 1 ≡ i % stride 16 l
    x = omega arith

    y : i / stride 16 l + 1 - 1 ≡ i / stride 16 l
    y = omega arith

    o : (16 * macroblock_owning 16 l i ≤ owner_of l i) × (owner_of l i < 16 * macroblock_owning 16 l i + 16)
    o = order_macroblock l (i % stride 16 l) (i / stride 16 l)

    by_case : (t : Bool) → eqb (macroblock_owning 16 l i) m ≡ t → Also (owner_of l) (SeenFrom 16 l m) (order_of m 0) (order_of m b) i
    by_case true e = inr (omega (arith, o.0, eqb-true (macroblock_owning 16 l i) m e), seen_earlier l m b i s)
    by_case false e =
        inl (
          rw (x, y) at
              (sym (present_outside l m b (i % stride 16 l + 1) (i / stride 16 l + 1) hb
              (both_true _ _ (rw present_by at s.0)).0
              (rw (x, y) (eqb-false (macroblock_owning 16 l i) m e)))
              ∙ s.0),
          s.1,
        )

-- ---- the neighbours of a block

-- where neighbour k stands in the plane
abbrev pub neighbour_place : (n : ℕ) → Layout → (m b k : ℕ) → ℕ
neighbour_place n l m b k = (neighbour_row n (block_row l m b) k - 1) * stride 16 l + (neighbour_column n (block_column l m b) k - 1)

-- macroblocks by column and row
pub touch_digits : (l : Layout) (m c r : ℕ) → c < l.width → c ≤ m % l.width + 1 → m % l.width ≤ c + 1 → r ≤ m / l.width → m / l.width ≤ r + 1
    → touches l m (r * l.width + c) ≡ true
unfolding touches
touch_digits l m c r hc x0 x1 y0 y1 =
    rw (
      digits_mod r {m = l.width} {r = c} hc,
      digits_div r {m = l.width} {r = c} hc,
      le-leb c (m % l.width + 1) x0,
      le-leb (m % l.width) (c + 1) x1,
      le-leb r (m / l.width) y0,
      le-leb (m / l.width) (r + 1) y1,
    )

-- a sample at most a macroblock to the right of macroblock m, and at most one sample beyond its other sides
touch : (l : Layout) (m X Y : ℕ) → 0 < X → X ≤ 16 * l.width → 0 < Y
    → 16 * (m % l.width) ≤ X → X ≤ 16 * (m % l.width) + 32 → 16 * (m / l.width) ≤ Y → Y ≤ 16 * (m / l.width) + 16
    → touches l m (macroblock_at l (X - 1) (Y - 1)) ≡ true
touch l m X Y h0 h1 h2 x0 x1 y0 y1 = touch_digits l m ((X - 1) / 16) ((Y - 1) / 16) (omega arith) (omega arith) (omega arith) (omega arith) (omega arith)

column_between : (n x k : ℕ) → (x ≤ neighbour_column n x k) × (neighbour_column n x k ≤ x + 2 * n)
column_between n x k = by_case (leb k (2 * n)) refl
  where
    by_case : (t : Bool) → leb k (2 * n) ≡ t → (x ≤ cond t (x + k) x) × (cond t (x + k) x ≤ x + 2 * n)
    by_case true e = (omega arith, omega (arith, leb-true k (2 * n) e))
    by_case false e = (omega arith, omega arith)

row_between : (n y k : ℕ) → k < 3 * n + 1 → (y ≤ neighbour_row n y k) × (neighbour_row n y k ≤ y + n)
row_between n y k h = by_case (leb k (2 * n))
  where
    by_case : (t : Bool) → (y ≤ cond t y (y + (k - 2 * n))) × (cond t y (y + (k - 2 * n)) ≤ y + n)
    by_case true = (omega arith, omega arith)
    by_case false = (omega arith, omega arith)

-- a present neighbour is seen
pub neighbour_seen : (n : ℕ) (l : Layout) (m b : ℕ) → Starts n b → (k : ℕ) → k < 3 * n + 1 → present_at n l m b k ≡ true → SeenBy l m b (neighbour_place n l m b k)
unfolding present_at block_column block_row
neighbour_seen n l m b start k h e =
    let f = stands n b start in
    let x = 16 * (m % l.width) + 4 * column_in b in
    let y = 16 * (m / l.width) + 4 * row_in b in
    let X = neighbour_column n (16 * (m % l.width) + 4 * column_in b) k in
    let Y = neighbour_row n (16 * (m / l.width) + 4 * row_in b) k in
    let p = present_is l (order_of m b) X Y e in
    let cx = column_between n x k in
    let cy = row_between n y k h in
    let hx : X - 1 < 16 * l.width = omega (arith, p.left, p.right) in
    let u : X - 1 + 1 ≡ X = omega (arith, p.left) in
    let v : Y - 1 + 1 ≡ Y = omega (arith, p.up) in
    let t = touch l m X Y p.left p.right p.up (omega (arith, cx.0)) (omega (arith, cx.1, f.thin)) (omega (arith, cy.0)) (omega (arith, cy.1, f.low)) in
    rw (digits_mod (Y - 1) hx, digits_div (Y - 1) hx, u, v) (e, t)

-- ---- which macroblocks these are

-- "left, above left, above, above right", each where there is one
pub data Beside (l : Layout) (m k : ℕ) : Type 0 where
  left : 0 < m % l.width → k + 1 ≡ m → Beside l m k
  above_left : 0 < m % l.width → k + l.width + 1 ≡ m → Beside l m k
  above : k + l.width ≡ m → Beside l m k
  above_right : m % l.width + 1 < l.width → k + l.width ≡ m + 1 → Beside l m k

-- by columns and rows
sides : (l : Layout) (m k : ℕ) → 0 < l.width → k < m → k % l.width ≤ m % l.width + 1 → m % l.width ≤ k % l.width + 1
    → k / l.width ≤ m / l.width → m / l.width ≤ k / l.width + 1 → Beside l m k
sides l m k some before x0 x1 y0 y1 = by_row (ltb (k / l.width) (m / l.width)) refl
  where
    em : m / l.width * l.width + m % l.width ≡ m
    em = div-add-mod' m l.width

    ek : k / l.width * l.width + k % l.width ≡ k
    ek = div-add-mod' k l.width

    small : k % l.width < l.width
    small = mod-lt k some

    by_column : m / l.width * l.width ≡ k / l.width * l.width + l.width → (s t : Bool) → ltb (k % l.width) (m % l.width) ≡ s → ltb (m % l.width) (k % l.width) ≡ t → Beside l m k
    by_column up true t es et = above_left (omega (arith, ltb-true (k % l.width) (m % l.width) es)) (omega (arith, em, ek, ltb-true (k % l.width) (m % l.width) es))
    by_column up false true es et = above_right (omega (arith, small, ltb-true (m % l.width) (k % l.width) et)) (omega (arith, em, ek, ltb-true (m % l.width) (k % l.width) et))
    by_column up false false es et = above (omega (arith, em, ek, ltb-false (k % l.width) (m % l.width) es, ltb-false (m % l.width) (k % l.width) et))

    by_row : (t : Bool) → ltb (k / l.width) (m / l.width) ≡ t → Beside l m k
    by_row true e =
        let q : m / l.width ≡ k / l.width + 1 = omega (arith, ltb-true (k / l.width) (m / l.width) e) in
        let z : (k / l.width + 1) * l.width ≡ k / l.width * l.width + l.width = omega arith in
        by_column (ap (λ (r : ℕ). r * l.width) q ∙ z) (ltb (k % l.width) (m % l.width)) (ltb (m % l.width) (k % l.width)) refl refl
    by_row false e =
        let q : m / l.width ≡ k / l.width = omega (arith, ltb-false (k / l.width) (m / l.width) e) in
        let z : m / l.width * l.width ≡ k / l.width * l.width = ap (λ (r : ℕ). r * l.width) q in
        left (omega (arith, em, ek)) (omega (arith, em, ek))

-- a macroblock that another may see is one of the four
pub beside_is : (l : Layout) (m k : ℕ) → 0 < l.width → macroblock_present l m k ≡ true → touches l m k ≡ true → Beside l m k
unfolding touches
beside_is l m k some e t =
    let a = both_true (leb (k % l.width) (m % l.width + 1) && leb (m % l.width) (k % l.width + 1)) (leb (k / l.width) (m / l.width) && leb (m / l.width) (k / l.width + 1)) t in
    let x = both_true (leb (k % l.width) (m % l.width + 1)) (leb (m % l.width) (k % l.width + 1)) a.0 in
    let y = both_true (leb (k / l.width) (m / l.width)) (leb (m / l.width) (k / l.width + 1)) a.1 in
    sides l m k some (before_is l m k e)
    (leb-true _ _ x.0) (leb-true _ _ x.1) (leb-true _ _ y.0) (leb-true _ _ y.1)
