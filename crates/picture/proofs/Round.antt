-- What stands round a macroblock of s by s samples.
--     whole_owned, in_whole, room_whole     its samples are of macroblock m, and no others; they lie in the plane
--     round_above, round_left, round_corner     each group of neighbours is present together: by the macroblock's row in its slice and its column
--     first_above, first_left, first_corner     so are those of its first 4x4 block, which the code asks for
--     flags_round_by, flags_round_tell     the flags byte: the bit of a neighbour's group says whether the neighbour is present
--     flags_any_side           it is the same for any side, so one function answers for luma and chroma
--     length_gathered_round, gathered_round_bytes, gathered_round_missing     the gathered list; where one is missing it says nothing of the plane
--     gathered_round_same      planes that agree at every neighbour that is present have the same
--     gathered_round_looks     it follows from the places that the macroblock may see
--     round_outside            in luma the neighbours are present as document 01 says of the block of 16 by 16
-- Assumes nothing.
use mathlib.Core.Path.{◌≡◌, refl, sym, ap, ◌∙◌}
use mathlib.Core.Bool.{Bool, true, false, cond, ◌&&◌, and-true, and-false}
use mathlib.Core.List.{List}
use Prim.Native.Nat.{ℕ, zero, suc, ◌+◌, ◌*◌, ◌-◌, ◌/◌, ◌%◌, ◌^◌, ◌<◌, ◌≤◌}
use native.Mathlib.Nat.{mod-lt, mul_comm, mul-le-mul_left, mul-le-mul_right, mul-suc, div-add-mod, div-add-mod', div-lt_iff_lt-mul, le-div_iff_mul-le}
use native.Mathlib.Omega.{arith}
use borrow.Author.Tests.{ltb-true, ltb-false, leb-true, leb-false, le-leb, lt-leb, lt-ltb, le-ltb, eq-eqb, eqb-true, eqb-false}
use lib.Arith.{digits_lt, digits_div, digits_mod}
use lib.Dec.{eqb, leb, ltb}
use lib.ListN.{length, get_or}
use Rattle.lists.specs.Bytes.{Bytes}
use Rattle.lists.specs.First.{first}
use Rattle.lists.proofs.Bytes.{byte_cond, bytes_tab}
use Rattle.lists.proofs.Every.{both_true, same_test, every_all}
use Rattle.lists.proofs.Tab.{length_tab, get_d_tab, tab_same}
use Rattle.picture.specs.declared.Layout.{Layout}
use Rattle.picture.specs.Order.{count_of, Among, block_table, table_place, column_in, row_in, block_column, block_row, order_of, macroblock_in}
use Rattle.picture.specs.Plane.{stride, plane_length, sample_at}
use Rattle.picture.specs.Presence.{inside_plane, inside_picture, slice_of, same_slice, macroblock_present, touches, present, neighbour_column, neighbour_row, present_at}
use Rattle.picture.specs.Reach.{row_in_slice}
use Rattle.picture.specs.Whole.{whole_column, whole_row, round_column, round_row, present_round, flags_round, round_sample, gathered_round, AgreeRound}
use Rattle.picture.proofs.Byte.{byte_by, bits, among_four, above_is, left_is, corner_is}
use Rattle.picture.proofs.Macroblocks.{inside_plane_law, present_first, touch_digits}
use Rattle.picture.proofs.Owner.{Within}
use Rattle.picture.proofs.Plane.{Room}
use Rattle.picture.proofs.Presence.{row_up}
use Rattle.picture.proofs.Slices.{slice_row, slice_up}
use Rattle.picture.proofs.Steps.{LooksFrom}

-- ---- planes that agree

pub gathered_round_same : (s : ℕ) (l : Layout) (m : ℕ) (p q : List ℕ) → AgreeRound s l m p q → gathered_round s l m p ≡ gathered_round s l m q
unfolding gathered_round round_sample
gathered_round_same s l m p q agree = tab_same (2 * s + 1) _ _ (λ k h. by_case k h (present_round s l m k) refl)
  where
    by_case : (k : ℕ) → k < 2 * s + 1 → (t : Bool) → present_round s l m k ≡ t
        → cond t (sample_at (stride s l) p (round_column s l m k - 1) (round_row s l m k - 1)) 0
        ≡ cond t (sample_at (stride s l) q (round_column s l m k - 1) (round_row s l m k - 1)) 0
    by_case k h false e = refl
    by_case k h true e = agree k h e

-- ---- the macroblock in the plane

-- the macroblock in column c and row r, by its samples
own_digits : (s : ℕ) (l : Layout) (c r i j : ℕ) → i < s → j < s → macroblock_in s l (s * c + i) (s * r + j) ≡ r * l.width + c
own_digits s l c r i j hi hj =
    rw (mul_comm s c, mul_comm s r, digits_div c {m = s} {r = i} hi, digits_div r {m = s} {r = j} hj)

pub whole_owned : (s : ℕ) (l : Layout) (m i j : ℕ) → i < s → j < s → macroblock_in s l (whole_column s l m + i) (whole_row s l m + j) ≡ m
whole_owned s l m i j hi hj = own_digits s l (m % l.width) (m / l.width) i j hi hj ∙ div-add-mod' m l.width

module _ (s : ℕ) (small : 0 < s) (l : Layout) where
  pub in_whole : (x y m : ℕ) → x < s * l.width → macroblock_in s l x y ≡ m → Within s (whole_column s l m) (whole_row s l m) x y
  in_whole x y m hx e =
      let hc : x / s < l.width = (div-lt_iff_lt-mul small).1 (omega (arith, mul_comm s l.width)) in
      let column : m % l.width ≡ x / s = ap (λ (k : ℕ). k % l.width) (sym e) ∙ digits_mod (y / s) {m = l.width} {r = x / s} hc in
      let row : m / l.width ≡ y / s = ap (λ (k : ℕ). k / l.width) (sym e) ∙ digits_div (y / s) {m = l.width} {r = x / s} hc in
      let cx : s * (m % l.width) ≡ s * (x / s) = ap (λ (k : ℕ). s * k) column in
      let cy : s * (m / l.width) ≡ s * (y / s) = ap (λ (k : ℕ). s * k) row in
      record {
        left = omega (arith, cx, div-add-mod x s);
        right = omega (arith, cx, div-add-mod x s, mod-lt x small);
        up = omega (arith, cy, div-add-mod y s);
        down = omega (arith, cy, div-add-mod y s, mod-lt y small);
      }

module _ (l : Layout) (some : 0 < l.width) (m : ℕ) (among : m < count_of l) where
  row_lt : m / l.width < l.height
  row_lt = (div-lt_iff_lt-mul some).1 (omega arith)

  pub room_whole : (s : ℕ) → Room s (plane_length s l) (stride s l) (whole_column s l m) (whole_row s l m)
  room_whole s =
      let y : s * (m / l.width) + s ≤ s * l.height = omega (arith, mul-le-mul_left s row_lt, mul-suc s (m / l.width)) in
      record {
        wide = omega (arith, mul-le-mul_left s (mod-lt m some), mul-suc s (m % l.width));
        high = omega (arith, mul-le-mul_right (s * l.width) y);
      }

  -- ---- which neighbours are present

  -- a macroblock before this one is present to it where it is in the same slice
  earlier_present : (k : ℕ) → k < m → macroblock_present l m k ≡ same_slice l m k
  unfolding macroblock_present
  earlier_present k h = rw (lt-ltb k (l.width * l.height) (omega arith), lt-ltb k m h)

  -- in a row above, or further left in a row that is not below, it comes before
  row_before : (q x : ℕ) → q < m / l.width → x < l.width → q * l.width + x < m
  row_before q x hq hx = omega (arith, digits_lt {q = q} {m = m / l.width} {r = x} {c = l.width} hq hx, div-add-mod' m l.width)

  column_before : (q x : ℕ) → q ≤ m / l.width → x < m % l.width → q * l.width + x < m
  column_before q x hq hx = omega (arith, mul-le-mul_right l.width hq, div-add-mod' m l.width)

  module _ (s : ℕ) (small : 0 < s) where
    -- a neighbour in column X of row Y, from a margin of one
    abbrev shown : (X Y : ℕ) → Bool
    shown X Y = inside_plane s l X Y && macroblock_present l m (macroblock_in s l (X - 1) (Y - 1))

    shown_inside : (X Y : ℕ) → 0 < X → X ≤ s * l.width → 0 < Y → Y ≤ s * l.height → macroblock_in s l (X - 1) (Y - 1) < m
        → shown X Y ≡ same_slice l m (macroblock_in s l (X - 1) (Y - 1))
    shown_inside X Y hx wx hy wy before =
        rw (lt-ltb 0 X hx, le-leb X (s * l.width) wx, lt-ltb 0 Y hy, le-leb Y (s * l.height) wy) (earlier_present (macroblock_in s l (X - 1) (Y - 1)) before)

    not_left : (X Y : ℕ) → X ≡ 0 → shown X Y ≡ false
    not_left X Y e = rw (le-ltb 0 X (omega arith))

    not_above : (X Y : ℕ) → Y ≡ 0 → shown X Y ≡ false
    not_above X Y e = by_case (ltb 0 X && leb X (s * l.width))
      where
        by_case : (t : Bool) → (t && (ltb 0 Y && leb Y (s * l.height)) && macroblock_present l m (macroblock_in s l (X - 1) (Y - 1))) ≡ false
        by_case true = rw (le-ltb 0 Y (omega arith))
        by_case false = refl

    -- the macroblock's own column and row, in samples
    column_room : s * (m % l.width) + s ≤ s * l.width
    column_room = (room_whole s).wide

    row_room : s * (m / l.width) + s ≤ s * l.height
    row_room = omega (arith, mul-le-mul_left s row_lt, mul-suc s (m / l.width))

    -- a cell of s is not 0 exactly if its number is not
    scaled : (n : ℕ) → 0 < n → s ≤ s * n
    scaled n h = omega (arith, mul-le-mul_left s h, mul-suc s 0)

    cell_lt : (n X : ℕ) → X < s * n → X / s < n
    cell_lt n X h = (div-lt_iff_lt-mul small).1 (omega (arith, mul_comm s n))

    -- the row of samples above is of the row of macroblocks above
    cell_up : (n : ℕ) → 0 < n → (s * n - 1) / s ≡ n - 1
    cell_up n h =
        let z : s * n - 1 ≡ (n - 1) * s + (s - 1) = omega (arith, row_up n s h, mul_comm s n) in
        ap (λ (k : ℕ). k / s) z ∙ digits_div (n - 1) {m = s} {r = s - 1} (omega arith)

    -- each group is present together: those at the left
    pub round_left : (k : ℕ) → s < k → k < 2 * s + 1 → present_round s l m k ≡ ltb 0 (m % l.width)
    unfolding present_round
    round_left k h1 h2 = rw (lt-leb k s h1) (by_case (ltb 0 (m % l.width)) refl)
      where
        Y : ℕ
        Y = s * (m / l.width) + (k - s)

        row : (Y - 1) / s ≡ m / l.width
        row =
            let z : Y - 1 ≡ m / l.width * s + (k - s - 1) = omega (arith, mul_comm s (m / l.width)) in
            ap (λ (n : ℕ). n / s) z ∙ digits_div (m / l.width) {m = s} {r = k - s - 1} (omega arith)

        by_case : (t : Bool) → ltb 0 (m % l.width) ≡ t → shown (s * (m % l.width)) Y ≡ t
        by_case true e =
            let r = scaled (m % l.width) (ltb-true 0 (m % l.width) e) in
            let inner : (s * (m % l.width) - 1) / s < m % l.width = cell_lt (m % l.width) (s * (m % l.width) - 1) (omega (arith, r)) in
            shown_inside (s * (m % l.width)) Y (omega (arith, r)) (omega (arith, column_room)) (omega arith) (omega (arith, row_room))
            (column_before ((Y - 1) / s) ((s * (m % l.width) - 1) / s) (omega (arith, row)) inner)
            ∙ slice_row l m ((s * (m % l.width) - 1) / s) ((Y - 1) / s) (omega (arith, mod-lt m some))
            ∙ eq-eqb ((Y - 1) / s / l.rows) (slice_of l m) (ap (λ (n : ℕ). n / l.rows) row)
        by_case false e =
            let z : m % l.width ≡ 0 = omega (arith, ltb-false 0 (m % l.width) e) in
            not_left (s * (m % l.width)) Y (rw z (omega arith))

    -- those above and the corner, where a slice has rows
    module _ (rows : 0 < l.rows) where
      -- a neighbour in the row above, in the picture's columns
      over : (X : ℕ) → 0 < X → X ≤ s * l.width → shown X (s * (m / l.width)) ≡ ltb 0 (m / l.width % l.rows)
      over X hx wx = by_case (ltb 0 (m / l.width)) refl
        where
          column : (X - 1) / s < l.width
          column = cell_lt l.width (X - 1) (omega arith)

          by_case : (t : Bool) → ltb 0 (m / l.width) ≡ t → shown X (s * (m / l.width)) ≡ ltb 0 (m / l.width % l.rows)
          by_case true e =
              let some_rows = ltb-true 0 (m / l.width) e in
              let r = scaled (m / l.width) some_rows in
              let before = row_before ((s * (m / l.width) - 1) / s) ((X - 1) / s) (cell_lt (m / l.width) (s * (m / l.width) - 1) (omega (arith, r))) column in
              shown_inside X (s * (m / l.width)) hx wx (omega (arith, r)) (omega (arith, row_room)) before
              ∙ slice_row l m ((X - 1) / s) ((s * (m / l.width) - 1) / s) column
              ∙ ap (λ (k : ℕ). eqb (k / l.rows) (slice_of l m)) (cell_up (m / l.width) some_rows)
              ∙ slice_up l.rows (m / l.width) rows some_rows
          by_case false e =
              let z : m / l.width ≡ 0 = omega (arith, ltb-false 0 (m / l.width) e) in
              not_above X (s * (m / l.width)) (rw z (omega arith))
              ∙ sym (le-ltb 0 (m / l.width % l.rows) (omega (arith, div-add-mod' (m / l.width) l.rows)))

      pub round_above : (k : ℕ) → 0 < k → k ≤ s → present_round s l m k ≡ ltb 0 (m / l.width % l.rows)
      unfolding present_round
      round_above k h1 h2 = rw (le-leb k s h2) (over (s * (m % l.width) + k) (omega arith) (omega (arith, column_room)))

      pub round_corner : present_round s l m 0 ≡ (ltb 0 (m / l.width % l.rows) && ltb 0 (m % l.width))
      unfolding present_round
      round_corner =
          let z : s * (m % l.width) + 0 ≡ s * (m % l.width) = omega arith in
          rw (le-leb 0 s (omega arith), z) (by_case (ltb 0 (m % l.width)) refl)
        where
          by_case : (t : Bool) → ltb 0 (m % l.width) ≡ t → shown (s * (m % l.width)) (s * (m / l.width)) ≡ (ltb 0 (m / l.width % l.rows) && t)
          by_case true e =
              over (s * (m % l.width)) (omega (arith, scaled (m % l.width) (ltb-true 0 (m % l.width) e))) (omega (arith, column_room))
              ∙ sym (and-true (ltb 0 (m / l.width % l.rows)))
          by_case false e =
              let z : m % l.width ≡ 0 = omega (arith, ltb-false 0 (m % l.width) e) in
              not_left (s * (m % l.width)) (s * (m / l.width)) (rw z (omega arith))
              ∙ sym (and-false (ltb 0 (m / l.width % l.rows)))

      -- ---- the flags byte

      -- the bit of the group that neighbour k is in: bit 0 those above, bit 1 those at the left, bit 2 the corner
      abbrev pub bit_round : ℕ → ℕ
      bit_round k = cond (eqb k 0) 2 (cond (leb k s) 0 1)

      abbrev A : Bool
      A = ltb 0 (m / l.width % l.rows)

      abbrev L : Bool
      L = ltb 0 (m % l.width)

      pub flags_round_by : flags_round s l m ≡ byte_by A L (A && L) false
      unfolding flags_round
      flags_round_by =
          rw (
            every_all s (λ i. present_round s l m (1 + i)) A small (λ k h. round_above (1 + k) (omega arith) (omega arith)),
            every_all s (λ i. present_round s l m (s + 1 + i)) L small (λ k h. round_left (s + 1 + k) (omega arith) (omega arith)),
            round_corner,
          )
          (omega arith)

      pub flags_round_tell : (k : ℕ) → k < 2 * s + 1 → eqb (flags_round s l m / 2 ^ bit_round k % 2) 1 ≡ present_round s l m k
      flags_round_tell k h = rw flags_round_by (by_case (eqb k 0) (leb k s) refl refl)
        where
          q : (eqb (byte_by A L (A && L) false / 2 ^ 0 % 2) 1 ≡ A) × (eqb (byte_by A L (A && L) false / 2 ^ 1 % 2) 1 ≡ L) × (eqb (byte_by A L (A && L) false / 2 ^ 2 % 2) 1 ≡ (A && L)) × (eqb (byte_by A L (A && L) false / 2 ^ 3 % 2) 1 ≡ false)
          q = bits A L (A && L) false

          by_case : (b c : Bool) → eqb k 0 ≡ b → leb k s ≡ c → eqb (byte_by A L (A && L) false / 2 ^ cond b 2 (cond c 0 1) % 2) 1 ≡ present_round s l m k
          by_case true c e f = q.2 ∙ sym round_corner ∙ ap (present_round s l m) (sym (eqb-true k 0 e))
          by_case false true e f = q.0 ∙ sym (round_above k (let d = eqb-false k 0 e in omega arith) (leb-true k s f))
          by_case false false e f = q.1 ∙ sym (round_left k (leb-false k s f) h)

    -- ---- the gathered neighbours

    pub gathered_round_missing : (p : List ℕ) (k : ℕ) → k < 2 * s + 1 → present_round s l m k ≡ false → get_or (gathered_round s l m p) k 0 ≡ 0
    unfolding gathered_round round_sample
    gathered_round_missing p k h e = get_d_tab (2 * s + 1) (round_sample s l m p) k 0 h ∙ rw e

    -- what is known of a present neighbour
    record RoundSeen (X Y : ℕ) : Type 0 where
      column : X - 1 < s * l.width
      row : Y - 1 < s * l.height
      given : macroblock_present l m (macroblock_in s l (X - 1) (Y - 1)) ≡ true
      touching : touches l m (macroblock_in s l (X - 1) (Y - 1)) ≡ true

    -- one sample beyond a cell of s is in the cell before it, any other in the cell
    cell_near : (c X : ℕ) → 0 < X → s * c ≤ X → X ≤ s * c + s → ((X - 1) / s ≤ c) × (c ≤ (X - 1) / s + 1)
    cell_near c X h lo hi =
        let q : (X - 1) / s < c + 1 = cell_lt (c + 1) (X - 1) (omega (arith, mul-suc s c)) in
        (omega arith, before c lo)
      where
        before : (c : ℕ) → s * c ≤ X → c ≤ (X - 1) / s + 1
        before zero lo = omega arith
        before (suc d) lo =
            let q : d ≤ (X - 1) / s = (le-div_iff_mul-le small).1 (omega (arith, mul-suc s d)) in
            omega arith

    column_between : (x k : ℕ) → (x ≤ cond (leb k s) (x + k) x) × (cond (leb k s) (x + k) x ≤ x + s)
    column_between x k = by_case (leb k s) refl
      where
        by_case : (t : Bool) → leb k s ≡ t → (x ≤ cond t (x + k) x) × (cond t (x + k) x ≤ x + s)
        by_case true e = (omega arith, omega (arith, leb-true k s e))
        by_case false e = (omega arith, omega arith)

    row_between : (y k : ℕ) → k < 2 * s + 1 → (y ≤ cond (leb k s) y (y + (k - s))) × (cond (leb k s) y (y + (k - s)) ≤ y + s)
    row_between y k h = by_case (leb k s)
      where
        by_case : (t : Bool) → (y ≤ cond t y (y + (k - s))) × (cond t y (y + (k - s)) ≤ y + s)
        by_case true = (omega arith, omega arith)
        by_case false = (omega arith, omega arith)

    -- a present neighbour is inside, and its macroblock stands beside this one
    round_seen : (k : ℕ) → k < 2 * s + 1 → present_round s l m k ≡ true → RoundSeen (round_column s l m k) (round_row s l m k)
    unfolding present_round
    round_seen k h e =
        let X = round_column s l m k in
        let Y = round_row s l m k in
        let a = both_true (inside_plane s l X Y) (macroblock_present l m (macroblock_in s l (X - 1) (Y - 1))) e in
        let i = inside_plane_law s l X Y a.0 in
        let cx = column_between (whole_column s l m) k in
        let cy = row_between (whole_row s l m) k h in
        let u = cell_near (m % l.width) X i.left cx.0 cx.1 in
        let v = cell_near (m / l.width) Y i.up cy.0 cy.1 in
        let hc : (X - 1) / s < l.width = cell_lt l.width (X - 1) (omega (arith, i.right, i.left)) in
        record {
          column = omega (arith, i.left, i.right);
          row = omega (arith, i.up, i.down);
          given = a.1;
          touching = touch_digits l m ((X - 1) / s) ((Y - 1) / s) hc (omega (arith, u.0)) u.1 v.0 v.1;
        }

    pub gathered_round_looks : LooksFrom s l m (gathered_round s l m)
    gathered_round_looks p q a = gathered_round_same s l m p q agree
      where
        agree : AgreeRound s l m p q
        agree k h e =
            let f = round_seen k h e in
            let d = digits_lt {q = round_row s l m k - 1} {m = s * l.height} {r = round_column s l m k - 1} {c = s * l.width} f.row f.column in
            a.agree ((round_row s l m k - 1) * (s * l.width) + (round_column s l m k - 1)) (omega arith)
            (rw (digits_mod (round_row s l m k - 1) f.column, digits_div (round_row s l m k - 1) f.column) (f.given, f.touching))

pub flags_any_side : (s other : ℕ) → 0 < s → 0 < other → (l : Layout) → 0 < l.width → 0 < l.rows → (m : ℕ) → m < count_of l → flags_round s l m ≡ flags_round other l m
flags_any_side s other small small' l some rows m among = flags_round_by l some m among s small rows ∙ sym (flags_round_by l some m among other small' rows)

module _ (s : ℕ) (l : Layout) (m : ℕ) (plane : List ℕ) where
  pub length_gathered_round : length (gathered_round s l m plane) ≡ 2 * s + 1
  unfolding gathered_round
  length_gathered_round = length_tab (2 * s + 1) (round_sample s l m plane)

  pub gathered_round_bytes : Bytes plane → Bytes (gathered_round s l m plane)
  unfolding gathered_round round_sample
  gathered_round_bytes bytes = bytes_tab (2 * s + 1) (round_sample s l m plane) (λ k h. byte_cond (present_round s l m k) (bytes.byte _) (omega arith))

-- ---- luma

-- where the first block stands
first_place_law : (column_in 0 ≡ 0) × (row_in 0 ≡ 0)
unfolding column_in row_in table_place block_table first
first_place_law = (refl, refl)

first_column : (l : Layout) (m : ℕ) → block_column l m 0 ≡ 16 * (m % l.width)
unfolding block_column
first_column l m = rw first_place_law.0 (omega arith)

first_row : (l : Layout) (m : ℕ) → block_row l m 0 ≡ 16 * (m / l.width)
unfolding block_row
first_row l m = rw first_place_law.1 (omega arith)

first_row_in_slice : (l : Layout) (m : ℕ) → row_in_slice l m 0 ≡ 16 * (m / l.width % l.rows)
first_row_in_slice l m = rw first_place_law.1 (omega arith)

some_of : (n : ℕ) → ltb 0 (16 * n) ≡ ltb 0 n
some_of n =
    same_test (ltb 0 (16 * n)) (ltb 0 n) (λ e. lt-ltb 0 n (let h = ltb-true 0 (16 * n) e in omega arith)) (λ e. lt-ltb 0 (16 * n) (let h = ltb-true 0 n e in omega arith))

module _ {l : Layout} {m : ℕ} (a : Among l m 0) where
  pub first_above : present_at 4 l m 0 1 ≡ ltb 0 (m / l.width % l.rows)
  first_above = above_is (among_four a) ∙ ap (ltb 0) (first_row_in_slice l m) ∙ some_of (m / l.width % l.rows)

  pub first_left : present_at 4 l m 0 9 ≡ ltb 0 (m % l.width)
  first_left = left_is (among_four a) ∙ ap (ltb 0) (first_column l m) ∙ some_of (m % l.width)

  pub first_corner : present_at 4 l m 0 0 ≡ (ltb 0 (m / l.width % l.rows) && ltb 0 (m % l.width))
  first_corner = corner_is (among_four a) ∙ rw (first_above, first_left)

-- the number of neighbour k among those of the block of 16 by 16: there the upper right comes between those above and those at the left
abbrev pub among_all : ℕ → ℕ
among_all k = cond (leb k 16) k (k + 16)

pub round_outside : (l : Layout) (m k : ℕ) → present_round 16 l m k ≡ present_at 16 l m 0 (among_all k)
unfolding present_round present_at
round_outside l m k = rw (first_column l m, first_row l m) (by_case (leb k 16) refl)
  where
    by_case : (t : Bool) → leb k 16 ≡ t
        → (inside_picture l (cond t (16 * (m % l.width) + k) (16 * (m % l.width))) (cond t (16 * (m / l.width)) (16 * (m / l.width) + (k - 16)))
        && macroblock_present l m (macroblock_in 16 l (cond t (16 * (m % l.width) + k) (16 * (m % l.width)) - 1) (cond t (16 * (m / l.width)) (16 * (m / l.width) + (k - 16)) - 1)))
        ≡ present l (order_of m 0) (neighbour_column 16 (16 * (m % l.width)) (cond t k (k + 16))) (neighbour_row 16 (16 * (m / l.width)) (cond t k (k + 16)))
    by_case true e =
        let h : k ≤ 32 = omega (arith, leb-true k 16 e) in
        rw (le-leb k 32 h) (sym (present_first l m (16 * (m % l.width) + k) (16 * (m / l.width))))
    by_case false e =
        let h : 32 < k + 16 = omega (arith, leb-false k 16 e) in
        let z : k + 16 - 32 ≡ k - 16 = omega arith in
        rw (lt-leb (k + 16) 32 h, z) (sym (present_first l m (16 * (m % l.width)) (16 * (m / l.width) + (k - 16))))
