-- How the code reads and stores a macroblock of s by s samples, row by row, and reaches its neighbours.
--     storing_run, stored_in_turn    a loop that stores a run of elements at a turn; at all places in turn
--     whole_spot_in     the macroblock's places, counted from its first, lie in the plane
--     no_rows, rows_room, row_read, row_stored     no row yet; one row, read and stored
--     row_at     the row of a turn lies in the plane, and among the macroblock's own samples
--     reach_round_corner, reach_round_above, reach_round_left     a group of neighbours that is present lies in the plane
--     corner_run, above_run, left_run     the groups stored one behind the other
-- Assumes nothing.
use mathlib.Core.Path.{◌≡◌, refl, sym, ◌∙◌}
use mathlib.Core.Bool.{Bool, true, false, cond, ◌&&◌}
use mathlib.Core.List.{List}
use Prim.Native.Nat.{ℕ, zero, suc, ◌+◌, ◌*◌, ◌-◌, ◌/◌, ◌%◌, ◌<◌, ◌≤◌}
use native.Mathlib.Nat.{mul-le-mul_right, mul-lt-mul_of_pos_left}
use native.Mathlib.Omega.{arith}
use borrow.Author.Tests.{ltb-true, le-leb, lt-leb}
use lib.Arith.{digits_div, digits_mod}
use lib.Dec.{ltb}
use lib.ListN.{length, get_or}
use Rattle.lists.specs.Stores.{stores}
use Rattle.lists.specs.Tab.{tab, in_raster}
use Rattle.lists.proofs.Every.{both_true}
use Rattle.lists.proofs.Stores.{Storing, storing_none, storing_more, storing_done, stores_in_turn}
use Rattle.picture.specs.declared.Layout.{Layout}
use Rattle.picture.specs.Order.{Among}
use Rattle.picture.specs.Plane.{stride, plane_length}
use Rattle.picture.specs.Reach.{Reaches}
use Rattle.picture.specs.Whole.{whole_column, whole_row, round_column, round_row, present_round, round_sample}
use Rattle.picture.proofs.Byte.{in_slice}
use Rattle.picture.proofs.Plane.{within, from_first}
use Rattle.picture.proofs.Presence.{row_up}
use Rattle.picture.proofs.Round.{room_whole, round_above, round_left, round_corner}

-- ---- a loop that stores a run of elements at a turn

module _ {A : Type 0} (p : ℕ → ℕ) (v : ℕ → A) (n : ℕ) where
  run : {d₀ d : List A} {k : ℕ} (count : ℕ) (q : ℕ → ℕ) (u : ℕ → A) → Storing p v n d₀ d k → k + count ≤ n
      → ((i : ℕ) → i < count → q i ≡ p (k + i)) → ((i : ℕ) → i < count → u i ≡ v (k + i)) → Storing p v n d₀ (stores count q u d) (k + count)
  unfolding stores
  run {d₀} {d} {k} zero q u g h places is = let z : k + zero ≡ k = omega arith in rw z g
  run {d₀} {d} {k} (suc count) q u g h places is =
      let z : k + suc count ≡ k + count + 1 = omega arith in
      rw z
      (storing_more p v n (run count q u g (omega arith) (λ i l. places i (omega arith)) (λ i l. is i (omega arith))) (omega arith)
      (places count (omega arith)) (is count (omega arith)))

  -- what the run has left
  pub storing_run : {d₀ d after : List A} {k : ℕ} (count : ℕ) (q : ℕ → ℕ) (u : ℕ → A) → after ≡ stores count q u d → Storing p v n d₀ d k → k + count ≤ n
      → ((i : ℕ) → i < count → q i ≡ p (k + i)) → ((i : ℕ) → i < count → u i ≡ v (k + i)) → Storing p v n d₀ after (k + count)
  storing_run {d₀} {d} {after} {k} count q u e g h places is = rw e (run count q u g h places is)

-- where the places are all in turn
pub stored_in_turn : {A : Type 0} {v : ℕ → A} {n : ℕ} {d₀ d : List A} {k : ℕ} → Storing (λ j. j) v n d₀ d k → n ≤ k → length d₀ ≡ n → d ≡ tab n v
stored_in_turn {A} {v} {n} {d₀} g h e = storing_done (λ j. j) v n g h ∙ coe 0 1 (i. stores (e i) (λ j. j) v d₀ ≡ tab (e i) v) (stores_in_turn v d₀)

-- ---- one row

pub no_rows : {A : Type 0} (p : ℕ → ℕ) (v : ℕ → A) (n s : ℕ) (d : List A) → Storing p v n d d (0 * s)
no_rows p v n s d = let z : 0 * s ≡ 0 = omega arith in rw z (storing_none p v n d)

module _ (s : ℕ) {y : ℕ} (below : y < s) where
  next_row : y * s + s ≡ (y + 1) * s
  next_row = omega arith

  pub rows_room : y * s + s ≤ s * s
  rows_room = omega (arith, next_row, mul-le-mul_right s (let h : y + 1 ≤ s = omega arith in h))

  -- sample i of row y
  row_digits : (i : ℕ) → i < s → ((y * s + i) / s ≡ y) × ((y * s + i) % s ≡ i)
  row_digits i h = (digits_div y {m = s} {r = i} h, digits_mod y {m = s} {r = i} h)

  -- read: what is stored is row y of the rule
  pub row_read : (rule : ℕ → ℕ → ℕ) (u : ℕ → ℕ) {d₀ d after : List ℕ} → after ≡ stores s (λ k. y * s + k) u d → Storing (λ k. k) (in_raster s rule) (s * s) d₀ d (y * s)
      → ((i : ℕ) → i < s → u i ≡ rule i y) → Storing (λ k. k) (in_raster s rule) (s * s) d₀ after ((y + 1) * s)
  row_read rule u e g is =
      rw next_row at
      (storing_run (λ k. k) (in_raster s rule) (s * s) s (λ k. y * s + k) u e g rows_room (λ i h. refl)
      (λ i h. let q = row_digits i h in rw (q.0, q.1) (is i h)))

  -- stored: where sample k goes, of the macroblock whose first stands at place `at`
  pub row_stored : (stride at : ℕ) (block : List ℕ) {d₀ d after : List ℕ} → after ≡ stores s (λ k. at + y * stride + k) (λ k. get_or block (y * s + k) 0) d
      → Storing (λ k. at + k / s * stride + k % s) (λ k. get_or block k 0) (s * s) d₀ d (y * s)
      → Storing (λ k. at + k / s * stride + k % s) (λ k. get_or block k 0) (s * s) d₀ after ((y + 1) * s)
  row_stored stride at block e g =
      rw next_row at
      (storing_run (λ k. at + k / s * stride + k % s) (λ k. get_or block k 0) (s * s) s (λ k. at + y * stride + k) (λ k. get_or block (y * s + k) 0) e g rows_room
      (λ i h. let q = row_digits i h in rw (q.0, q.1)) (λ i h. refl))

-- ---- the macroblock's places, counted from its first

module _ {l : Layout} {m : ℕ} (a : Among l m 0) (s : ℕ) (small : 0 < s) (most : s ≤ 16) where
  abbrev pub whole_place : ℕ
  whole_place = whole_row s l m * stride s l + whole_column s l m

  pub whole_spot_in : (i j : ℕ) → i < s → j < s → whole_place + j * stride s l + i < plane_length s l
  whole_spot_in i j hi hj =
      rw (from_first (stride s l) (whole_column s l m) (whole_row s l m) i j) at (within (room_whole l a.sound.some m a.macroblock s) i j hi hj)

  -- row y lies in the plane, and among the macroblock's own samples
  pub row_at : {first : ℕ} → first ≡ whole_place → {long own : ℕ} → long ≡ plane_length s l → own ≡ s * s → (y : ℕ) → y < s → (first + y * stride s l + s ≤ long) × (y * s + s ≤ own)
  row_at e p o y h = (rw (e, p) (omega (arith, whole_spot_in (s - 1) y (omega arith) h)), rw o (rows_room s h))

  -- ---- the neighbours

  -- there is a row of samples above, in the slice, a column at the left
  abbrev up : Bool
  up = ltb 0 (m / l.width % l.rows)

  abbrev aside : Bool
  aside = ltb 0 (m % l.width)

  row_above : up ≡ true → whole_row s l m * stride s l ≡ (whole_row s l m - 1) * stride s l + stride s l
  row_above e =
      let h : 0 < m / l.width = omega (arith, ltb-true 0 (m / l.width % l.rows) e, in_slice a l.rows) in
      row_up (whole_row s l m) (stride s l) (omega (arith, mul-lt-mul_of_pos_left {m = 0} {n = m / l.width} {k = s} h small))

  column_left : aside ≡ true → 0 < whole_column s l m
  column_left e = omega (arith, mul-lt-mul_of_pos_left {m = 0} {n = m % l.width} {k = s} (ltb-true 0 (m % l.width) e) small)

  pub reach_round_corner : Reaches (up && aside) 1 1 whole_place (stride s l + 1) (plane_length s l)
  reach_round_corner = record {
    inside = λ k h. omega (arith, whole_spot_in 0 0 small small);
    before = λ e. let b = both_true up aside e in omega (arith, row_above b.0, column_left b.1);
  }

  pub reach_round_above : Reaches up s 1 whole_place (stride s l) (plane_length s l)
  reach_round_above = record {
    inside = λ k h. omega (arith, whole_spot_in k 0 h small);
    before = λ e. omega (arith, row_above e);
  }

  pub reach_round_left : Reaches aside s (stride s l) whole_place 1 (plane_length s l)
  reach_round_left = record {
    inside = λ k h. omega (arith, whole_spot_in 0 k small h);
    before = λ e. omega (arith, column_left e);
  }

  module _ (plane : List ℕ) where
    -- a neighbour by its place, where it is present
    by_place : (k : ℕ) (t : Bool) (place : ℕ) → present_round s l m k ≡ t
        → (t ≡ true → (round_row s l m k - 1) * stride s l + (round_column s l m k - 1) ≡ place) → round_sample s l m plane k ≡ cond t (get_or plane place 0) 0
    unfolding round_sample
    by_place k true place e h = rw (e, h refl)
    by_place k false place e h = rw e

    corner_place : (i : ℕ) → i < 1 → round_sample s l m plane (0 + i) ≡ cond (up && aside) (get_or plane (whole_place + i * 1 - (stride s l + 1)) 0) 0
    corner_place i h =
        let z : i ≡ 0 = omega arith in
        rw z (
        by_place 0 (up && aside) _ (round_corner l a.sound.some m a.macroblock s small a.sound.rows)
        (λ e.
        let b = both_true up aside e in
        rw (le-leb 0 s (omega arith)) (omega (arith, row_above b.0, column_left b.1)))
        )

    above_place : (i : ℕ) → i < s → round_sample s l m plane (1 + i) ≡ cond up (get_or plane (whole_place + i * 1 - stride s l) 0) 0
    above_place i h =
        by_place (1 + i) up _ (round_above l a.sound.some m a.macroblock s small a.sound.rows (1 + i) (omega arith) (omega arith))
        (λ e. rw (le-leb (1 + i) s (omega arith)) (omega (arith, row_above e)))

    left_place : (i : ℕ) → i < s → round_sample s l m plane (1 + s + i) ≡ cond aside (get_or plane (whole_place + i * stride s l - 1) 0) 0
    left_place i h =
        by_place (1 + s + i) aside _ (round_left l a.sound.some m a.macroblock s small (1 + s + i) (omega arith) (omega arith))
        (λ e.
        let z : whole_row s l m + (1 + s + i - s) - 1 ≡ whole_row s l m + i = omega arith in
        rw (lt-leb (1 + s + i) s (omega arith), z) (omega (arith, column_left e)))

    -- the groups stored one behind the other
    abbrev pub Gathering : (d₀ d : List ℕ) (k : ℕ) → Type 0
    Gathering d₀ d k = Storing (λ k. k) (round_sample s l m plane) (2 * s + 1) d₀ d k

    pub corner_run : {d₀ d after : List ℕ} {t : Bool} {place : ℕ} → t ≡ (up && aside) → place ≡ whole_place
        → after ≡ stores 1 (λ k. 0 + k) (λ k. cond t (get_or plane (place + k * 1 - (stride s l + 1)) 0) 0) d → Gathering d₀ d 0 → Gathering d₀ after (0 + 1)
    corner_run et ep e g =
        storing_run (λ k. k) (round_sample s l m plane) (2 * s + 1) 1 (λ k. 0 + k) _ e g (omega arith) (λ i h. refl)
        (λ i h. rw (et, ep) (sym (corner_place i h)))

    pub above_run : {d₀ d after : List ℕ} {t : Bool} {place : ℕ} → t ≡ up → place ≡ whole_place
        → after ≡ stores s (λ k. 1 + k) (λ k. cond t (get_or plane (place + k * 1 - stride s l) 0) 0) d → Gathering d₀ d 1 → Gathering d₀ after (1 + s)
    above_run et ep e g =
        storing_run (λ k. k) (round_sample s l m plane) (2 * s + 1) s (λ k. 1 + k) _ e g (omega arith) (λ i h. refl)
        (λ i h. rw (et, ep) (sym (above_place i h)))

    pub left_run : {d₀ d after : List ℕ} {t : Bool} {place : ℕ} → t ≡ aside → place ≡ whole_place
        → after ≡ stores s (λ k. 1 + s + k) (λ k. cond t (get_or plane (place + k * stride s l - 1) 0) 0) d → Gathering d₀ d (1 + s) → Gathering d₀ after (1 + s + s)
    left_run et ep e g =
        storing_run (λ k. k) (round_sample s l m plane) (2 * s + 1) s (λ k. 1 + s + k) _ e g (omega arith) (λ i h. refl)
        (λ i h. rw (et, ep) (sym (left_place i h)))
