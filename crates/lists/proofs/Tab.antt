-- Laws of lists by the rule of their elements, and the two loops that fill such a list.
--     length_tab, get_d_tab, tab_same, tab_of                       its elements; equal rules; a list is the list of its own elements
--     row_below, column_below, get_d_grid, grid_same                squares: the row and the column of a place; its elements; equal rules
--     Filling: filling_none, filling_more, filling_done            one loop over k that stores f k at k
--     Squaring: squaring_none, squaring_more, squaring_row, squaring_done    a loop over y round one over x that stores the rule at n * y + x
-- Assumes nothing.
use mathlib.Core.Path.{◌≡◌, refl, sym, ap, ◌∙◌}
use mathlib.Core.List.{List, [], ◌∷◌}
use mathlib.Core.Logic.{⊎_elim}
use Prim.Native.Nat.{ℕ, zero, suc, ◌+◌, ◌*◌, ◌/◌, ◌%◌, ◌<◌, ◌≤◌, zero-le}
use native.Mathlib.Nat.{not-suc-le-zero, le_of_suc-le-suc, eq-or-lt_of_le, mul_comm, mod-lt, div-lt_iff_lt-mul}
use native.Mathlib.Numerals.{add-one}
use native.Mathlib.Omega.{arith}
use lib.Arith.{digits_lt, digits_div, digits_mod}
use lib.ListN.{length, set, get_or, length-append, length-set, get_or-append}
use lib.Seq.{ext_get_or, get_or_at}
use Rattle.lists.specs.Tab.{tab, grid, in_raster}
use Rattle.lists.proofs.Parts.{Growing, growing_none, growing_more, growing_done}

some_row : (n k : ℕ) → k < n * n → 0 < n
some_row zero k h = absurd (not-suc-le-zero h)
some_row (suc n) k h = omega arith

-- the row and the column of a place of n rows and n columns
module _ (n k : ℕ) (h : k < n * n) where
  pub row_below : k / n < n
  row_below = (div-lt_iff_lt-mul (some_row n k h)).1 h

  pub column_below : k % n < n
  column_below = mod-lt k (some_row n k h)

module _ {A : Type 0} where
  pub length_tab : (n : ℕ) (f : ℕ → A) → length (tab n f) ≡ n
  unfolding tab
  length_tab zero f = refl
  length_tab (suc n) f = omega (arith, length-append (tab n f) (f n ∷ []), length_tab n f)

  pub get_d_tab : (n : ℕ) (f : ℕ → A) (k : ℕ) (d : A) → k < n → get_or (tab n f) k d ≡ f k
  unfolding tab
  get_d_tab zero f k d h = absurd (not-suc-le-zero h)
  get_d_tab (suc n) f k d h =
      ⊎_elim
      (λ (e : k ≡ n). rw e (get_or_at (tab n f) (f n) [] d n (length_tab n f)))
      (λ (lt : k < n). get_or-append (tab n f) (f n ∷ []) d k (rw length_tab lt) ∙ get_d_tab n f k d lt)
      (eq-or-lt_of_le (le_of_suc-le-suc h))

  pub tab_same : (n : ℕ) (f g : ℕ → A) → ((k : ℕ) → k < n → f k ≡ g k) → tab n f ≡ tab n g
  unfolding tab
  tab_same zero f g h = refl
  tab_same (suc n) f g h = rw (tab_same n f g (λ k l. h k (omega arith)), h n (omega arith))

  pub tab_of : (n : ℕ) (f : ℕ → A) (l : List A) (d : A) → length l ≡ n → ((k : ℕ) → k < n → f k ≡ get_or l k d) → tab n f ≡ l
  tab_of n f l d e h =
      ext_get_or d (tab n f) l (length_tab n f ∙ sym e)
      (λ i lt. let m : i < n = rw length_tab at lt in get_d_tab n f i d m ∙ h i m)

  -- the column first: what stands in row y, column x
  pub get_d_grid : (n : ℕ) (rule : ℕ → ℕ → A) (x y : ℕ) (d : A) → x < n → y < n → get_or (grid n rule) (n * y + x) d ≡ rule x y
  unfolding grid
  get_d_grid n rule x y d h k =
      let c : n * y + x ≡ y * n + x = ap (λ (m : ℕ). m + x) (mul_comm n y) in
      let b : n * y + x < n * n = omega (arith, c, digits_lt k h) in
      get_d_tab (n * n) (in_raster n rule) (n * y + x) d b
      ∙ rw (c, digits_mod y {m = n} {r = x} h, digits_div y {m = n} {r = x} h)

  pub grid_same : (n : ℕ) (rule rule' : ℕ → ℕ → A) → ((x y : ℕ) → x < n → y < n → rule x y ≡ rule' x y) → grid n rule ≡ grid n rule'
  unfolding grid
  grid_same n rule rule' h = tab_same (n * n) _ _ (λ k l. h (k % n) (k / n) (column_below n k l) (row_below n k l))

  -- ---- a loop that stores f k at k

  pub record Filling (n : ℕ) (f : ℕ → A) (d : List A) (k : ℕ) : Type 0 where
    pub below : k ≤ n
    pub long : length d ≡ n
    pub grown : Growing d (tab k f) k

  module _ (n : ℕ) (f : ℕ → A) where
    pub filling_none : {d : List A} → length d ≡ n → Filling n f d 0
    unfolding tab
    filling_none {d} e = record { below = zero-le; long = e; grown = growing_none d }

    pub filling_more : {d : List A} {k : ℕ} {v : A} → Filling n f d k → k < n → v ≡ f k → Filling n f (set d k v) (k + 1)
    unfolding tab
    filling_more {d} {k} {v} h l e = record {
      below = omega arith;
      long = length-set d k v ∙ h.long;
      grown = let g = growing_more v h.grown (omega (arith, h.long)) in record { room = g.room; is = g.is ∙ rw (add-one, e) };
    }

    pub filling_done : {d : List A} {k : ℕ} → Filling n f d k → n ≤ k → d ≡ tab n f
    filling_done {d} {k} h l =
        let q : k ≡ n = omega (arith, h.below) in
        growing_done h.grown (omega (arith, h.long)) ∙ rw q

  -- ---- a loop over rows round a loop over columns

  -- the rule stands at all places before row y, column x
  pub record Squaring (n : ℕ) (rule : ℕ → ℕ → A) (d : List A) (y x : ℕ) : Type 0 where
    pub row : y ≤ n
    pub column : x ≤ n
    pub long : length d ≡ n * n
    pub grown : Growing d (tab (n * y + x) (in_raster n rule)) (n * y + x)

  module _ (n : ℕ) (rule : ℕ → ℕ → A) where
    pub squaring_none : {d : List A} → length d ≡ n * n → Squaring n rule d 0 0
    unfolding tab
    squaring_none {d} e =
        let z : n * 0 + 0 ≡ 0 = omega arith in
        record { row = zero-le; column = zero-le; long = e; grown = rw z (growing_none d) }

    -- the place of row y, column x is inside
    pub squaring_inside : {d : List A} {y x : ℕ} → Squaring n rule d y x → y < n → x < n → n * y + x < length d
    squaring_inside {d} {y} {x} h ly lx = omega (arith, h.long, mul_comm n y, digits_lt ly lx)

    pub squaring_more : {d : List A} {y x : ℕ} {v : A} → Squaring n rule d y x → y < n → x < n → v ≡ rule x y → Squaring n rule (set d (n * y + x) v) y (x + 1)
    unfolding tab
    squaring_more {d} {y} {x} {v} h ly lx e =
        let k = n * y + x in
        let c : n * y + x ≡ y * n + x = ap (λ (m : ℕ). m + x) (mul_comm n y) in
        let w : v ≡ in_raster n rule (n * y + x) = e ∙ sym (rw (c, digits_mod y {m = n} {r = x} lx, digits_div y {m = n} {r = x} lx)) in
        let s : n * y + (x + 1) ≡ suc (n * y + x) = omega arith in
        let t : n * y + x + 1 ≡ suc (n * y + x) = omega arith in
        let g = growing_more v h.grown (squaring_inside h ly lx) in
        record {
          row = h.row;
          column = omega arith;
          long = length-set d k v ∙ h.long;
          grown = rw s (record { room = rw t at g.room; is = (rw t at g.is) ∙ rw w });
        }

    pub squaring_row : {d : List A} {y x : ℕ} → Squaring n rule d y x → y < n → n ≤ x → Squaring n rule d (y + 1) 0
    squaring_row {d} {y} {x} h ly lx =
        let q : x ≡ n = omega (arith, h.column) in
        let s : n * (y + 1) + 0 ≡ n * y + x = omega (arith, q) in
        record { row = omega arith; column = zero-le; long = h.long; grown = rw s h.grown }

    pub squaring_done : {d : List A} {y : ℕ} → Squaring n rule d y 0 → n ≤ y → d ≡ grid n rule
    unfolding grid
    squaring_done {d} {y} h l =
        let q : y ≡ n = omega (arith, h.row) in
        let s : n * y + 0 ≡ n * n = rw q (omega arith) in
        growing_done (rw s at h.grown) (omega (arith, h.long))
