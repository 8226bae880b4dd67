-- The sums of the definitions are the sums of the code.
--     count_low, present_low                  how large counts and sums are
--     present_pos                             a sum of numbers without a sign
--     absolute_sum, squared_sum, signed_sum   the three sums of a sheet
--     macroblock_lies                         a macroblock of the picture lies in its planes
-- Assumes nothing.
use mathlib.Core.Path.{◌≡◌, refl, ap, ◌∙◌}
use mathlib.Core.Bool.{Bool, true, false, cond}
use mathlib.Core.List.{List}
use Prim.Native.Nat.{ℕ, ◌+◌, ◌*◌, ◌/◌, ◌<◌, ◌≤◌}
use native.Mathlib.Nat.{mod-lt, div-lt_iff_lt-mul, mul-le-mul_right}
use native.Mathlib.Omega.{arith}
use lib.IntN.{ℤ, pos, negsuc, nat_abs, ◌-ℤ◌, ◌*ℤ◌}
use lib.ListN.{get_or}
use Rattle.lists.specs.First.{first}
use Rattle.lists.specs.Total.{gap}
use Rattle.lists.proofs.Total.{total_low}
use Rattle.whole.specs.Sum.{sum}
use Rattle.whole.proofs.Laws.{Diff, diff_self, diff_minus}
use Rattle.whole.proofs.Sums.{sum_ext, sum_minus, sum_pos}
use Rattle.picture.specs.declared.Layout.{Layout}
use Rattle.picture.specs.Order.{block_table, table_place, column_in, row_in, block_column, block_row, Among}
use Rattle.picture.specs.Plane.{stride}
use Rattle.picture.proofs.Plane.{from_first}
use Rattle.sheet.specs.Code.{absolute_at, squared_at, sample_in, row_total, square_total, first_place, macroblock_total, present_total, Planes, Lies}
use Rattle.sheet.specs.Errors.{signed_error, absolute_error, squared_error, is_present, present_count, square_sum, macroblock_sum, present_sum}

-- ---- how large

cond_low : (t : Bool) {v b : ℕ} → v ≤ b → cond t v 0 ≤ b
cond_low true h = h
cond_low false h = omega arith

pub count_low : (n : ℕ) (map : List ℕ) → present_count n map ≤ n
unfolding present_count
count_low n map = omega (arith, total_low n (λ m. cond (is_present map m) 1 0) 1 (λ m l. cond_low (is_present map m) (omega arith)))

pub present_low : (l : Layout) (map : List ℕ) (g : ℕ → ℕ) (b : ℕ) → ((p : ℕ) → g p ≤ b) → present_total l map g ≤ b * 256 * (l.width * l.height)
unfolding present_total
present_low l map g b h =
    total_low (l.width * l.height) (λ m. cond (is_present map m) (macroblock_total l m g) 0) (b * 256)
    (λ m k. cond_low (is_present map m)
    (let r : macroblock_total l m g ≤ b * 16 * 16 = total_low 16 _ (b * 16) (λ j q. total_low 16 _ b (λ i q. h _)) in omega arith))

-- ---- numbers without a sign

square_pos : (n s x y : ℕ) (f : ℕ → ℤ) (g : ℕ → ℕ) → ((p : ℕ) → f p ≡ pos (g p)) → square_sum n s x y f ≡ pos (square_total n s (y * s + x) g)
unfolding square_sum
square_pos n s x y f g e =
    sum_pos n (λ j. sum n (λ i. f ((y + j) * s + (x + i)))) (λ j. row_total n (y * s + x + j * s) g)
    (λ j. sum_pos n (λ i. f ((y + j) * s + (x + i))) (λ i. g (y * s + x + j * s + i)) (λ i. ap f (from_first s x y i j) ∙ e (y * s + x + j * s + i)))

cond_pos : (t : Bool) {z : ℤ} {n : ℕ} → z ≡ pos n → cond t z (pos 0) ≡ pos (cond t n 0)
cond_pos true e = e
cond_pos false e = refl

pub present_pos : (l : Layout) (map : List ℕ) (f : ℕ → ℤ) (g : ℕ → ℕ) → ((p : ℕ) → f p ≡ pos (g p)) → present_sum l map f ≡ pos (present_total l map g)
unfolding present_sum present_total
present_pos l map f g e =
    sum_pos (l.width * l.height) (λ m. cond (is_present map m) (macroblock_sum l m f) (pos 0)) (λ m. cond (is_present map m) (macroblock_total l m g) 0)
    (λ m. cond_pos (is_present map m) (square_pos 16 (stride 16 l) (block_column l m 0) (block_row l m 0) f g e))

-- ---- differences

square_minus : (n s x y : ℕ) (f g : ℕ → ℤ) → square_sum n s x y (λ p. f p -ℤ g p) ≡ square_sum n s x y f -ℤ square_sum n s x y g
unfolding square_sum
square_minus n s x y f g =
    sum_ext n _ _ (λ j l. sum_minus n (λ i. f ((y + j) * s + (x + i))) (λ i. g ((y + j) * s + (x + i))))
    ∙ sum_minus n (λ j. sum n (λ i. f ((y + j) * s + (x + i)))) (λ j. sum n (λ i. g ((y + j) * s + (x + i))))

cond_minus : (t : Bool) (a b : ℤ) {z : ℤ} → z ≡ a -ℤ b → cond t z (pos 0) ≡ cond t a (pos 0) -ℤ cond t b (pos 0)
cond_minus true a b e = e
cond_minus false a b e = refl

present_minus : (l : Layout) (map : List ℕ) (f g : ℕ → ℤ) → present_sum l map (λ p. f p -ℤ g p) ≡ present_sum l map f -ℤ present_sum l map g
unfolding present_sum
present_minus l map f g =
    sum_ext (l.width * l.height) _ _
    (λ m k. cond_minus (is_present map m) (macroblock_sum l m f) (macroblock_sum l m g) (square_minus 16 (stride 16 l) (block_column l m 0) (block_row l m 0) f g))
    ∙ sum_minus (l.width * l.height) (λ m. cond (is_present map m) (macroblock_sum l m f) (pos 0)) (λ m. cond (is_present map m) (macroblock_sum l m g) (pos 0))

-- ---- the rules at a place

by_diff : (z : ℤ) {p n : ℕ} → Diff z p n → nat_abs z ≡ gap n p
by_diff (pos a) d = omega arith
by_diff (negsuc a) d = omega arith

gap_is : (a b : ℕ) → nat_abs (pos a -ℤ pos b) ≡ gap b a
gap_is a b =
    let d : Diff (pos a -ℤ pos b) a b = record { eq = omega (arith, (diff_minus (diff_self (pos a)) (diff_self (pos b))).eq) } in
    by_diff (pos a -ℤ pos b) d

square : (z : ℤ) → z *ℤ z ≡ pos (nat_abs z * nat_abs z)
square (pos a) = refl
square (negsuc a) = refl

module _ (original rebuilt : List ℕ) where
  size_is : (p : ℕ) → nat_abs (signed_error original rebuilt p) ≡ absolute_at original rebuilt p
  size_is p = gap_is (get_or rebuilt p 0) (get_or original p 0)

  squared_is : (p : ℕ) → squared_error original rebuilt p ≡ pos (squared_at original rebuilt p)
  squared_is p = square (signed_error original rebuilt p) ∙ ap (λ (n : ℕ). pos (n * n)) (size_is p)

  -- ---- the three sums

  module _ (l : Layout) (map : List ℕ) where
    pub absolute_sum : present_sum l map (absolute_error original rebuilt) ≡ pos (present_total l map (absolute_at original rebuilt))
    absolute_sum = present_pos l map _ _ (λ p. ap pos (size_is p))

    pub squared_sum : present_sum l map (squared_error original rebuilt) ≡ pos (present_total l map (squared_at original rebuilt))
    squared_sum = present_pos l map _ _ squared_is

    pub signed_sum : present_sum l map (signed_error original rebuilt) ≡ pos (present_total l map (sample_in rebuilt)) -ℤ pos (present_total l map (sample_in original))
    signed_sum =
        present_minus l map (λ p. pos (get_or rebuilt p 0)) (λ p. pos (get_or original p 0))
        ∙ (λ i.
        present_pos l map (λ p. pos (get_or rebuilt p 0)) (sample_in rebuilt) (λ p. refl) i
        -ℤ present_pos l map (λ p. pos (get_or original p 0)) (sample_in original) (λ p. refl) i)

-- ---- the places of a macroblock

pub macroblock_lies : {l : Layout} {m : ℕ} {original rebuilt : List ℕ} → Among l m 0 → Planes l original rebuilt → Lies (first_place l m) (stride 16 l) original rebuilt
unfolding block_column block_row column_in row_in table_place block_table first
macroblock_lies {l} {m} a p =
    let r : m / l.width < l.height = (div-lt_iff_lt-mul a.sound.some).1 (omega (arith, a.macroblock)) in
    let n : m / l.width + 1 ≤ l.height = omega arith in
    let q : (m / l.width + 1) * l.width ≤ l.height * l.width = mul-le-mul_right l.width n in
    record { own = omega (arith, p.own, q, mod-lt m a.sound.some); back = omega (arith, p.back, q, mod-lt m a.sound.some) }
