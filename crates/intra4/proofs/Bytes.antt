-- Neighbours that are bytes predict bytes, sixteen of them in every permitted mode, and the chosen mode is a permitted one.
--     predicted_bytes, predicted_sixteen     of every mode: its samples are bytes; where the flags permit it they are sixteen
--     best_bytes                             of any best: its samples are bytes
--     ChosenMode: chosen_mode                there is a chosen mode, and the flags permit it
--     chosen_sixteen                         so its samples are sixteen
-- Assumes nothing.
use mathlib.Core.Path.{◌≡◌, refl, sym, ap, ◌∙◌}
use mathlib.Core.Bool.{Bool, true, false, ◌&&◌}
use mathlib.Core.List.{List, []}
use Prim.Native.Nat.{ℕ, zero, suc, ◌+◌, ◌*◌, ◌/◌, ◌%◌, ◌<◌, ◌≤◌}
use native.Mathlib.Nat.{div-lt_iff_lt-mul}
use native.Mathlib.Omega.{arith}
use lib.Dec.{ltb, eqb}
use lib.IntN.{ℤ, pos, negsuc, ◌-ℤ◌}
use lib.ListN.{length, get_or}
use Rattle.lists.specs.Total.{total}
use Rattle.lists.specs.Bytes.{Bytes}
use Rattle.lists.proofs.Total.{total_low}
use Rattle.lists.proofs.Bytes.{bytes_none, bytes_append, bytes_take, bytes_drop, bytes_replicate, byte_cond, bytes_cond, bytes_grid}
use Rattle.intra4.specs.Samples.{Side, here, missing, Round, bit_of, side_if, above_of, masked, mask}
use Rattle.intra4.specs.Rules.{avg2, avg3, row_of, by_z, mean, one, three, none, samples_of, modes, predicted, permitted}
use Rattle.intra4.specs.Rules.{vertical, horizontal, down_left, down_right, vertical_right, horizontal_down, vertical_left, horizontal_up}
use Rattle.intra4.specs.Choice.{Best, nothing, at, chosen, ChosenMode}
use Rattle.intra4.specs.Entry.{best_samples}
use Rattle.intra4.proofs.Area.{length_filled, permitted_cost}
use Rattle.intra4.proofs.Least.{some_mode}
use Rattle.intra4.proofs.Masked.{filled_is, mode_below_9}
use Rattle.intra4.proofs.Modes.{each_of}

-- ---- the rules: of bytes each makes a byte

byte_avg2 : {a b : ℕ} → a < 256 → b < 256 → avg2 a b < 256
byte_avg2 h k = omega arith

byte_avg3 : {a b c : ℕ} → a < 256 → b < 256 → c < 256 → avg3 a b c < 256
byte_avg3 h k l = omega arith

byte_total : (n : ℕ) {l : List ℕ} → Bytes l → total n (λ k. get_or l k 0) ≤ 255 * n
byte_total n b = total_low n _ 255 (λ k l. omega (arith, b.byte k))

-- the mean of two sides, and of one, by their sums and what rounds them
module _ {n : ℕ} (p : 0 < n) where
  pub byte_both : {a b c : ℕ} → a ≤ 255 * n → b ≤ 255 * n → c ≤ n → (a + b + c) / (2 * n) < 256
  byte_both h k l = (div-lt_iff_lt-mul {k = 2 * n} (omega arith)).1 (omega arith)

  pub byte_single : {a c : ℕ} → a ≤ 255 * n → c ≤ n / 2 → (a + c) / n < 256
  byte_single h l = (div-lt_iff_lt-mul {k = n} p).1 (omega arith)

-- a row of bytes
abbrev pub Row : (ℤ → ℕ) → Type 0
Row T = (k : ℤ) → T k < 256

row_bytes : {M side : List ℕ} → Bytes M → Bytes side → Row (row_of M side)
row_bytes m s (pos k) = s.byte k
row_bytes m s (negsuc k) = m.byte k

-- a rule over one row, and over two
abbrev pub Keeps : ((ℤ → ℕ) → ℕ → ℕ → ℕ) → Type 0
Keeps rule = (T : ℤ → ℕ) → Row T → (x y : ℕ) → rule T x y < 256

abbrev pub KeepsBoth : ((T S : ℤ → ℕ) → ℕ → ℕ → ℕ) → Type 0
KeepsBoth rule = (T S : ℤ → ℕ) → Row T → Row S → (x y : ℕ) → rule T S x y < 256

pub vertical_keeps : Keeps vertical
unfolding vertical
vertical_keeps T t x y = t (pos x)

pub horizontal_keeps : Keeps horizontal
unfolding horizontal
horizontal_keeps S s x y = s (pos y)

down_left_keeps : Keeps down_left
unfolding down_left
down_left_keeps T t x y = byte_cond (eqb x 3 && eqb y 3) (byte_avg3 (t _) (t _) (t _)) (byte_avg3 (t _) (t _) (t _))

down_right_keeps : KeepsBoth down_right
unfolding down_right
down_right_keeps T S t s x y =
    byte_cond (ltb y x) (byte_avg3 (t _) (t _) (t _)) (byte_cond (ltb x y) (byte_avg3 (s _) (s _) (s _)) (byte_avg3 (t _) (t _) (s _)))

by_z_keeps : (z : ℤ) {a b c d : ℕ} → a < 256 → b < 256 → c < 256 → d < 256 → by_z z a b c d < 256
by_z_keeps (pos z) a b c d = byte_cond (eqb (z % 2) 0) a b
by_z_keeps (negsuc zero) a b c d = c
by_z_keeps (negsuc (suc n)) a b c d = d

vertical_right_keeps : KeepsBoth vertical_right
unfolding vertical_right
vertical_right_keeps T S t s x y =
    by_z_keeps (pos (2 * x) -ℤ pos y) (byte_avg2 (t _) (t _)) (byte_avg3 (t _) (t _) (t _)) (byte_avg3 (s _) (t _) (t _)) (byte_avg3 (s _) (s _) (s _))

horizontal_down_keeps : KeepsBoth horizontal_down
horizontal_down_keeps T S t s x y = vertical_right_keeps S T s t y x

vertical_left_keeps : Keeps vertical_left
unfolding vertical_left
vertical_left_keeps T t x y = byte_cond (eqb (y % 2) 0) (byte_avg2 (t _) (t _)) (byte_avg3 (t _) (t _) (t _))

horizontal_up_keeps : Keeps horizontal_up
unfolding horizontal_up
horizontal_up_keeps S s x y =
    byte_cond (ltb 5 (x + 2 * y)) (s _)
    (byte_cond (eqb (x + 2 * y) 5) (byte_avg3 (s _) (s _) (s _)) (byte_cond (eqb ((x + 2 * y) % 2) 0) (byte_avg2 (s _) (s _)) (byte_avg3 (s _) (s _) (s _))))

-- ---- what stands round a block

abbrev pub SideBytes : Side → Type 0
SideBytes (here l) = Bytes l
SideBytes missing = Unit {0}

pub record RoundBytes (r : Round) : Type 0 where
  pub above : SideBytes r.above
  pub left : SideBytes r.left
  pub corner : SideBytes r.corner

side_bytes : (t : Bool) {l : List ℕ} → Bytes l → SideBytes (side_if t l)
side_bytes true b = b
side_bytes false b = tt

pub masked_bytes : (f : ℕ) {above left corner : List ℕ} → Bytes above → Bytes left → Bytes corner → RoundBytes (masked above left corner f)
masked_bytes f a l c = record { above = side_bytes (bit_of f 0) a; left = side_bytes (bit_of f 1) l; corner = side_bytes (bit_of f 2) c }

mask_bytes : (n : List ℕ) (f : ℕ) → Bytes n → RoundBytes (mask n f)
mask_bytes n f b =
    let above : Bytes (above_of n) = bytes_take 4 _ (bytes_drop 1 n b) in
    masked_bytes f
    (bytes_append (above_of n) _ above (bytes_cond (bit_of f 3) (bytes_take 4 _ (bytes_drop 5 n b)) (bytes_replicate 4 (above.byte 3))))
    (bytes_take 4 _ (bytes_drop 9 n b))
    (bytes_take 1 n b)

-- ---- the modes

pub mean_byte : (n : ℕ) → 0 < n → (a l : Side) → SideBytes a → SideBytes l → mean n a l < 256
mean_byte n p (here a) (here l) h k = byte_both p (byte_total n h) (byte_total n k) (omega arith)
mean_byte n p (here a) missing h k = byte_single p (byte_total n h) (omega arith)
mean_byte n p missing (here l) h k = byte_single p (byte_total n k) (omega arith)
mean_byte n p missing missing h k = omega arith

pub one_bytes : (n : ℕ) (side : Side) → SideBytes side → (rule : (ℤ → ℕ) → ℕ → ℕ → ℕ) → Keeps rule → Bytes (samples_of (one n side rule))
one_bytes n (here l) b rule keeps = bytes_grid n _ (keeps (row_of [] l) (row_bytes bytes_none b))
one_bytes n missing b rule keeps = bytes_none

three_bytes : (n : ℕ) (a l m : Side) → SideBytes a → SideBytes l → SideBytes m → (rule : (T S : ℤ → ℕ) → ℕ → ℕ → ℕ) → KeepsBoth rule
    → Bytes (samples_of (three n (record { above = a; left = l; corner = m }) rule))
three_bytes n (here a) (here l) (here m) b c d rule keeps =
    bytes_grid n _ (keeps (row_of m a) (row_of m l) (row_bytes d b) (row_bytes d c))
three_bytes n (here a) (here l) missing b c d rule keeps = bytes_none
three_bytes n (here a) missing m b c d rule keeps = bytes_none
three_bytes n missing l m b c d rule keeps = bytes_none

module _ (r : Round) (b : RoundBytes r) where
  pub three_of : (n : ℕ) (rule : (T S : ℤ → ℕ) → ℕ → ℕ → ℕ) → KeepsBoth rule → Bytes (samples_of (three n r rule))
  three_of n rule keeps = three_bytes n r.above r.left r.corner b.above b.left b.corner rule keeps

  mode_bytes : (m : ℕ) → Bytes (samples_of (predicted r m))
  unfolding predicted
  mode_bytes m =
      each_of (λ p. Bytes (samples_of p)) none bytes_none (modes r) (
        one_bytes 4 r.above b.above vertical vertical_keeps,
        (
          one_bytes 4 r.left b.left horizontal horizontal_keeps,
          (
            bytes_grid 4 _ (λ x y. mean_byte 4 (omega arith) r.above r.left b.above b.left),
            (
              one_bytes 4 r.above b.above down_left down_left_keeps,
              (
                three_of 4 down_right down_right_keeps,
                (
                  three_of 4 vertical_right vertical_right_keeps,
                  (
                    three_of 4 horizontal_down horizontal_down_keeps,
                    (
                      one_bytes 4 r.above b.above vertical_left vertical_left_keeps,
                      (
                        one_bytes 4 r.left b.left horizontal_up horizontal_up_keeps,
                        tt,
                      ),
                    ),
                  ),
                ),
              ),
            ),
          ),
        ),
      ) m

-- ---- the theorems

module _ (n : List ℕ) (f : ℕ) where
  pub predicted_bytes : Bytes n → (m : ℕ) → Bytes (samples_of (predicted (mask n f) m))
  predicted_bytes b m = mode_bytes (mask n f) (mask_bytes n f b) m

  pub best_bytes : Bytes n → (best : Best) → Bytes (best_samples (mask n f) best)
  best_bytes b nothing = bytes_none
  best_bytes b (at m s) = predicted_bytes b m

  module _ (e : length n ≡ 13) where
    pub predicted_sixteen : (m : ℕ) → permitted f m ≡ true → length (samples_of (predicted (mask n f) m)) ≡ 16
    predicted_sixteen m p = ap length (sym (filled_is n f m e p refl refl refl)) ∙ length_filled _ _ f m (mode_below_9 f m p)

module _ (n : List ℕ) (f : ℕ) (block : List ℕ) (e : length n ≡ 13) where
  pub chosen_mode : ChosenMode n f block
  chosen_mode =
      let w = some_mode (mask n f) block in
      record { mode = w.0; sad = w.1; is = w.2; allowed = permitted_cost n f block e w.0 w.1 w.3.costs; within = w.3.within }

  pub chosen_sixteen : length (best_samples (mask n f) (chosen (mask n f) block)) ≡ 16
  chosen_sixteen =
      let c = chosen_mode in
      ap (λ (b : Best). length (best_samples (mask n f) b)) c.is ∙ predicted_sixteen n f e c.mode c.allowed
