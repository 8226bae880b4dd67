-- Exchanging A_D with I_L and their flags, M kept, transposes the predictions.
--     permitted_turns, prediction_turns     what is permitted; the samples
--     exchanged_is                          the plain way to exchange is such an exchange
--     calls_exchanged                       so calls can meet what `fb_predict_turns` asks of them
-- Assumes nothing.
use mathlib.Core.Path.{◌≡◌, refl, ap, subst, ◌∙◌}
use mathlib.Core.Bool.{Bool, true, false, cond, ◌&&◌}
use mathlib.Core.List.{List, [], ◌∷◌, ◌++◌}
use Prim.Native.Nat.{ℕ, ◌+◌, ◌*◌, ◌/◌, ◌%◌, ◌<◌}
use native.Mathlib.Omega.{arith}
use borrow.Author.Tests.{leb-true, le-leb}
use lib.Dec.{eqb, leb}
use lib.ListN.{length, get_or, replicate}
use Rattle.lists.specs.Tab.{tab, grid, turned}
use Rattle.lists.specs.Total.{total}
use Rattle.lists.proofs.Every.{same_test}
use Rattle.intra4.specs.Samples.{Round, corner_of, above_of, upper_right_of, left_of, bit_of, side_if, mask}
use Rattle.intra4.specs.Rules.{samples, predicted, permitted, avg3, row_of, vertical, horizontal, down_right, vertical_right}
use Rattle.intra4.proofs.Masked.{thirteen}
use Rattle.intra4.proofs.Missing.{same_side}
use Rattle.turned.specs.Exchanged.{Exchanged, exchanged_neighbours, exchanged_flags, Becomes, from_vertical, from_horizontal, dc_stays, down_right_stays, from_vertical_right, from_horizontal_down, turned_prediction}
use Rattle.turned.specs.Claims.{PermittedTurns, PredictionTurns}
use Rattle.turned.specs.Calls.{CallsExchanged}

-- ---- what is permitted goes by the flags

-- "all" of the modes 4, 5 and 6: A_D, I_L and M
all_three : (a b c : Bool) → (b && (a && c)) ≡ (a && (b && c))
all_three true b c = refl
all_three false true c = refl
all_three false false c = refl

pub permitted_turns : PermittedTurns
unfolding permitted
permitted_turns n n' f f' m m' x t = by t
  where
    all : (bit_of f' 0 && (bit_of f' 1 && bit_of f' 2)) ≡ (bit_of f 0 && (bit_of f 1 && bit_of f 2))
    all = rw (x.above_flag, x.left_flag, x.corner_flag) (all_three (bit_of f 0) (bit_of f 1) (bit_of f 2))

    by : {m m' : ℕ} → Becomes m m' → permitted f' m' ≡ permitted f m
    by from_vertical = x.left_flag
    by from_horizontal = x.above_flag
    by dc_stays = refl
    by down_right_stays = all
    by from_vertical_right = all
    by from_horizontal_down = all

-- ---- the samples, where A to D, I to L and M are variables: by evaluation of the sixteen

avg3_turns : (a m i : ℕ) → avg3 i m a ≡ avg3 a m i
avg3_turns a m i = omega arith

mean_turns : (p q : ℕ) → (q + p + 4) / 8 ≡ (p + q + 4) / 8
mean_turns p q = omega arith

-- what stands round a block, by what is present; e stands for E to H
abbrev round_by : (a l m : Bool) (A_D e I_L M : List ℕ) → Round
round_by a l m A_D e I_L M = record { above = side_if a (A_D ++ e); left = side_if l I_L; corner = side_if m M }

module _ (M A B C D I J K L : ℕ) (e e' : List ℕ) where
  abbrev A_D : List ℕ
  A_D = A ∷ B ∷ C ∷ D ∷ []

  abbrev I_L : List ℕ
  I_L = I ∷ J ∷ K ∷ L ∷ []

  abbrev here_round : Bool → Bool → Bool → Round
  here_round a l m = round_by a l m A_D e I_L (M ∷ [])

  abbrev there_round : Bool → Bool → Bool → Round
  there_round a l m = round_by l a m I_L e' A_D (M ∷ [])

  round_turns : {k k' : ℕ} → Becomes k k' → (a l m : Bool) → predicted (there_round a l m) k' ≡ turned_prediction (predicted (here_round a l m) k)
  unfolding predicted turned grid tab total vertical horizontal down_right vertical_right
  round_turns from_vertical true l m = refl
  round_turns from_vertical false l m = refl
  round_turns from_horizontal a true m = refl
  round_turns from_horizontal a false m = refl
  -- "all eight: (sum+4)/8": whichever side comes first
  round_turns dc_stays true true m =
      let p = total 4 (λ k. get_or A_D k 0) in
      let q = total 4 (λ k. get_or I_L k 0) in
      ap (λ (d : ℕ). samples (grid 4 (λ x y. d))) (mean_turns p q)
  round_turns dc_stays true false m = refl
  round_turns dc_stays false true m = refl
  round_turns dc_stays false false m = refl
  -- "x=y: avg3(A,M,I)": from either end
  round_turns down_right_stays true true true =
      let below = down_right (row_of (M ∷ []) I_L) (row_of (M ∷ []) A_D) in
      ap (λ (d : ℕ). samples (grid 4 (λ x y. cond (eqb x y) d (below x y)))) (avg3_turns A M I)
  round_turns down_right_stays true true false = refl
  round_turns down_right_stays true false m = refl
  round_turns down_right_stays false true m = refl
  round_turns down_right_stays false false m = refl
  round_turns from_vertical_right true true true = refl
  round_turns from_vertical_right true true false = refl
  round_turns from_vertical_right true false m = refl
  round_turns from_vertical_right false true m = refl
  round_turns from_vertical_right false false m = refl
  round_turns from_horizontal_down true true true = refl
  round_turns from_horizontal_down true true false = refl
  round_turns from_horizontal_down true false m = refl
  round_turns from_horizontal_down false true m = refl
  round_turns from_horizontal_down false false m = refl

-- ---- the mask of the exchanged neighbours

-- a side that is present by an equal flag, and holds the same where it is
moved_side : {b b' : Bool} {l l' : List ℕ} → b' ≡ b → (b ≡ true → l' ≡ l) → side_if b' l' ≡ side_if b l
moved_side {b} {b'} {l} {l'} e h = ap (λ (c : Bool). side_if c l') e ∙ same_side b l' l h

-- what stands for E to H
abbrev four_more : List ℕ → ℕ → List ℕ
four_more n f = cond (bit_of f 3) (upper_right_of n) (replicate 4 (get_or (above_of n) 3 0))

mask_turns : (n n' : List ℕ) (f f' : ℕ) → Exchanged n f n' f'
    → mask n' f' ≡ round_by (bit_of f 1) (bit_of f 0) (bit_of f 2) (left_of n) (four_more n' f') (above_of n) (corner_of n)
mask_turns n n' f f' x =
    let above = moved_side x.above_flag (λ p. ap (λ (l : List ℕ). l ++ four_more n' f') (x.above p)) in
    let left = moved_side x.left_flag x.left in
    let corner = moved_side x.corner_flag x.corner in
    λ i. record { above = above i; left = left i; corner = corner i }

pub prediction_turns : PredictionTurns
unfolding tab
prediction_turns m m' t n n' f f' long x =
    ap (λ (r : Round). predicted r m') (mask_turns n n' f f' x)
    ∙ subst
    (λ (l : List ℕ). predicted (round_by (bit_of f 1) (bit_of f 0) (bit_of f 2) (left_of l) (four_more n' f') (above_of l) (corner_of l)) m'
    ≡ turned_prediction (predicted (mask l f) m))
    (thirteen n long)
    (round_turns (get_or n 0 0) (get_or n 1 0) (get_or n 2 0) (get_or n 3 0) (get_or n 4 0) (get_or n 9 0) (get_or n 10 0) (get_or n 11 0) (get_or n 12 0)
    (four_more (tab 13 (λ k. get_or n k 0)) f) (four_more n' f') t (bit_of f 0) (bit_of f 1) (bit_of f 2))

-- ---- the plain way to exchange

-- the bits of exchanged flags: a and b were bits 0 and 1, q is the rest
module _ (a b q : ℕ) (h : a < 2) (k : b < 2) where
  flag_0 : (b + 2 * a + 4 * q) / 1 % 2 ≡ b
  flag_0 = omega arith

  flag_1 : (b + 2 * a + 4 * q) / 2 % 2 ≡ a
  flag_1 = omega arith

  flag_2 : (b + 2 * a + 4 * q) / 4 ≡ q
  flag_2 = omega arith

exchanged_legal : (f : ℕ) → leb (exchanged_flags f) 15 ≡ leb f 15
exchanged_legal f =
    same_test _ _ (λ p. le-leb f 15 (omega (arith, leb-true (exchanged_flags f) 15 p))) (λ p. le-leb (exchanged_flags f) 15 (omega (arith, leb-true f 15 p)))

module _ (n : List ℕ) (long : length n ≡ 13) where
  exchanged_long : length (exchanged_neighbours n) ≡ 13
  unfolding tab
  exchanged_long = subst (λ (l : List ℕ). length (exchanged_neighbours l) ≡ 13) (thirteen n long) refl

  above_exchanged : above_of (exchanged_neighbours n) ≡ left_of n
  unfolding tab
  above_exchanged = subst (λ (l : List ℕ). above_of (exchanged_neighbours l) ≡ left_of l) (thirteen n long) refl

  left_exchanged : left_of (exchanged_neighbours n) ≡ above_of n
  unfolding tab
  left_exchanged = subst (λ (l : List ℕ). left_of (exchanged_neighbours l) ≡ above_of l) (thirteen n long) refl

  corner_exchanged : corner_of (exchanged_neighbours n) ≡ corner_of n
  unfolding tab
  corner_exchanged = subst (λ (l : List ℕ). corner_of (exchanged_neighbours l) ≡ corner_of l) (thirteen n long) refl

  pub exchanged_is : (f : ℕ) → Exchanged n f (exchanged_neighbours n) (exchanged_flags f)
  unfolding bit_of
  exchanged_is f =
      let a : f % 2 < 2 = omega arith in
      let b : f / 2 % 2 < 2 = omega arith in
      let one : f % 2 ≡ f / 1 % 2 = omega arith in
      record {
        above_flag = ap (λ (bit : ℕ). eqb bit 1) (flag_0 (f % 2) (f / 2 % 2) (f / 4) a b);
        left_flag = ap (λ (bit : ℕ). eqb bit 1) (flag_1 (f % 2) (f / 2 % 2) (f / 4) a b ∙ one);
        corner_flag = ap (λ (rest : ℕ). eqb (rest % 2) 1) (flag_2 (f % 2) (f / 2 % 2) (f / 4) a b);
        above = λ p. above_exchanged;
        left = λ p. left_exchanged;
        corner = λ p. corner_exchanged;
      }

  pub calls_exchanged : (f m m' : ℕ) (before : List ℕ) → Becomes m m' → CallsExchanged n f m before (exchanged_neighbours n) (exchanged_flags f) m' before
  calls_exchanged f m m' before t = record {
    neighbours = exchanged_is f;
    modes = t;
    long = omega (arith, exchanged_long, long);
    room = refl;
    legal = exchanged_legal f;
  }
