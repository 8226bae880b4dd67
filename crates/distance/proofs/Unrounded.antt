-- The inverse without its roundings, as a matrix: twice its basis on each side, so that every entry is whole.
--     Basis, both_sides                     the matrix, and a block through it on both sides, each row first
--     line_near, inverse_near              the rounded sums are near it: twice a line's within 1, 256 times a residual within 137
--     line_within, both_sides_within       bounds by class: 16 of a, 24 of c, 9 of b
--     both_sides_linear                    of a combination of two blocks
--     share_of, shares_of, shares_back       the coefficients by 400 over 16, 25 and 20: they come back as 1600 times the block
-- Assumes nothing.
use mathlib.Core.Path.{◌≡◌, refl, sym, ap, subst, ◌∙◌}
use mathlib.Core.List.{List, [], ◌∷◌}
use Prim.Native.Nat.{ℕ, zero, suc, ◌+◌, ◌*◌, ◌/◌, ◌%◌, ◌<◌, ◌≤◌}
use native.Mathlib.Omega.{arith}
use lib.Dec.{T, eqb, ltb, eqb→eq, ltb→lt}
use lib.IntN.{ℤ, pos, negsuc, neg_ℤ, nat_abs, ◌+ℤ◌, ◌-ℤ◌, ◌*ℤ◌, +ℤ_idr}
use lib.ListN.{get_or}
use Rattle.lists.specs.Tab.{grid}
use Rattle.lists.proofs.Every.{every_at}
use Rattle.lists.proofs.Tab.{get_d_tab}
use Rattle.whole.specs.Bounds.{Within}
use Rattle.whole.specs.Sum.{sum, unit}
use Rattle.whole.proofs.Bound.{abs_add, here, literal, plus, minus, times, within, shr_near}
use Rattle.whole.proofs.Ring.{Expression, ring, var, con, neg, ◌⊕◌, ◌⊖◌, ◌⊗◌}
use Rattle.whole.proofs.Sums.{sum_ext, sum_scale, same_below}
use Rattle.quantizer.specs.Tables.{class_at_place}
use Rattle.quantizer.specs.declared.Class.{Class}
use Rattle.quantizer.specs.declared.Class.TheVariants as class
use Rattle.transform.specs.Quads.{through}
use Rattle.transform.specs.Forward.{C, forward}
use Rattle.transform.specs.Inverse.{half, back, rounded, inverse}
use Rattle.transform.specs.Matrix.{Line, Matrix, product, transposed, raster, each_row, each_column}
use Rattle.transform.proofs.Linear.{between_linear}
use Rattle.transform.proofs.Products.{around, Undoes, undone}
use Rattle.transform.proofs.Sides.{forward_around}
use Rattle.transform.proofs.Squares.{entries_at}
use Rattle.transform.proofs.Through.{sides}

-- twice what place i of a line has of number k, with exact halves
abbrev pub Basis : Matrix
Basis =
    raster 4
    (pos 2 ∷ pos 2 ∷ pos 2 ∷ pos 1
    ∷ pos 2 ∷ pos 1 ∷ negsuc 1 ∷ negsuc 1
    ∷ pos 2 ∷ negsuc 0 ∷ negsuc 1 ∷ pos 2
    ∷ pos 2 ∷ negsuc 1 ∷ pos 2 ∷ negsuc 0 ∷ [])

-- a block through M on both sides
abbrev pub both_sides : Matrix → Matrix → Matrix
both_sides M X = each_column (through 4 M) (each_row (through 4 M) X)

-- ---- the halvings of a line

-- twice a half, rounded down
half_near : (z : ℤ) → Within 1 (pos 2 *ℤ half z -ℤ z)
half_near z = subst (λ (y : ℤ). Within 1 (pos 2 *ℤ half y -ℤ z)) (+ℤ_idr z) (shr_near 2 1 0 (omega arith) (omega arith) (omega arith) z)

-- the other way round
half_far : (z : ℤ) → Within 1 (pos 0 -ℤ (pos 2 *ℤ half z -ℤ z))
half_far z = within (minus (literal (pos 0)) (here (half_near z)))

-- for the solver: four numbers and the halves of the second and the fourth, and place i of them through the basis
abbrev halved : Line → List ℤ
halved w = w 0 ∷ w 1 ∷ w 2 ∷ w 3 ∷ half (w 1) ∷ half (w 3) ∷ []

abbrev unhalved : ℕ → Expression
unhalved i = con (pos 0) ⊕ con (Basis i 0) ⊗ var 0 ⊕ con (Basis i 1) ⊗ var 1 ⊕ con (Basis i 2) ⊗ var 2 ⊕ con (Basis i 3) ⊗ var 3

-- one rounding in each sum: that of the fourth number at the ends, of the second in the middle
pub line_near : (w : Line) (i : ℕ) → i < 4 → Within 1 (pos 2 *ℤ back w i -ℤ through 4 Basis w i)
line_near w zero l =
    subst (Within 1) (sym (ring (halved w) (con (pos 2) ⊗ ((var 0 ⊕ var 2) ⊕ (var 1 ⊕ var 5)) ⊖ unhalved 0) (con (pos 2) ⊗ var 5 ⊖ var 3) refl)) (half_near (w 3))
line_near w (suc zero) l =
    subst (Within 1) (sym (ring (halved w) (con (pos 2) ⊗ ((var 0 ⊖ var 2) ⊕ (var 4 ⊖ var 3)) ⊖ unhalved 1) (con (pos 2) ⊗ var 4 ⊖ var 1) refl)) (half_near (w 1))
line_near w (suc (suc zero)) l =
    subst (Within 1) (sym (ring (halved w) (con (pos 2) ⊗ ((var 0 ⊖ var 2) ⊖ (var 4 ⊖ var 3)) ⊖ unhalved 2) (con (pos 0) ⊖ (con (pos 2) ⊗ var 4 ⊖ var 1)) refl)) (half_far (w 1))
line_near w (suc (suc (suc zero))) l =
    subst (Within 1) (sym (ring (halved w) (con (pos 2) ⊗ ((var 0 ⊕ var 2) ⊖ (var 1 ⊕ var 5)) ⊖ unhalved 3) (con (pos 0) ⊖ (con (pos 2) ⊗ var 5 ⊖ var 3)) refl)) (half_far (w 3))
line_near w (suc (suc (suc (suc i)))) l = absurd (omega arith)

-- ---- bounds by class

-- the sizes in a row of the basis: 4 at the even numbers, 3 at the odd ones
even_sizes : (i : ℕ) → i < 4 → nat_abs (Basis i 0) + nat_abs (Basis i 2) ≡ 4
even_sizes i l = eqb→eq _ _ (every_at 4 (λ i. eqb (nat_abs (Basis i 0) + nat_abs (Basis i 2)) 4) tt i l)

odd_sizes : (i : ℕ) → i < 4 → nat_abs (Basis i 1) + nat_abs (Basis i 3) ≡ 3
odd_sizes i l = eqb→eq _ _ (every_at 4 (λ i. eqb (nat_abs (Basis i 1) + nat_abs (Basis i 3)) 3) tt i l)

-- a line whose even numbers are within P and whose odd ones are within Q
pub line_within : (P Q : ℕ) (x : Line) → Within P (x 0) → Within Q (x 1) → Within P (x 2) → Within Q (x 3) → (i : ℕ) → i < 4 → Within (4 * P + 3 * Q) (through 4 Basis x i)
line_within P Q x h0 h1 h2 h3 i l =
    let term : (k B : ℕ) → Within B (x k) → nat_abs (Basis i k *ℤ x k) ≤ nat_abs (Basis i k) * B =
    λ k B h. (within (times (literal (Basis i k)) (here h))).size in
    record {
      size = omega (
        arith,
        abs_add (sum 3 (λ k. Basis i k *ℤ x k)) (Basis i 3 *ℤ x 3),
        abs_add (sum 2 (λ k. Basis i k *ℤ x k)) (Basis i 2 *ℤ x 2),
        abs_add (sum 1 (λ k. Basis i k *ℤ x k)) (Basis i 1 *ℤ x 1),
        abs_add (pos 0) (Basis i 0 *ℤ x 0),
        term 0 P h0,
        term 1 Q h1,
        term 2 P h2,
        term 3 Q h3,
        ap (λ (n : ℕ). n * P) (even_sizes i l),
        ap (λ (n : ℕ). n * Q) (odd_sizes i l),
      );
    }

-- a block whose numbers are within the bounds of their classes
pub both_sides_within : (β : Class → ℕ) (X : Matrix) → ((k l : ℕ) → k < 4 → l < 4 → Within (β (class_at_place (4 * k + l))) (X k l)) → (i j : ℕ) → i < 4 → j < 4
    → Within (16 * β class.A + 24 * β class.C + 9 * β class.B) (both_sides Basis X i j)
both_sides_within β X h i j a b =
    let found =
    line_within (4 * β class.A + 3 * β class.C) (4 * β class.C + 3 * β class.B) (λ k. through 4 Basis (X k) j)
    (line_within (β class.A) (β class.C) (X 0) (at 0 0 tt tt) (at 0 1 tt tt) (at 0 2 tt tt) (at 0 3 tt tt) j b)
    (line_within (β class.C) (β class.B) (X 1) (at 1 0 tt tt) (at 1 1 tt tt) (at 1 2 tt tt) (at 1 3 tt tt) j b)
    (line_within (β class.A) (β class.C) (X 2) (at 2 0 tt tt) (at 2 1 tt tt) (at 2 2 tt tt) (at 2 3 tt tt) j b)
    (line_within (β class.C) (β class.B) (X 3) (at 3 0 tt tt) (at 3 1 tt tt) (at 3 2 tt tt) (at 3 3 tt tt) j b)
    i a in
    record { size = omega arith }
  where
    at : (k l : ℕ) → T (ltb k 4) → T (ltb l 4) → Within (β (class_at_place (4 * k + l))) (X k l)
    at k l s t = h k l (ltb→lt k 4 s) (ltb→lt l 4 t)

-- ---- the roundings of a block

rounded_near : (z : ℤ) → Within 32 (pos 64 *ℤ rounded z -ℤ z)
rounded_near z = shr_near 64 32 32 (omega arith) (omega arith) (omega arith) z

-- each row first, then each column, as the definition goes
abbrev sums_of : Matrix → Matrix
sums_of D = each_column back (each_row back D)

-- the column's rounding, doubled, and those of the four rows through the basis: 2 and 7
sums_near : (D : Matrix) (i j : ℕ) → i < 4 → j < 4 → Within 9 (pos 4 *ℤ sums_of D i j -ℤ both_sides Basis D i j)
sums_near D i j a b =
    let R : Line = λ k. back (D k) j in
    let S : Line = λ k. through 4 Basis (D k) j in
    let column = line_near (λ k. back (D k) j) i a in
    let row : (k : ℕ) → Within 1 (pos 2 *ℤ back (D k) j -ℤ through 4 Basis (D k) j) = λ k. line_near (D k) j b in
    let rows = line_within 1 1 (λ k. pos 2 *ℤ back (D k) j -ℤ through 4 Basis (D k) j) (row 0) (row 1) (row 2) (row 3) i a in
    let is =
    ring
    (sums_of D i j ∷ R 0 ∷ R 1 ∷ R 2 ∷ R 3 ∷ S 0 ∷ S 1 ∷ S 2 ∷ S 3 ∷ Basis i 0 ∷ Basis i 1 ∷ Basis i 2 ∷ Basis i 3 ∷ [])
    (con (pos 4) ⊗ var 0 ⊖ (con (pos 0) ⊕ var 9 ⊗ var 5 ⊕ var 10 ⊗ var 6 ⊕ var 11 ⊗ var 7 ⊕ var 12 ⊗ var 8))
    (con (pos 2) ⊗ (con (pos 2) ⊗ var 0 ⊖ (con (pos 0) ⊕ var 9 ⊗ var 1 ⊕ var 10 ⊗ var 2 ⊕ var 11 ⊗ var 3 ⊕ var 12 ⊗ var 4))
    ⊕ (con (pos 0) ⊕ var 9 ⊗ (con (pos 2) ⊗ var 1 ⊖ var 5) ⊕ var 10 ⊗ (con (pos 2) ⊗ var 2 ⊖ var 6) ⊕ var 11 ⊗ (con (pos 2) ⊗ var 3 ⊖ var 7) ⊕ var 12 ⊗ (con (pos 2) ⊗ var 4 ⊖ var 8)))
    refl in
    subst (Within 9) (sym is) (within (plus (times (literal (pos 2)) (here column)) (here rows)))

-- with the last rounding: 4 * 32 and 9
pub inverse_near : (d : List ℤ) (place : ℕ) → place < 16 → Within 137 (pos 256 *ℤ get_or (inverse d) place (pos 0) -ℤ both_sides Basis (raster 4 d) (place / 4) (place % 4))
unfolding inverse grid
inverse_near d place h =
    let i = place / 4 in
    let j = place % 4 in
    let sums = sums_of (raster 4 d) (place / 4) (place % 4) in
    let is =
    ap (λ (z : ℤ). pos 256 *ℤ z -ℤ both_sides Basis (raster 4 d) (place / 4) (place % 4)) (get_d_tab 16 (λ k. rounded (sums_of (raster 4 d) (k / 4) (k % 4))) place (pos 0) h)
    ∙ ring (rounded sums ∷ sums ∷ both_sides Basis (raster 4 d) i j ∷ [])
    (con (pos 256) ⊗ var 0 ⊖ var 2) (con (pos 4) ⊗ (con (pos 64) ⊗ var 0 ⊖ var 1) ⊕ (con (pos 4) ⊗ var 1 ⊖ var 2)) refl in
    subst (Within 137) (sym is)
    (within (plus (times (literal (pos 4)) (here (rounded_near sums))) (here (sums_near (raster 4 d) i j (omega arith) (omega arith)))))

-- ---- combinations

pub both_sides_linear : (M X Y : Matrix) (a b : ℤ) (i j : ℕ) → both_sides M (λ k l. a *ℤ X k l -ℤ b *ℤ Y k l) i j ≡ a *ℤ both_sides M X i j -ℤ b *ℤ both_sides M Y i j
both_sides_linear M X Y a b i j =
    let Z : Matrix = λ k l. a *ℤ X k l -ℤ b *ℤ Y k l in
    sym (sides 4 M Z i j)
    ∙ between_linear 4 M (transposed M) X Y Z a (neg_ℤ b) (λ k l h m. minus_neg (X k l) (Y k l)) i j
    ∙ sym (minus_neg (around 4 M X i j) (around 4 M Y i j))
    ∙ (λ t. a *ℤ sides 4 M X i j t -ℤ b *ℤ sides 4 M Y i j t)
  where
    minus_neg : (x y : ℤ) → a *ℤ x -ℤ b *ℤ y ≡ a *ℤ x +ℤ neg_ℤ b *ℤ y
    minus_neg x y = ring (a ∷ b ∷ x ∷ y ∷ []) (var 0 ⊗ var 2 ⊖ var 1 ⊗ var 3) (var 0 ⊗ var 2 ⊕ neg (var 1) ⊗ var 3) refl

-- ---- the coefficients by their shares

-- 400 over what the tables carry at the places of a class: 16, 25 and 20
abbrev pub share_of : Class → ℕ
share_of class.A = 25
share_of class.B = 16
share_of class.C = 20

abbrev pub shares_of : List ℤ → Matrix
shares_of y = λ k l. pos (share_of (class_at_place (4 * k + l))) *ℤ raster 4 y k l

-- a share is that of its row times that of its column
line_share : Line
line_share = λ k. get_or (pos 5 ∷ pos 4 ∷ pos 5 ∷ pos 4 ∷ []) k (pos 0)

share : (k l : ℕ) → k < 4 → l < 4 → pos (share_of (class_at_place (4 * k + l))) ≡ line_share k *ℤ line_share l
unfolding line_share
share = same_below 4 (λ k l. pos (share_of (class_at_place (4 * k + l)))) (λ k l. line_share k *ℤ line_share l) tt

-- the basis, each column by its share, undoes C
Shared : Matrix
Shared = λ i k. Basis i k *ℤ line_share k

shared_undoes : Undoes 4 Shared C (pos 40)
unfolding Shared line_share
shared_undoes = same_below 4 (product 4 Shared C) (λ i j. pos 40 *ℤ unit i j) tt

pub shares_back : (x : List ℤ) (i j : ℕ) → i < 4 → j < 4 → both_sides Basis (shares_of (forward x)) i j ≡ pos 1600 *ℤ raster 4 x i j
unfolding Shared
shares_back x i j a b =
    let Y = around 4 C (raster 4 x) in
    let coefficient : (k l : ℕ) → k < 4 → l < 4 → raster 4 (forward x) k l ≡ around 4 C (raster 4 x) k l =
    λ k l h m. ap (λ (y : List ℤ). raster 4 y k l) (forward_around x) ∙ entries_at 4 (around 4 C (raster 4 x)) k l h m in
    sum_ext 4 _ _ (λ k h.
    ap (λ (z : ℤ). Basis i k *ℤ z)
    (sum_ext 4 _ _ (λ l m.
    (λ t. Basis j l *ℤ (share k l h m t *ℤ coefficient k l h m t))
    ∙ ring (Basis j l ∷ line_share k ∷ line_share l ∷ Y k l ∷ []) (var 0 ⊗ ((var 1 ⊗ var 2) ⊗ var 3)) (var 1 ⊗ ((var 0 ⊗ var 2) ⊗ var 3)) refl)
    ∙ sym (sum_scale 4 (line_share k) (λ l. Shared j l *ℤ Y k l)))
    ∙ ring (Basis i k ∷ line_share k ∷ through 4 Shared (Y k) j ∷ []) (var 0 ⊗ (var 1 ⊗ var 2)) ((var 0 ⊗ var 1) ⊗ var 2) refl)
    ∙ sym (sides 4 Shared Y i j)
    ∙ undone 4 Shared C (pos 40) shared_undoes (raster 4 x) i j a b
