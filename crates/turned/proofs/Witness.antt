-- Blocks and neighbours at which a faulty definition or claim would fail, by evaluation.
--     rows_before_columns      levels that are their own transpose, and whose residuals are not
--     rebuilt_not_included     so rebuilt samples are not transposed
--     zigzag_not_turned        and levels in zigzag order are not
--     no_others_turn           of the 81 pairs of modes only the six of `Becomes` correspond
--     three_not_eight          mode 3 does not become 8: the one takes three samples at (0,0), the other two
--     flags_too                the flags must be exchanged with the samples
-- Assumes nothing.
use mathlib.Core.Path.{◌≡◌, refl, sym, ap, subst}
use mathlib.Core.Bool.{Bool, true, not, ◌||◌}
use mathlib.Core.List.{List, [], ◌∷◌}
use Prim.Native.Nat.{ℕ, zero, suc, ◌<◌}
use native.Mathlib.Omega.{arith}
use borrow.Author.Tests.{eq-eqb}
use lib.Dec.{T, eqb, eqb→eq}
use lib.IntN.{ℤ, pos, negsuc, nat_abs}
use lib.ListN.{get_or, replicate}
use Rattle.lists.specs.Every.{every}
use Rattle.lists.specs.First.{first}
use Rattle.lists.specs.Tab.{tab, grid, turned}
use Rattle.lists.specs.Total.{total}
use Rattle.lists.proofs.Every.{every_two, every_same, either}
use Rattle.whole.specs.Clip.{clip}
use Rattle.whole.specs.Range.{inside, first_outside}
use Rattle.transform.specs.Forward.{forward}
use Rattle.transform.specs.Inverse.{inverse}
use Rattle.intra4.specs.Samples.{bit_of, mask}
use Rattle.intra4.specs.Rules.{none, samples_of, predicted, vertical, horizontal, down_left, down_right, vertical_right, vertical_left, horizontal_up}
use Rattle.residual.specs.Levels.{quantized, levels_of}
use Rattle.residual.specs.Order.{in_zigzag, in_places}
use Rattle.residual.specs.Quantize.{level_by}
use Rattle.residual.specs.Rebuild as rebuild
use Rattle.residual.specs.Rescale.{scaled_by, rescaled}
use Rattle.turned.specs.Square.{turned_block}
use Rattle.turned.specs.Exchanged.{exchanged_neighbours, exchanged_flags, Becomes, from_vertical, from_horizontal, dc_stays, down_right_stays, from_vertical_right, from_horizontal_down, turned_prediction}
use Rattle.turned.specs.Claims.{NoOthersTurn, RebuiltNotIncluded}
use Rattle.turned.proofs.Prediction.{exchanged_is}

-- ---- rebuilt samples

-- a residual of 28 at place 0 alone, and its levels at QP 4, in raster order
abbrev corner28 : List ℤ
corner28 = pos 28 ∷ replicate 15 (pos 0)

abbrev corner_levels : List ℤ
corner_levels =
    pos 7 ∷ pos 9 ∷ pos 7 ∷ pos 4
    ∷ pos 9 ∷ pos 11 ∷ pos 9 ∷ pos 6
    ∷ pos 7 ∷ pos 9 ∷ pos 7 ∷ pos 4
    ∷ pos 4 ∷ pos 6 ∷ pos 4 ∷ pos 3 ∷ []

-- the residuals in row 2, column 3 and in row 3, column 2
pub rows_before_columns : (quantized 4 corner28 ≡ corner_levels)
    × (turned_block corner_levels ≡ corner_levels)
    × (get_or (inverse (rescaled 4 corner_levels)) 11 (pos 0) ≡ pos 0)
    × (get_or (inverse (rescaled 4 corner_levels)) 14 (pos 0) ≡ negsuc 0)
unfolding quantized forward level_by turned grid tab inverse rescaled scaled_by
rows_before_columns = (refl, refl, refl, refl)

pub rebuilt_not_included : RebuiltNotIncluded
unfolding quantized forward level_by in_zigzag in_places turned grid tab inverse rescaled scaled_by rebuild.rebuilt_samples rebuild.added clip first inside first_outside
rebuilt_not_included h =
    let e : ◌≡◌ {A = ℕ} 128 127 = ap (λ (l : List ℕ). get_or l 11 0) (h 4 (replicate 16 128) corner28 refl) in
    omega arith

-- "of its levels in raster order": in zigzag order the same levels would not do
pub zigzag_not_turned : ((qp : ℕ) (x : List ℤ) → levels_of qp (turned_block x) ≡ turned_block (levels_of qp x)) → ⊥
unfolding quantized forward level_by in_zigzag turned grid tab
zigzag_not_turned h =
    let e : ◌≡◌ {A = ℤ} (pos 9) (pos 11) = ap (λ (l : List ℤ). get_or l 1 (pos 0)) (h 4 corner28) in
    let z : ◌≡◌ {A = ℕ} 9 11 = ap nat_abs e in
    omega arith

-- ---- predictions

-- M, A to H, I to L
abbrev neighbours : List ℕ
neighbours = 100 ∷ 10 ∷ 20 ∷ 30 ∷ 40 ∷ 50 ∷ 60 ∷ 70 ∷ 80 ∷ 15 ∷ 35 ∷ 65 ∷ 95 ∷ []

-- all are present: mode m' after the exchange, and mode m transposed
abbrev mode_there : ℕ → List ℕ
mode_there m' = samples_of (predicted (mask (exchanged_neighbours neighbours) (exchanged_flags 15)) m')

abbrev mode_turned : ℕ → List ℕ
mode_turned m = samples_of (turned_prediction (predicted (mask neighbours 15) m))

sixteen_same : List ℕ → List ℕ → Bool
sixteen_same a b = every 16 (λ k. eqb (get_or a k 0) (get_or b k 0))

sixteen_same_of : (a b : List ℕ) → a ≡ b → sixteen_same a b ≡ true
unfolding sixteen_same
sixteen_same_of a b e = every_same 15 _ true (λ k h. eq-eqb _ _ (ap (λ (l : List ℕ). get_or l k 0) e))

-- the modes of `Becomes` as a table; 9 is no mode
abbrev listed : ℕ → ℕ
listed m = get_or (1 ∷ 0 ∷ 2 ∷ 9 ∷ 4 ∷ 6 ∷ 5 ∷ 9 ∷ 9 ∷ []) m 9

-- of the 81 pairs of modes no others have the same samples: one computed test
all_pairs : T (every 9 (λ m. every 9 (λ m'. not (sixteen_same (mode_there m') (mode_turned m)) || eqb m' (listed m))))
unfolding sixteen_same predicted bit_of turned grid tab total vertical horizontal down_left down_right vertical_right vertical_left horizontal_up
all_pairs = tt

is_listed : (m m' : ℕ) → m < 9 → m' < 9 → mode_there m' ≡ mode_turned m → m' ≡ listed m
is_listed m m' h k e =
    let t = every_two 9 9 (λ m m'. not (sixteen_same (mode_there m') (mode_turned m)) || eqb m' (listed m)) all_pairs m m' h k in
    eqb→eq _ _ (either _ _ t (ap not (sixteen_same_of (mode_there m') (mode_turned m) e)))

becomes_listed : (m m' : ℕ) → m < 9 → m' < 9 → m' ≡ listed m → Becomes m m'
becomes_listed zero m' h k e = subst (Becomes 0) (sym e) from_vertical
becomes_listed (suc zero) m' h k e = subst (Becomes 1) (sym e) from_horizontal
becomes_listed (suc (suc zero)) m' h k e = subst (Becomes 2) (sym e) dc_stays
becomes_listed (suc (suc (suc zero))) m' h k e = absurd (omega arith)
becomes_listed (suc (suc (suc (suc zero)))) m' h k e = subst (Becomes 4) (sym e) down_right_stays
becomes_listed (suc (suc (suc (suc (suc zero))))) m' h k e = subst (Becomes 5) (sym e) from_vertical_right
becomes_listed (suc (suc (suc (suc (suc (suc zero)))))) m' h k e = subst (Becomes 6) (sym e) from_horizontal_down
becomes_listed (suc (suc (suc (suc (suc (suc (suc zero))))))) m' h k e = absurd (omega arith)
becomes_listed (suc (suc (suc (suc (suc (suc (suc (suc zero)))))))) m' h k e = absurd (omega arith)
becomes_listed (suc (suc (suc (suc (suc (suc (suc (suc (suc m))))))))) m' h k e = absurd (omega arith)

pub no_others_turn : NoOthersTurn
no_others_turn m m' h k c =
    becomes_listed m m' h k
    (is_listed m m' h k (ap samples_of (c neighbours (exchanged_neighbours neighbours) 15 (exchanged_flags 15) refl (exchanged_is neighbours refl 15))))

-- at (0,0) mode 3 is avg3(A,B,C), and mode 8 after the exchange avg2(A,B)
pub three_not_eight : (get_or (mode_turned 3) 0 0 ≡ 20) × (get_or (mode_there 8) 0 0 ≡ 15)
unfolding predicted bit_of turned grid tab down_left horizontal_up
three_not_eight = (refl, refl)

-- the samples exchanged and the flags not: mode 1 then has no prediction, where mode 0 had one
pub flags_too : (predicted (mask neighbours 1) 0 ≡ none → ⊥) × (predicted (mask (exchanged_neighbours neighbours) 1) 1 ≡ none)
unfolding predicted bit_of
flags_too = (λ e. (let z : ◌≡◌ {A = ℕ} 0 1 = cc in omega arith), refl)
