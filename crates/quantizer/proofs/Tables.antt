-- The rules of the tables, each one test that the checker computes over the whole table.
--     zigzag_permutes     the zigzag visits each of the sixteen places once: step and place undo each other
--     classes             the code's pattern of classes goes by the parity of row and column
--     classes_turn        and the rule does not tell rows from columns
--     tables_agree        MF times V times 16, 25 or 20 is 2^21, give or take 277
--     mf_small, v_small   the greatest entries
-- Assumes nothing.
use mathlib.Core.Path.{◌≡◌, refl, sym, ap, ◌∙◌}
use mathlib.Core.Bool.{Bool}
use mathlib.Core.List.{List, [], ◌∷◌}
use Prim.Native.Nat.{ℕ, ◌+◌, ◌*◌, ◌^◌, ◌<◌, ◌≤◌}
use native.Mathlib.Omega.{arith}
use lib.Dec.{T, eqb, ltb, leb, eqb→eq, ltb→lt, leb→le}
use lib.ListN.{get_or}
use Rattle.lists.specs.Every.{every}
use Rattle.lists.specs.Tab.{tab}
use Rattle.lists.specs.Total.{gap}
use Rattle.lists.proofs.Every.{every_at}
use Rattle.lists.proofs.Turned.{turned_place}
use Rattle.quantizer.specs.Tables.{mf_table, v_table, mf_of, v_of, column_of, of_class, zigzag_of, step_of, class_at_place}
use Rattle.quantizer.specs.declared.Class.{Class}
use Rattle.quantizer.specs.declared.Class.TheVariants.{A, B, C}

-- ---- zigzag

pub record Permutes (k : ℕ) : Type 0 where
  pub place : zigzag_of k < 16
  pub step : step_of k < 16
  pub step_of_place : step_of (zigzag_of k) ≡ k
  pub place_of_step : zigzag_of (step_of k) ≡ k

pub zigzag_permutes : (k : ℕ) → k < 16 → Permutes k
zigzag_permutes k h = record {
  place = ltb→lt _ _ (every_at 16 (λ i. ltb (zigzag_of i) 16) tt k h);
  step = ltb→lt _ _ (every_at 16 (λ i. ltb (step_of i) 16) tt k h);
  step_of_place = eqb→eq _ _ (every_at 16 (λ i. eqb (step_of (zigzag_of i)) i) tt k h);
  place_of_step = eqb→eq _ _ (every_at 16 (λ i. eqb (zigzag_of (step_of i)) i) tt k h);
}

-- ---- classes

pub column_lt : (c : Class) → column_of c < 3
column_lt A = omega arith
column_lt B = omega arith
column_lt C = omega arith

-- the class that stands in a column
in_column : ℕ → Class
in_column k = get_or (A ∷ B ∷ C ∷ []) k A

column_again : (c : Class) → in_column (column_of c) ≡ c
unfolding in_column
column_again A = refl
column_again B = refl
column_again C = refl

same_class : (c d : Class) → column_of c ≡ column_of d → c ≡ d
same_class c d e = sym (column_again c) ∙ ap in_column e ∙ column_again d

-- the code's pattern of sixteen goes by the parity of row and column: the checker computes that
pub classes : {X : Type 0} (a b c : X) → a ∷ c ∷ a ∷ c ∷ c ∷ b ∷ c ∷ b ∷ a ∷ c ∷ a ∷ c ∷ c ∷ b ∷ c ∷ b ∷ [] ≡ tab 16 (λ place. of_class a b c (class_at_place place))
unfolding tab
classes a b c = refl

-- of f of each class, that of a class is f of it
pub of_class_law : {X : Type 0} (f : Class → X) (class : Class) → of_class (f A) (f B) (f C) class ≡ f class
of_class_law f A = refl
of_class_law f B = refl
of_class_law f C = refl

-- the rule is its own transpose
pub classes_turn : (place : ℕ) → place < 16 → class_at_place place ≡ class_at_place (turned_place 4 place)
classes_turn place h =
    same_class _ _ (eqb→eq _ _ (every_at 16 (λ i. eqb (column_of (class_at_place i)) (column_of (class_at_place (turned_place 4 i)))) tt place h))

-- ---- MF against V

-- what the forward and the inverse transform leave to MF and V at the places of a class
abbrev pub gain_of : Class → ℕ
gain_of A = 16
gain_of B = 25
gain_of C = 20

close : ℕ → ℕ → Bool
close r c = leb (gap (get_or mf_table (3 * r + c) 0 * get_or v_table (3 * r + c) 0 * get_or (16 ∷ 25 ∷ 20 ∷ []) c 0) (2 ^ 21)) 277

pub tables_agree : (r : ℕ) → r < 6 → (c : Class) → gap (mf_of r c * v_of r c * gain_of c) (2 ^ 21) ≤ 277
unfolding close
tables_agree r h A = leb→le _ _ (every_at 6 (λ i. close i 0) tt r h)
tables_agree r h B = leb→le _ _ (every_at 6 (λ i. close i 1) tt r h)
tables_agree r h C = leb→le _ _ (every_at 6 (λ i. close i 2) tt r h)

-- ---- the greatest entries

-- no entry of a table of six rows and three columns is above `most`: the checker computes that
table_small : (table : List ℕ) (most : ℕ) → T (every 18 (λ i. leb (get_or table i 0) most)) → (r : ℕ) → r < 6 → (c : Class) → get_or table (3 * r + column_of c) 0 ≤ most
table_small table most t r h c = leb→le _ _ (every_at 18 (λ i. leb (get_or table i 0) most) t (3 * r + column_of c) (omega (arith, column_lt c)))

pub mf_small : (r : ℕ) → r < 6 → (c : Class) → mf_of r c ≤ 13107
mf_small = table_small mf_table 13107 tt

pub v_small : (r : ℕ) → r < 6 → (c : Class) → v_of r c ≤ 29
v_small = table_small v_table 29 tt
