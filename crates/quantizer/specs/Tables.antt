-- MF, V, position classes and zigzag (01, "Transform, quantizer, rescaling"). Assumes nothing.
use Rattle.std.specs.Prelude.{Bool, ◌&&◌, cond, List, [], ◌∷◌, ℕ, ◌+◌, ◌*◌, ◌/◌, ◌%◌, eqb, get_or}
use Rattle.quantizer.specs.declared.Class.{Class}
use Rattle.quantizer.specs.declared.Class.TheVariants.{A, B, C}

abbrev pub even : ℕ → Bool
even n = eqb (n % 2) 0

abbrev pub odd : ℕ → Bool
odd n = eqb (n % 2) 1

-- "Position classes by row and column number: a both even, b both odd, c the rest."
abbrev pub class_at : ℕ → ℕ → Class
class_at row column = cond (even row && even column) A (cond (odd row && odd column) B C)

-- the class of a place in raster order
abbrev pub class_at_place : ℕ → Class
class_at_place place = class_at (place / 4) (place % 4)

-- of three, one for each class, that of a class
abbrev pub of_class : {X : Type 0} → X → X → X → Class → X
of_class a b c A = a
of_class a b c B = b
of_class a b c C = c

-- the paper's table, a row for each remainder r: "MF a, b, c (document 003)"
abbrev pub mf_table : List ℕ
mf_table =
    13107 ∷ 5243 ∷ 8066
    ∷ 11916 ∷ 4660 ∷ 7490
    ∷ 10082 ∷ 4194 ∷ 6554
    ∷ 9362 ∷ 3647 ∷ 5825
    ∷ 8192 ∷ 3355 ∷ 5243
    ∷ 7282 ∷ 2893 ∷ 4559 ∷ []

-- and "V a, b, c (standard)"
abbrev pub v_table : List ℕ
v_table =
    10 ∷ 16 ∷ 13
    ∷ 11 ∷ 18 ∷ 14
    ∷ 13 ∷ 20 ∷ 16
    ∷ 14 ∷ 23 ∷ 18
    ∷ 16 ∷ 25 ∷ 20
    ∷ 18 ∷ 29 ∷ 23 ∷ []

-- where a class stands in a row
abbrev pub column_of : Class → ℕ
column_of = of_class 0 1 2

abbrev pub mf_of : ℕ → Class → ℕ
mf_of r class = get_or mf_table (3 * r + column_of class) 0

abbrev pub v_of : ℕ → Class → ℕ
v_of r class = get_or v_table (3 * r + column_of class) 0

-- "Zigzag visits raster places 0,1,4,8,5,2,3,6,9,12,13,10,7,11,14,15."
abbrev pub zigzag_table : List ℕ
zigzag_table = 0 ∷ 1 ∷ 4 ∷ 8 ∷ 5 ∷ 2 ∷ 3 ∷ 6 ∷ 9 ∷ 12 ∷ 13 ∷ 10 ∷ 7 ∷ 11 ∷ 14 ∷ 15 ∷ []

abbrev pub zigzag_of : ℕ → ℕ
zigzag_of step = get_or zigzag_table step 0

-- and the other way: the step at which each raster place is visited
abbrev pub step_table : List ℕ
step_table = 0 ∷ 1 ∷ 5 ∷ 6 ∷ 2 ∷ 4 ∷ 7 ∷ 12 ∷ 3 ∷ 8 ∷ 11 ∷ 13 ∷ 9 ∷ 10 ∷ 14 ∷ 15 ∷ []

abbrev pub step_of : ℕ → ℕ
step_of place = get_or step_table place 0
