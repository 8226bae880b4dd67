-- Samples at which useless builds are contradicted (01, "What the stamp covers"): they are evaluated here and in the crates above. Assumes nothing.
use Rattle.std.specs.Prelude.{cond, ◌&&◌, List, ℕ, ◌%◌, ltb}
use Rattle.lists.specs.Tab.{tab, grid}

-- a macroblock whose first block is 200 and all others 128
abbrev pub light_corner : List ℕ
light_corner = grid 16 (λ x y. cond (ltb x 4 && ltb y 4) 200 128)

-- two macroblocks of equal samples side by side, sixteen rows of 16 samples and 16 others
abbrev pub beside_at : (left right i : ℕ) → ℕ
beside_at left right i = cond (ltb (i % 32) 16) left right

abbrev pub beside : (left right : ℕ) → List ℕ
beside left right = tab 512 (beside_at left right)
