-- "Zigzag visits raster places 0,1,4,8,.." (01, "Transform, quantizer, rescaling"): the order of the levels. Assumes nothing.
use Rattle.std.specs.Prelude.{List, ℕ, ℤ, pos, get_or}
use Rattle.lists.specs.Tab.{tab}
use Rattle.quantizer.specs.Tables.{zigzag_of, step_of}

-- n numbers in the order of a table, which says from which place each is taken
abbrev pub ordered : (n : ℕ) → (table : ℕ → ℕ) → List ℤ → List ℤ
ordered n table l = tab n (λ k. get_or l (table k) (pos 0))

-- sixteen numbers of raster places in the order in which the zigzag visits them
unfoldable pub in_zigzag : List ℤ → List ℤ
in_zigzag l = ordered 16 zigzag_of l

-- and back to their raster places
unfoldable pub in_places : List ℤ → List ℤ
in_places l = ordered 16 step_of l
