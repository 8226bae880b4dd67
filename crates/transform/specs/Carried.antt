-- "Weights for carrying coefficients back: a 25, b 4, c 10; C-transposed times the weighted Y times C is 400X."
-- (01, "Transform, quantizer, rescaling".) Assumes nothing.
use Rattle.std.specs.Prelude.{◌≡◌, List, map, ℤ, pos, ◌*ℤ◌, length, get_or}
use Rattle.lists.specs.Tab.{tab}
use Rattle.whole.specs.Bounds.{Within, Each}
use Rattle.whole.specs.Sum.{sum}
use Rattle.quantizer.specs.Tables.{class_at_place}
use Rattle.quantizer.specs.declared.Class.{Class}
use Rattle.quantizer.specs.declared.Class.TheVariants.{A, B, C}
use Rattle.transform.specs.Matrix.{product, transposed, raster, entries}
use Rattle.transform.specs.Forward as forward

abbrev pub weight_of : Class → ℤ
weight_of A = pos 25
weight_of B = pos 4
weight_of C = pos 10

-- each of sixteen coefficients times the weight of its place
unfoldable pub weighted : List ℤ → List ℤ
weighted y = tab 16 (λ place. weight_of (class_at_place place) *ℤ get_or y place (pos 0))

unfoldable pub carried_back : List ℤ → List ℤ
carried_back y = entries 4 (product 4 (transposed forward.C) (product 4 (raster 4 (weighted y)) forward.C))

-- each number of a list times s
abbrev pub scaled : ℤ → List ℤ → List ℤ
scaled s l = map (λ (z : ℤ). s *ℤ z) l

-- the summed products of two lists of sixteen
unfoldable pub products : List ℤ → List ℤ → ℤ
products x z = sum 16 (λ place. get_or x place (pos 0) *ℤ get_or z place (pos 0))

-- y is the coefficients of a block in -255..255
pub record Coefficients (y : List ℤ) : Type 0 where
  pub block : List ℤ
  pub long : length block ≡ 16
  pub small : Each 255 block
  pub is : forward.forward block ≡ y

-- z is 400 times a number in -255..255
pub record Multiple (z : ℤ) : Type 0 where
  pub quotient : ℤ
  pub small : Within 255 quotient
  pub is : z ≡ pos 400 *ℤ quotient
