-- Exchanging rows and columns of a residual block exchanges those of its coefficients and of its levels.
--     product_transposed, around_transposed     (A B)ᵀ = Bᵀ Aᵀ, so M Xᵀ Mᵀ = (M X Mᵀ)ᵀ, over the size n
--     products_turn                             the same of squares in lists
--     coefficients_turn, levels_turn            for C, and with the multipliers, whose classes do not tell rows from columns
-- Assumes nothing.
use mathlib.Core.Path.{◌≡◌, refl, sym, ap, ◌∙◌}
use mathlib.Core.List.{List}
use Prim.Native.Nat.{ℕ}
use lib.IntN.{ℤ, pos, *ℤ_comm}
use lib.ListN.{get_or}
use Rattle.lists.specs.Tab.{tab, grid}
use Rattle.lists.proofs.Turned.{turned_grid, turned_at, placewise}
use Rattle.whole.proofs.Sums.{sum_ext}
use Rattle.quantizer.specs.Range.{period_of, remainder_of}
use Rattle.quantizer.specs.Tables.{mf_of}
use Rattle.quantizer.specs.declared.Class.{Class}
use Rattle.quantizer.proofs.Tables.{classes_turn}
use Rattle.transform.specs.Forward.{C, forward}
use Rattle.transform.specs.Matrix.{Matrix, product, transposed, raster}
use Rattle.transform.proofs.Products.{around, around_ext, product_ext, product_assoc}
use Rattle.transform.proofs.Squares.{entries_same}
use Rattle.residual.specs.Levels.{quantized}
use Rattle.residual.specs.Quantize.{level_of}
use Rattle.residual.specs.Rescale.{mf_at}
use Rattle.turned.specs.Claims.{ProductsTurn, CoefficientsTurn, LevelsTurn}

module _ (n : ℕ) where
  product_transposed : (A B : Matrix) (i j : ℕ) → product n (transposed B) (transposed A) i j ≡ transposed (product n A B) i j
  product_transposed A B i j = sum_ext n _ _ (λ k h. *ℤ_comm (B k i) (A j k))

  around_transposed : (M X : Matrix) (i j : ℕ) → around n M (transposed X) i j ≡ transposed (around n M X) i j
  around_transposed M X i j =
      product_assoc n M (transposed X) (transposed M) i j
      ∙ product_ext n (product n M (transposed X)) (transposed (product n X (transposed M))) (transposed M) (transposed M) i j
      (λ k h. product_transposed X (transposed M) i k) (λ k h. refl)
      ∙ product_transposed M (product n X (transposed M)) i j

-- what stands in the exchanged list is the transposed matrix
pub products_turn : ProductsTurn
unfolding grid
products_turn n M x =
    entries_same n _ _ (λ i j h k.
    around_ext n M _ (transposed (raster n x)) (λ r c a b. turned_at n (pos 0) x c r (pos 0) b a) i j ∙ around_transposed n M (raster n x) i j)
    ∙ sym (turned_grid n (pos 0) (λ column row. around n M (raster n x) row column))

pub coefficients_turn : CoefficientsTurn
unfolding forward
coefficients_turn x = products_turn 4 C x

pub levels_turn : LevelsTurn
unfolding quantized
levels_turn qp x =
    ap (λ (y : List ℤ). tab 16 (λ place. level_of 0 (period_of qp) (mf_at qp place) (get_or y place (pos 0)))) (coefficients_turn x)
    ∙ placewise 4 (pos 0) (pos 0) (λ place y. level_of 0 (period_of qp) (mf_at qp place) y)
    (λ place h y. ap (λ (c : Class). level_of 0 (period_of qp) (mf_of (remainder_of qp) c) y) (classes_turn place h)) (forward x)
