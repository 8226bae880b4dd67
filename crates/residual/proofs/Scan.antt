-- RANGE by the scan of sixteen numbers in the order of the levels.
--     wide_at                     a number outside 16 bits, as the definition hands it to `first`
--     scan_clean, scan_found     the test passes where the scan finds none, and fails where it finds one
-- Assumes nothing.
use mathlib.Core.Path.{◌≡◌, ap, ◌∙◌}
use mathlib.Core.Bool.{Bool, true, false}
use mathlib.Core.List.{List}
use Prim.Native.Nat.{ℕ, ◌<◌}
use native.Mathlib.Omega.{arith}
use borrow.Author.Tests.{eq-eqb, ne_eqb}
use lib.Dec.{eqb}
use lib.IntN.{ℤ, pos, negsuc}
use Rattle.lists.specs.First.{first}
use Rattle.whole.specs.Range.{first_outside}
use Rattle.whole.proofs.Range.{outside_at}
use Rattle.residual.specs.Entry.{first_wide}
use Rattle.residual.specs.Order.{in_zigzag}
use Rattle.residual.proofs.Order.{length_zigzag}

abbrev pub wide_at : List ℤ → ℕ → Bool
wide_at d k = outside_at (negsuc 32767) (pos 32767) d k

module _ (d : List ℤ) where
  wide_is : first_wide (in_zigzag d) ≡ first 16 (wide_at (in_zigzag d))
  unfolding first_outside
  wide_is = ap (λ (n : ℕ). first n (wide_at (in_zigzag d))) (length_zigzag d)

  pub scan_clean : first 16 (wide_at (in_zigzag d)) ≡ 16 → eqb (first_wide (in_zigzag d)) 16 ≡ true
  scan_clean e = eq-eqb (first_wide (in_zigzag d)) 16 (wide_is ∙ e)

  pub scan_found : (k : ℕ) → k < 16 → first 16 (wide_at (in_zigzag d)) ≡ k → eqb (first_wide (in_zigzag d)) 16 ≡ false
  scan_found k h e = ne_eqb (first_wide (in_zigzag d)) 16 (λ q. omega (arith, wide_is, e, q))
