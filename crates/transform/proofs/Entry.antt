-- What the tests of `forward` come to.
--     outside_range, in_range     the verdicts behind the lengths
--     small                       residuals in range are within 255
-- Assumes nothing.
use mathlib.Core.Path.{◌≡◌, refl}
use mathlib.Core.List.{List, []}
use Prim.Native.Nat.{◌≤◌, ◌<◌}
use native.Mathlib.Omega.{arith}
use borrow.Author.Tests.{eq-eqb}
use lib.IntN.{ℤ, pos, negsuc}
use lib.ListN.{length}
use Rattle.lists.specs.Chain.{chain, pass, stop}
use Rattle.lists.proofs.Chain.{scan_none, scan_found}
use Rattle.whole.specs.Bounds.{Each}
use Rattle.whole.proofs.Range.{at_end, none_each}
use Rattle.refusal.specs.declared.Refusal.TheVariants as refusal
use Rattle.transform.specs.Entry.{outside, forward_tests}

module _ (x y : List ℤ) where
  module _ (h : length x ≡ 16) where
    module _ (k : length y ≡ 16) where
      pub outside_range : outside x < 16 → chain (forward_tests x y) ≡ stop (refusal.Residual (outside x))
      outside_range l =
          rw (eq-eqb (length x) 16 h, eq-eqb (length y) 16 k) (scan_found [] refl 16 (outside x) refusal.Residual [] l)

      pub in_range : 16 ≤ outside x → chain (forward_tests x y) ≡ pass
      in_range l =
          rw (eq-eqb (length x) 16 h, eq-eqb (length y) 16 k)
          (scan_none [] refl 16 (outside x) refusal.Residual [] (at_end (negsuc 254) (pos 255) x 16 h l))

    pub small : 16 ≤ outside x → Each 255 x
    small l = none_each (negsuc 254) (pos 255) x 255 tt tt (omega arith)
