-- `residual_whole::inner::first_ac` meets its contract: two loops that are left at the first number outside 16 bits. Assumes nothing.
use mathlib.Core.Path.{◌≡◌}
use mathlib.Core.Bool.{Bool, not}
use mathlib.Core.List.{List}
use Prim.Native.Nat.{ℕ}
use lib.IntN.{ℤ}
use Rattle.std.proofs.Common.{None}
use Rattle.lists.proofs.First.{Searching}
use Rattle.residual.specs.Order.{in_zigzag}
use Rattle.residual.proofs.Scan.{wide_at}
use Rattle.residual_whole.specs.Rebuilt.{ac_numbers, ac_fits}
use Rattle.residual_whole.proofs.inner.first_ac.Given as goal

-- a block with a level out of range
abbrev pub bad : (s qp : ℕ) → List ℤ → ℕ → Bool
bad s qp levels b = not (ac_fits s qp levels b)

abbrev pub invariant-loop-number : goal.invariant-loop-number
invariant-loop-number l =
    (l.offence ≡ None) × (l.number-items ≡ in_zigzag (ac_numbers l.s l.quantizer.qp l.levels l.b)) × Searching (wide_at (in_zigzag (ac_numbers l.s l.quantizer.qp l.levels l.b))) 16 l.number-index

abbrev pub invariant-blocks-2 : goal.invariant-blocks-2
invariant-blocks-2 l = (l.offence ≡ None) × Searching (bad l.s l.quantizer.qp l.levels) l.count l.b
