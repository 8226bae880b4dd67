-- `macroblock4::content::Quantized::first_range` meets its contract: two loops that are left at the first number outside 16 bits. Assumes nothing.
use mathlib.Core.Path.{◌≡◌}
use mathlib.Core.Bool.{Bool, not}
use mathlib.Core.List.{List}
use Prim.Native.Nat.{ℕ}
use Rattle.std.proofs.Common.{None}
use Rattle.lists.proofs.First.{Searching}
use Rattle.residual.specs.Order.{in_zigzag}
use Rattle.residual.proofs.Scan.{wide_at}
use Rattle.macroblock4.specs.Content.{rescaled_in, range_holds}
use Rattle.macroblock4.proofs.content.Quantized.first_range.Given as goal

-- a block offends
abbrev pub bad : List ℕ → ℕ → Bool
bad part b = not (range_holds part b)

abbrev pub invariant-loop-number : goal.invariant-loop-number
invariant-loop-number l =
    (l.offence ≡ None) × (l.number-items ≡ in_zigzag (rescaled_in l.self.part.now l.b)) × Searching (wide_at (in_zigzag (rescaled_in l.self.part.now l.b))) 16 l.number-index

abbrev pub invariant-blocks-2 : goal.invariant-blocks-2
invariant-blocks-2 l = (l.offence ≡ None) × Searching (bad l.self.part.now) 16 l.b
