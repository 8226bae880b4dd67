-- `sheet::sums::over_picture` meets its contract: a loop over macroblocks. Assumes nothing.
use mathlib.Core.Bool.{cond}
use Prim.Native.Nat.{ℕ, ◌*◌}
use Rattle.sheet.specs.Code.{of_totals, macroblock_total}
use Rattle.sheet.specs.Errors.{is_present}
use Rattle.sheet.proofs.Adding.{Adding}
use Rattle.sheet.proofs.sums.over_picture.Given as goal

abbrev pub invariant-loop-m : goal.invariant-loop-m
invariant-loop-m l =
    Adding (l.layout.width * l.layout.height) 256 (λ (g : ℕ → ℕ) m. cond (is_present l.map m) (macroblock_total l.layout m g) 0) l.original l.rebuilt (of_totals l.totals) l.m
