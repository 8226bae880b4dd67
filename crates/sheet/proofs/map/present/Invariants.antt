-- `sheet::map::present` meets its contract: a loop that counts. Assumes nothing.
use mathlib.Core.Bool.{cond}
use Prim.Native.Nat.{ℕ}
use lib.ListN.{length}
use Rattle.lists.proofs.Total.{Totalling}
use Rattle.sheet.specs.Errors.{is_present}
use Rattle.sheet.proofs.map.present.Given as goal

abbrev pub invariant-loop-byte : goal.invariant-loop-byte
invariant-loop-byte l = Totalling (length l.map) (λ (m : ℕ). cond (is_present l.map m) 1 0) 1 l.count l.byte-index
