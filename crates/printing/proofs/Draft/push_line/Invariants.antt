-- `printing::Draft::push_line` meets its contract: a loop that adds a number and what stands behind it in each turn. Assumes nothing.
use mathlib.Core.Path.{◌≡◌}
use mathlib.Core.List.{List, [], ◌∷◌, ◌++◌}
use Prim.Native.Nat.{ℕ, ◌+◌, ◌*◌, ◌≤◌}
use lib.IntN.{ℤ, pos}
use lib.ListN.{length, get_or}
use Rattle.lists.specs.Parts.{parts}
use Rattle.printing.specs.Text.{signed_of, behind}
use Rattle.printing.proofs.Draft.push_line.Given as goal

-- the k-th number and what stands behind it
abbrev pub part : List ℤ → ℕ → List ℕ
part numbers k = signed_of (get_or numbers k (pos 0)) ++ (behind k ∷ [])

abbrev pub invariant-loop-k : goal.invariant-loop-k
invariant-loop-k l = (l.self ≡ l.initial.self ++ parts l.k (part l.numbers)) × (length l.self ≤ length l.initial.self + 12 * l.k) × (l.k ≤ 16)
