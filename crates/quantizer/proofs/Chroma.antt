-- Laws of the chroma quantizer.
--     folded_legal                              what the table gives is legal
--     run                                       a run of the table with one value, as an arm of the code's match has it
--     chroma_legal                              what the two tests come to where both pass
-- Assumes nothing.
use mathlib.Core.Path.{◌≡◌, sym, ap, ◌∙◌}
use mathlib.Core.Bool.{true}
use Prim.Native.Nat.{ℕ, ◌+◌, ◌-◌, ◌≤◌, ◌<◌}
use native.Mathlib.Omega.{arith}
use borrow.Author.Tests.{le-ltb}
use lib.Dec.{T, eqb, eqb→eq, leb, leb→le}
use lib.IntN.{ℤ, pos, negsuc}
use lib.ListN.{get_or}
use Rattle.lists.specs.Chain.{pass, chain}
use Rattle.lists.specs.Every.{every}
use Rattle.lists.proofs.Every.{every_at}
use Rattle.whole.specs.Range.{inside}
use Rattle.quantizer.specs.Chroma.{chroma_table, folded_of, chroma_tests}
use Rattle.quantizer.specs.Range.{highest}
use Rattle.quantizer.proofs.Range.{number_passes}

-- n entries of the table from the j-th on are v: the checker computes that, and an arm cites it
pub run : (q j n v : ℕ) → T (every n (λ i. eqb (get_or chroma_table (j + i) 0) v)) → 30 + j ≤ q → q < 30 + j + n → v ≡ folded_of q
run q j n v t low high =
    let i = q - (30 + j) in
    let e : j + (q - (30 + j)) ≡ q - 30 = omega arith in
    let a : get_or chroma_table (j + (q - (30 + j))) 0 ≡ v = eqb→eq _ _ (every_at n (λ i. eqb (get_or chroma_table (j + i) 0) v) t i (omega arith)) in
    simp (le-ltb q 30 (omega arith)) (sym a ∙ ap (λ (k : ℕ). get_or chroma_table k 0) e)

-- what the table gives is a quantizer's number
pub folded_legal : (q : ℕ) → q ≤ highest → folded_of q ≤ highest
folded_legal q h = leb→le _ _ (every_at 52 (λ i. leb (folded_of i) highest) tt q (omega arith))

module _ (qp : ℕ) (offset : ℤ) where
  pub chroma_legal : qp ≤ highest → inside (negsuc 11) (pos 12) offset ≡ true → chain (chroma_tests qp offset) ≡ pass
  chroma_legal h e = simp (number_passes 0 qp h, e)
