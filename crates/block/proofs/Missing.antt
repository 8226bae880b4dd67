-- What is coded of a block depends on the samples that are present, and a decoder can follow.
--     missing_has_no_value     neighbours that agree wherever a sample is present give the same answer, mode, SAD, levels and rebuilt samples
--     rebuilds                 what is rebuilt is what `rebuild` gives from the prediction of that mode and those levels, for neighbours and
--                              samples that are bytes, as the function's types make them
-- Assumes nothing.
use mathlib.Core.Path.{◌≡◌, sym, ap, ◌∙◌}
use mathlib.Core.List.{List}
use Prim.Native.Nat.{ℕ}
use borrow.Author.Tests.{eqb-true}
use lib.IntN.{ℤ}
use lib.ListN.{length}
use Rattle.lists.specs.Chain.{pass, chain}
use Rattle.lists.specs.Bytes.{Bytes}
use Rattle.lists.proofs.Chain.{chain_exactly_if}
use Rattle.refusal.proofs.Same.{says_same, says}
use Rattle.quantizer.proofs.Range.{number_legal}
use Rattle.intra4.specs.Samples.{mask, AgreeWherePresent}
use Rattle.intra4.proofs.Bytes.{chosen_sixteen}
use Rattle.intra4.proofs.Missing.{same_mask}
use Rattle.intra4.specs.Rules as rules
use Rattle.intra4.specs.Choice.{at, chosen}
use Rattle.intra4.specs.Entry.{best_samples}
use Rattle.intra4.specs.declared.Chosen.{Chosen}
use Rattle.intra4.proofs.Outcome.{same_chosen}
use Rattle.residual.specs.Entry.{Rebuilds, rebuild_tests}
use Rattle.residual.specs.Rebuild.{rebuilt_samples, rescaled_of}
use Rattle.residual.proofs.Own.{own_levels_pass}
use Rattle.block.specs.Entry.{Codes, code_tests}
use Rattle.block.proofs.Laws.{own_residual_small}
use Rattle.block.specs.Block.{residual_of, prediction_of, coded_levels, coded_samples}
use Rattle.std.specs.Prelude.{Ok, Result}
use Rattle.refusal.specs.declared.Refusal.{Refusal}

pub missing_has_no_value : (qp f : ℕ) (n n' s : List ℕ) (l : List ℤ) (o : List ℕ) → AgreeWherePresent f n n'
    → (r r' : Result Chosen Refusal) (l₁ l₂ : List ℤ) (o₁ o₂ : List ℕ) → Codes qp f n s l o r l₁ o₁ → Codes qp f n' s l o r' l₂ o₂ → (r ≡ r') × (l₁ ≡ l₂) × (o₁ ≡ o₂)
missing_has_no_value qp f n n' s l o g r r' l₁ l₂ o₁ o₂ p q =
    let k = g.long in
    let m = same_mask f n n' g in (
      same_chosen r r' (says_same p.says ∙ rw k (sym (says_same q.says))) (p.best ∙ rw (k, m) (sym q.best)),
      p.levels ∙ rw (k, m) (sym q.levels),
      p.rebuilt ∙ rw (k, m) (sym q.rebuilt),
    )

pub rebuilds : (qp f : ℕ) (n s : List ℕ) (l : List ℤ) (o : List ℕ) (m sad : ℕ) (l' : List ℤ) (o' : List ℕ) → Codes qp f n s l o (Ok (record { mode = m; sad = sad })) l' o'
    → Bytes n → Bytes s
    → (out : List ℕ) → length out ≡ 16 → Rebuilds qp (rules.samples_of (rules.predicted (mask n f) m)) l' out (Ok tt) o'
rebuilds qp f n s l o m sad l' o' p near own out room =
    let v : chain (code_tests qp f n s l o) ≡ pass = sym (says_same p.says) in
    let all = (chain_exactly_if (code_tests qp f n s l o)).passes.0 v in
    let few = eqb-true (length n) 13 all.0 in
    let legal = number_legal 0 qp all.1.1.1.1.1.0 in
    let best : at m sad ≡ chosen (mask n f) s = p.best ∙ rw v in
    let y : prediction_of (mask n f) s ≡ rules.samples_of (rules.predicted (mask n f) m) = ap (best_samples (mask n f)) (sym best) in
    let is_l : l' ≡ coded_levels qp (mask n f) s = p.levels ∙ rw v in
    let is_o : o' ≡ coded_samples qp (mask n f) s = p.rebuilt ∙ rw v in
    let e : chain (rebuild_tests qp (rules.samples_of (rules.predicted (mask n f) m)) l' out) ≡ pass =
    rw (sym y, is_l) (own_levels_pass qp legal (residual_of s (prediction_of (mask n f) s)) (own_residual_small n f s near own) (prediction_of (mask n f) s) out (chosen_sixteen n f s few) room) in
    record { says = says (sym e); wrote = simp e (is_o ∙ (λ i. rebuilt_samples (y i) (rescaled_of qp (sym is_l i)))) }
