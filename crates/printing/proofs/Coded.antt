-- The text of an outcome, by the cases of the code.
--     text_short                   another count than 31
--     text_refused, text_coded     what `code_block` answered
-- Assumes nothing.
use mathlib.Core.Path.{◌≡◌, refl, sym, ap, ◌∙◌}
use mathlib.Core.List.{List}
use Prim.Native.Nat.{ℕ}
use borrow.Author.Tests.{eq-eqb, ne_eqb}
use lib.IntN.{ℤ, pos}
use lib.ListN.{length, get_or, take, drop, replicate}
use Rattle.lists.specs.Chain.{Verdict, pass, stop, chain}
use Rattle.lists.proofs.Chain.{holds_new}
use Rattle.refusal.specs.Number.{number_of, place_of, said}
use Rattle.refusal.specs.declared.Refusal.{Refusal}
use Rattle.refusal.proofs.Same.{says_same}
use Rattle.intra4.specs.Samples.{mask}
use Rattle.intra4.specs.Choice.{at, nothing, chosen}
use Rattle.block.specs.Block.{coded_levels, coded_samples}
use Rattle.intra4.specs.Entry.{best_in}
use Rattle.block.specs.Entry.{code_tests, Codes}
use Rattle.intra4.specs.declared.Chosen.{Chosen}
use Rattle.printing.specs.Printed.{refused_text, ok_text, outcome_text, text_of}
use Rattle.std.specs.Prelude.{Err, Ok, Result}

module _ (input : List ℕ) where
  pub text_short : (length input ≡ 31 → ⊥) → refused_text 1 0 ≡ text_of input
  unfolding text_of
  text_short h = rw (ne_eqb (length input) 31 h) refl

  abbrev neighbours : List ℕ
  neighbours = take 13 (drop 2 input)

  abbrev block : List ℕ
  block = take 16 (drop 15 input)

  module _ (h : length input ≡ 31) {r : Result Chosen Refusal} {l : List ℤ} {o : List ℕ}
      (p : Codes (get_or input 0 0) (get_or input 1 0) (take 13 (drop 2 input)) (take 16 (drop 15 input)) (replicate 16 (pos 0)) (replicate 16 0) r l o) where
    abbrev tests : Verdict Refusal
    tests = chain (code_tests (get_or input 0 0) (get_or input 1 0) (take 13 (drop 2 input)) (take 16 (drop 15 input)) (replicate 16 (pos 0)) (replicate 16 0))

    abbrev ok : List ℕ
    ok =
        ok_text (chosen (mask neighbours (get_or input 1 0)) block) (coded_levels (get_or input 0 0) (mask neighbours (get_or input 1 0)) block)
        (coded_samples (get_or input 0 0) (mask neighbours (get_or input 1 0)) block)

    whole : outcome_text tests ok ≡ text_of input
    unfolding text_of
    whole = rw (eq-eqb (length input) 31 h) refl

    pub text_refused : {x : Refusal} → r ≡ Err x → refused_text (number_of x) (place_of x) ≡ text_of input
    text_refused {x} e =
        let v : tests ≡ stop x = sym (says_same p.says) ∙ ap said e in
        ap (λ (u : Verdict Refusal). outcome_text u ok) (sym v) ∙ whole

    pub text_coded : {best : Chosen} → r ≡ Ok best → ok_text (at best.mode best.sad) l o ≡ text_of input
    text_coded {best} e =
        let v : tests ≡ pass = sym (says_same p.says) ∙ ap said e in
        let b : at best.mode best.sad ≡ chosen (mask neighbours (get_or input 1 0)) block = sym (ap best_in e) ∙ holds_new nothing v p.best in
        let y : l ≡ coded_levels (get_or input 0 0) (mask neighbours (get_or input 1 0)) block = holds_new (replicate 16 (pos 0)) v p.levels in
        let z : o ≡ coded_samples (get_or input 0 0) (mask neighbours (get_or input 1 0)) block = holds_new (replicate 16 0) v p.rebuilt in
        (λ i. ok_text (b i) (y i) (z i)) ∙ ap (λ (u : Verdict Refusal). outcome_text u ok) (sym v) ∙ whole
