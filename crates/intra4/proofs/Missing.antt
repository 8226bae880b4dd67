-- A missing sample has no value: neighbours that agree wherever the flags say that a sample is present give the same outcome.
--     missing_has_no_value            of a prediction: answer and samples
--     missing_has_no_value_choice     of a choice: answer, mode, SAD and samples
--     same_mask, same_masked          since everything below the mask is the same
--     same_side                       a side that holds the same where it is present
-- Assumes nothing.
use mathlib.Core.Path.{◌≡◌, refl, sym, ap, ap₂, ◌∙◌}
use mathlib.Core.Bool.{Bool, true, false}
use mathlib.Core.List.{List, ◌++◌}
use Prim.Native.Nat.{ℕ}
use lib.ListN.{get_or, replicate}
use Rattle.refusal.proofs.Same.{says_same, same_answer}
use Rattle.intra4.specs.declared.Chosen.{Chosen}
use Rattle.intra4.specs.Samples.{above_of, upper_right_of, bit_of, side_if, eight_of, masked, mask, AgreeWherePresent}
use Rattle.intra4.specs.Entry.{Predicts, Chooses}
use Rattle.intra4.proofs.Outcome.{same_chosen}
use Rattle.std.specs.Prelude.{Result}
use Rattle.refusal.specs.declared.Refusal.{Refusal}

pub same_side : (b : Bool) (l l' : List ℕ) → (b ≡ true → l ≡ l') → side_if b l ≡ side_if b l'
same_side true l l' h = ap (side_if true) (h refl)
same_side false l l' h = refl

same_eight : (b : Bool) (n n' : List ℕ) → above_of n ≡ above_of n' → (b ≡ true → upper_right_of n ≡ upper_right_of n') → eight_of n b ≡ eight_of n' b
same_eight true n n' a h = ap₂ (λ (a r : List ℕ). a ++ r) a (h refl)
same_eight false n n' a h = ap (λ (a : List ℕ). a ++ replicate 4 (get_or a 3 0)) a

pub same_masked : (f : ℕ) {a a' l l' c c' : List ℕ} → (bit_of f 0 ≡ true → a ≡ a') → (bit_of f 1 ≡ true → l ≡ l') → (bit_of f 2 ≡ true → c ≡ c')
    → masked a l c f ≡ masked a' l' c' f
same_masked f {a} {a'} {l} {l'} {c} {c'} above left corner =
    λ i. record {
      above = same_side (bit_of f 0) a a' above i;
      left = same_side (bit_of f 1) l l' left i;
      corner = same_side (bit_of f 2) c c' corner i;
    }

pub same_mask : (f : ℕ) (n n' : List ℕ) → AgreeWherePresent f n n' → mask n f ≡ mask n' f
same_mask f n n' g = same_masked f (λ b. same_eight (bit_of f 3) n n' (g.above b) (g.upper_right b)) g.left g.corner

pub missing_has_no_value : (f m : ℕ) (n n' before : List ℕ) → AgreeWherePresent f n n'
    → (r r' : Result (Unit {0}) Refusal) (after after' : List ℕ) → Predicts n f m before r after → Predicts n' f m before r' after' → (r ≡ r') × (after ≡ after')
missing_has_no_value f m n n' before g r r' after after' p q =
    let l = g.long in
    let k = same_mask f n n' g in (
      same_answer r r' (says_same p.says ∙ rw l (sym (says_same q.says))),
      p.wrote ∙ rw (l, k) (sym q.wrote),
    )

pub missing_has_no_value_choice : (f : ℕ) (n n' samples before : List ℕ) → AgreeWherePresent f n n'
    → (r r' : Result Chosen Refusal) (after after' : List ℕ) → Chooses n f samples before r after → Chooses n' f samples before r' after' → (r ≡ r') × (after ≡ after')
missing_has_no_value_choice f n n' samples before g r r' after after' p q =
    let l = g.long in
    let k = same_mask f n n' g in (
      same_chosen r r' (says_same p.says ∙ rw l (sym (says_same q.says))) (p.best ∙ rw (l, k) (sym q.best)),
      p.wrote ∙ rw (l, k) (sym q.wrote),
    )
