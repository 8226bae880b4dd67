-- The search over the four modes.
--     cost_is                     what is tried costs what the prediction costs; over n
--     looked_past                 one mode is not permitted
--     found_permitted, found      what the search leaves, and the choice of its mode's samples
--     same_best, same_picks       a choice has one outcome
-- Assumes nothing.
use mathlib.Core.Path.{◌≡◌, refl, sym, ap, ◌∙◌}
use mathlib.Core.Bool.{Bool, true, false, cond}
use mathlib.Core.List.{List}
use Prim.Native.Nat.{ℕ, ◌*◌}
use lib.ListN.{length}
use Rattle.choice.specs.declared.inner.Standing.{Standing}
use Rattle.choice.specs.Choice.{is, at, sad}
use Rattle.choice.specs.Code.{standing, looked, Small}
use Rattle.intra4.specs.Samples.{Round}
use Rattle.intra4.specs.Rules.{Predicted, samples, none, samples_of}
use Rattle.intra4.specs.Choice.{cost_of}
use Rattle.intra4.proofs.Masked.{samples_by}
use Rattle.sides.specs.Samples.{mask}
use Rattle.sides.specs.Rules.{predicted, permitted}
use Rattle.sides.specs.Choice.{costs_of, chosen, Picks}
use Rattle.sides.proofs.Masked.{none_exactly_if}
use Rattle.sides.proofs.Least.{chosen_mode}

-- ---- one mode

-- t are the samples of a prediction that stands by a condition, d their SAD: what the prediction costs; over n
pub cost_is : (n : ℕ) (block : List ℕ) (c : Bool) (l : List ℕ) {p : Predicted} {t : List ℕ} {d : ℕ} → p ≡ cond c (samples l) none → c ≡ true
    → t ≡ samples_of p → length t ≡ n * n → d ≡ sad (length t) t block → is d ≡ cost_of n block p
cost_is n block c l {p} {t} e h k long s =
    ap is (s ∙ ap (λ (j : ℕ). sad j t block) long ∙ ap (λ (u : List ℕ). sad (n * n) u block) (k ∙ sym (samples_by c l e h)))
    ∙ sym (ap (cost_of n block) e ∙ rw h)

module _ (l : List ℕ) (f m : ℕ) (block : List ℕ) (b : Standing) where
  pub looked_past : permitted f m ≡ false → (b ≡ looked m (costs_of (mask 16 l f) block m) b) × Small (costs_of (mask 16 l f) block m)
  looked_past p = let e : predicted (mask 16 l f) m ≡ none = (none_exactly_if l f m).1 p in rw e (refl, tt)

-- ---- the choice

module _ (l : List ℕ) (f : ℕ) (block : List ℕ) {b : Standing} (e : b ≡ standing (chosen (mask 16 l f) block)) where
  stands : b ≡ standing (at (chosen_mode l f block).mode (chosen_mode l f block).sad)
  stands = e ∙ ap standing (chosen_mode l f block).is

  pub found_permitted : permitted f b.mode ≡ true
  found_permitted = ap (λ (x : Standing). permitted f x.mode) stands ∙ (chosen_mode l f block).allowed

  pub found : {after : List ℕ} → after ≡ samples_of (predicted (mask 16 l f) b.mode) → Picks (mask 16 l f) block b after
  found k = record { best = ap (λ (x : Standing). at x.mode x.cost) stands ∙ sym (chosen_mode l f block).is; prediction = k }

-- a best is one thing
pub same_best : {m s m' s' : ℕ} → at m s ≡ at m' s' → (m ≡ m') × (s ≡ s')
same_best e = (cc, cc)

pub same_picks : {a b : Round} → a ≡ b → (block : List ℕ) (r r' : Standing) (after after' : List ℕ)
    → Picks a block r after → Picks b block r' after' → (r ≡ r') × (after ≡ after')
same_picks e block r r' after after' p q =
    let s = same_best (p.best ∙ ap (λ (x : Round). chosen x block) e ∙ sym q.best) in (
      λ i. record { mode = s.0 i; cost = s.1 i },
      p.prediction ∙ (λ i. samples_of (predicted (e i) (s.0 i))) ∙ sym q.prediction,
    )
