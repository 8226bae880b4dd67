-- The search over the four modes, for both planes.
--     tried_is                    what a permitted mode costs in one plane
--     looked_past                 one mode is not permitted
--     found_permitted, found      what the search leaves, and the choice of its mode's samples
--     same_picks_for_both         a choice has one outcome
-- Assumes nothing.
use mathlib.Core.Path.{◌≡◌, refl, sym, ap, ◌∙◌}
use mathlib.Core.Bool.{true, false}
use mathlib.Core.List.{List}
use Prim.Native.Nat.{ℕ, ◌*◌, ◌≤◌}
use native.Mathlib.Omega.{arith}
use lib.ListN.{length}
use Rattle.choice.specs.declared.inner.Standing.{Standing}
use Rattle.choice.specs.Choice.{is, at, sad}
use Rattle.choice.specs.Code.{standing, looked, Small}
use Rattle.intra4.specs.Samples.{Round}
use Rattle.intra4.specs.Rules.{none, samples_of}
use Rattle.intra4.specs.Choice.{cost_of}
use Rattle.sides.specs.Samples.{mask}
use Rattle.sides.proofs.Found.{cost_is, same_best}
use Rattle.chroma.specs.Rules.{predicted, permitted}
use Rattle.chroma.specs.Choice.{both_costs, chosen_for_both, PicksForBoth}
use Rattle.chroma.proofs.Masked.{predicted_is, none_exactly_if}
use Rattle.chroma.proofs.Least.{mode_for_both_law}

-- ---- one mode

-- t is what the mode has filled, d its SAD
pub tried_is : (l : List ℕ) (f m : ℕ) (block : List ℕ) {t : List ℕ} {d : ℕ} → permitted f m ≡ true → t ≡ samples_of (predicted (mask 8 l f) m) → length t ≡ 64
    → d ≡ sad (length t) t block → d ≤ 255 * length t → (is d ≡ cost_of 8 block (predicted (mask 8 l f) m)) × (d ≤ 16320)
tried_is l f m block p e long s low = (cost_is 8 block (permitted f m) _ (predicted_is l f m) p e long s, omega arith)

module _ (f : ℕ) (l l' cb cr : List ℕ) (m : ℕ) (b : Standing) where
  pub looked_past : permitted f m ≡ false
      → (b ≡ looked m (both_costs (mask 8 l f) (mask 8 l' f) cb cr m) b) × Small (both_costs (mask 8 l f) (mask 8 l' f) cb cr m)
  looked_past p = let e : predicted (mask 8 l f) m ≡ none = (none_exactly_if l f m).1 p in rw e (refl, tt)

-- ---- the choice

module _ (f : ℕ) (l l' cb cr : List ℕ) {b : Standing} (e : b ≡ standing (chosen_for_both (mask 8 l f) (mask 8 l' f) cb cr)) where
  stands : b ≡ standing (at (mode_for_both_law f l l' cb cr).mode (mode_for_both_law f l l' cb cr).sad)
  stands = e ∙ ap standing (mode_for_both_law f l l' cb cr).is

  pub found_permitted : permitted f b.mode ≡ true
  found_permitted = ap (λ (x : Standing). permitted f x.mode) stands ∙ (mode_for_both_law f l l' cb cr).allowed

  pub found : {after after' : List ℕ} → after ≡ samples_of (predicted (mask 8 l f) b.mode) → after' ≡ samples_of (predicted (mask 8 l' f) b.mode)
      → PicksForBoth (mask 8 l f) (mask 8 l' f) cb cr b after after'
  found k k' = record {
    best = ap (λ (x : Standing). at x.mode x.cost) stands ∙ sym (mode_for_both_law f l l' cb cr).is;
    cb_prediction = k;
    cr_prediction = k';
  }

pub same_picks_for_both : {a b a' b' : Round} → a ≡ b → a' ≡ b' → (cb cr : List ℕ) (r r' : Standing) (x y x' y' : List ℕ)
    → PicksForBoth a a' cb cr r x y → PicksForBoth b b' cb cr r' x' y' → (r ≡ r') × (◌≡◌ {A = List ℕ × List ℕ} (x, y) (x', y'))
same_picks_for_both e e' cb cr r r' x y x' y' p q =
    let s = same_best (p.best ∙ (λ i. chosen_for_both (e i) (e' i) cb cr) ∙ sym q.best) in
    let u = p.cb_prediction ∙ (λ i. samples_of (predicted (e i) (s.0 i))) ∙ sym q.cb_prediction in
    let v = p.cr_prediction ∙ (λ i. samples_of (predicted (e' i) (s.0 i))) ∙ sym q.cr_prediction in
    (λ i. record { mode = s.0 i; cost = s.1 i }, λ i. (u i, v i))
