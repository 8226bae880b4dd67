-- Faults, and the record that they are in.
--     early_there                 a fault that is no late one asks nothing of the record
--     all_of, all_of_law               tests whose refusals are all of a kind: so is what they come to
--     all_behind, all_parts, all_more     tests behind tests; parts of tests; of a kind that is part of another
--     content_apart               a refusal of content does not say that the file is broken
-- Assumes nothing.
use mathlib.Core.Path.{◌≡◌, refl, sym, ap, ◌∙◌}
use mathlib.Core.Bool.{Bool, true, false, cond}
use mathlib.Core.List.{List, [], ◌∷◌, ◌++◌}
use mathlib.Core.Logic.{inl, inr}
use Prim.Native.Nat.{ℕ, zero, suc}
use native.Mathlib.Omega.{arith}
use Rattle.lists.specs.Chain.{Test, stop, chain, RefusedWith}
use Rattle.lists.specs.Parts.{parts}
use Rattle.lists.proofs.Chain.{chain_exactly_if}
use Rattle.refusal.specs.Faults.{late, AllThere, is_broken, is_content}
use Rattle.refusal.specs.declared.Fault.{Fault}
use Rattle.refusal.specs.declared.Refusal.{Refusal}
use Rattle.refusal.specs.declared.Refusal.TheVariants as refusal

pub false_not_true : false ≡ true → ⊥
false_not_true e = let z : ◌≡◌ {A = ℕ} 0 1 = cc in omega arith

pub early_there : (fault : Fault) (place long total : ℕ) → late fault ≡ false → AllThere fault place long total
early_there fault place long total e = record { some = λ h. absurd (false_not_true (sym e ∙ h)); inside = λ h. absurd (false_not_true (sym e ∙ h)) }

-- every refusal of these tests is of a kind
abbrev pub all_of : (Refusal → Bool) → List (Test Refusal) → Bool
all_of kind [] = true
all_of kind (t ∷ ts) = cond (kind t.refusal) (all_of kind ts) false

module _ (kind : Refusal → Bool) where
  all_refused : (r : Refusal) (ts : List (Test Refusal)) → all_of kind ts ≡ true → RefusedWith ts r → kind r ≡ true
  all_refused r [] all h = absurd h
  all_refused r (t ∷ ts) all h = by (kind t.refusal) refl all h (all_refused r ts)
    where
      by : (b : Bool) → kind t.refusal ≡ b → cond b (all_of kind ts) false ≡ true → RefusedWith (t ∷ ts) r → (all_of kind ts ≡ true → RefusedWith ts r → kind r ≡ true) → kind r ≡ true
      by true e n (inl (a, q)) later = ap kind q ∙ e
      by true e n (inr (a, x)) later = later n x
      by false e n x later = absurd (false_not_true n)

  pub all_of_law : (r : Refusal) (ts : List (Test Refusal)) → all_of kind ts ≡ true → chain ts ≡ stop r → kind r ≡ true
  all_of_law r ts all e = all_refused r ts all (((chain_exactly_if ts).refuses r).0 e)

  pub all_behind : (ts us : List (Test Refusal)) → all_of kind ts ≡ true → all_of kind us ≡ true → all_of kind (ts ++ us) ≡ true
  all_behind [] us first rest = rest
  all_behind (t ∷ ts) us first rest = by (kind t.refusal) first (all_behind ts us)
    where
      by : (b : Bool) → cond b (all_of kind ts) false ≡ true → (all_of kind ts ≡ true → all_of kind us ≡ true → all_of kind (ts ++ us) ≡ true) → cond b (all_of kind (ts ++ us)) false ≡ true
      by true e later = later e rest
      by false e later = e

  pub all_parts : (f : ℕ → List (Test Refusal)) → ((k : ℕ) → all_of kind (f k) ≡ true) → (n : ℕ) → all_of kind (parts n f) ≡ true
  unfolding parts
  all_parts f each zero = refl
  all_parts f each (suc n) = all_behind (parts n f) (f n) (all_parts f each n) (each n)

  -- of a kind that is part of another
  pub all_more : (more : Refusal → Bool) → ((r : Refusal) → kind r ≡ true → more r ≡ true) → (ts : List (Test Refusal)) → all_of kind ts ≡ true → all_of more ts ≡ true
  all_more more part [] all = all
  all_more more part (t ∷ ts) all = by (kind t.refusal) refl all (all_more more part ts)
    where
      by : (b : Bool) → kind t.refusal ≡ b → cond b (all_of kind ts) false ≡ true → (all_of kind ts ≡ true → all_of more ts ≡ true) → all_of more (t ∷ ts) ≡ true
      by true e n later = rw (part t.refusal e) (later n)
      by false e n later = absurd (false_not_true n)

-- a refusal of content does not say that the file is broken
pub content_apart : (r : Refusal) → is_broken r ≡ true → is_content r ≡ true → ⊥
content_apart refusal.Length broken content = false_not_true broken
content_apart refusal.Size broken content = false_not_true broken
content_apart (refusal.Flags k) broken content = false_not_true broken
content_apart (refusal.Quantizer k) broken content = false_not_true broken
content_apart (refusal.Mode k) broken content = false_not_true broken
content_apart (refusal.Residual k) broken content = false_not_true broken
content_apart (refusal.Level k) broken content = false_not_true broken
content_apart (refusal.Range k) broken content = false_not_true broken
content_apart (refusal.Form k) broken content = false_not_true content
content_apart (refusal.Mark k) broken content = false_not_true content
content_apart (refusal.Number k) broken content = false_not_true content
content_apart (refusal.Sum k) broken content = false_not_true content
content_apart (refusal.Differs k) broken content = false_not_true broken
