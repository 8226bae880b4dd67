-- Laws of a list that is filled by two stores a turn.
--     Pairing: pairing_none, pairing_more, pairing_done   a loop over k that stores f k at 2 * k and g k behind it
-- Assumes nothing.
use mathlib.Core.Path.{◌≡◌, ◌∙◌}
use mathlib.Core.List.{List, [], ◌∷◌, ◌++◌, append_assoc}
use Prim.Native.Nat.{ℕ, ◌+◌, ◌*◌, ◌<◌, ◌≤◌, zero-le}
use native.Mathlib.Numerals.{add-one}
use native.Mathlib.Omega.{arith}
use lib.ListN.{length, set, length-set}
use Rattle.lists.specs.Pairs.{pairs}
use Rattle.lists.proofs.Parts.{Growing, growing_none, growing_more, growing_done}

module _ {A : Type 0} (f g : ℕ → A) where
  pub record Pairing (n : ℕ) (d : List A) (k : ℕ) : Type 0 where
    pub below : k ≤ n
    pub long : length d ≡ 2 * n
    pub grown : Growing d (pairs k f g) (2 * k)

  pub pairing_none : (n : ℕ) {d : List A} → length d ≡ 2 * n → Pairing n d 0
  unfolding pairs
  pairing_none n {d} e = record { below = zero-le; long = e; grown = growing_none d }

  pub pairing_more : (n : ℕ) {d : List A} {k : ℕ} {u v : A} → Pairing n d k → k < n → u ≡ f k → v ≡ g k
      → Pairing n (set (set d (2 * k) u) (2 * k + 1) v) (k + 1)
  unfolding pairs
  pairing_more n {d} {k} {u} {v} h l p q =
      let a = growing_more u h.grown (omega (arith, h.long)) in
      let b = growing_more v a (simp length-set (omega (arith, h.long))) in
      let z : 2 * (k + 1) ≡ 2 * k + 1 + 1 = omega arith in
      record {
        below = omega arith;
        long = length-set (set d (2 * k) u) (2 * k + 1) v ∙ length-set d (2 * k) u ∙ h.long;
        grown = rw z (record { room = b.room; is = b.is ∙ rw (add-one, p, q) (append_assoc (pairs k f g) (f k ∷ []) (g k ∷ [])) });
      }

  pub pairing_done : (n : ℕ) {d : List A} {k : ℕ} → Pairing n d k → n ≤ k → d ≡ pairs n f g
  pairing_done n {d} {k} h l =
      let q : k ≡ n = omega (arith, h.below) in
      growing_done h.grown (omega (arith, h.long)) ∙ rw q
