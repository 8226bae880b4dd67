-- What holds at every place of lists holds at every place of what is put together of them. Past the end `get_or` gives a default, of which it
-- must hold too, so no length is asked.
--     append_places, tab_places, parts_places
-- Assumes nothing.
use mathlib.Core.List.{List, [], ◌∷◌, ◌++◌}
use Prim.Native.Nat.{ℕ, zero, suc, ◌<◌}
use native.Mathlib.Omega.{arith}
use lib.ListN.{get_or}
use Rattle.lists.specs.Parts.{parts}
use Rattle.lists.specs.Tab.{tab}

module _ {A : Type 0} (P : A → Type 0) (d : A) where
  -- at every place of the list
  abbrev pub Everywhere : List A → Type 0
  Everywhere l = (k : ℕ) → P (get_or l k d)

  pub append_places : (l r : List A) → Everywhere l → Everywhere r → Everywhere (l ++ r)
  append_places [] r f g k = g k
  append_places (a ∷ l) r f g zero = f zero
  append_places (a ∷ l) r f g (suc k) = append_places l r (λ i. f (suc i)) g k

  one_place : P d → (a : A) → P a → Everywhere (a ∷ [])
  one_place e a h zero = h
  one_place e a h (suc k) = e

  module _ (outside : P d) where
    pub tab_places : (n : ℕ) (f : ℕ → A) → ((k : ℕ) → k < n → P (f k)) → Everywhere (tab n f)
    unfolding tab
    tab_places zero f h k = outside
    tab_places (suc n) f h k =
        append_places (tab n f) (f n ∷ []) (tab_places n f (λ i l. h i (omega arith))) (one_place outside (f n) (h n (omega arith))) k

    pub parts_places : (n : ℕ) (f : ℕ → List A) → ((k : ℕ) → k < n → Everywhere (f k)) → Everywhere (parts n f)
    unfolding parts
    parts_places zero f h k = outside
    parts_places (suc n) f h k = append_places (parts n f) (f n) (parts_places n f (λ i l. h i (omega arith))) (h n (omega arith)) k
