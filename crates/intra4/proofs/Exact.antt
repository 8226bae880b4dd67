-- A mode whose samples are the block's own: what the code's test of it comes to, and that it is the choice.
--     differs, fits_by   one sample differs, or the SAD says it
--     vertical_fits, vertical_fails, horizontal_fits     so the mode is permitted and the block's own, or vertical prediction is not
--     vertical_picked, horizontal_picked     it is picked, where no lower mode fits so
-- Assumes nothing.
use mathlib.Core.Path.{◌≡◌, refl, sym, ap, subst, ◌∙◌}
use mathlib.Core.Bool.{Bool, true, false, false≢true}
use mathlib.Core.List.{List}
use mathlib.Core.Logic.{◌↔◌}
use Prim.Native.Nat.{ℕ, ◌+◌, ◌*◌, ◌<◌}
use native.Mathlib.Nat.{not-suc-le-zero}
use native.Mathlib.Omega.{arith}
use borrow.Author.Tests.{eqb-true, eq-eqb}
use lib.Dec.{eqb}
use lib.ListN.{length, get_or}
use Rattle.lists.specs.Tab.{grid}
use Rattle.lists.proofs.Tab.{get_d_grid}
use Rattle.choice.specs.Choice.{is, sad}
use Rattle.choice.proofs.Least.{zero_best, same}
use Rattle.choice.proofs.Sad.{sad_zero, sad_self}
use Rattle.intra4.specs.Samples.{mask, bit_of}
use Rattle.intra4.specs.Rules.{permitted, vertical, horizontal}
use Rattle.intra4.specs.Choice.{costs_of, chosen}
use Rattle.intra4.specs.Entry.{Picks}
use Rattle.intra4.specs.Code.{top_row, left_row, past_corner, filled}
use Rattle.intra4.proofs.Area.{length_filled, permitted_cost, cost_is}
use Rattle.intra4.proofs.Masked.{filled_is, mode_below_9}

-- a mode is permitted, and its samples are the block's own
abbrev pub Exact : (t s : List ℕ) → (f m : ℕ) → (block : List ℕ) → Type 0
Exact t s f m block = (permitted f m ≡ true) × (filled t s f m ≡ block)

-- what a rule gives, and the block
module _ (g : ℕ → ℕ → ℕ) (block : List ℕ) where
  pub differs : (x y : ℕ) {v : ℕ} → x < 4 → y < 4 → v ≡ g x y → (v ≡ get_or block (4 * y + x) 0 → ⊥) → (false ≡ true) ↔ (grid 4 g ≡ block)
  differs x y h k e n =
      (λ z. absurd (false≢true z), λ q. absurd (n (e ∙ sym (get_d_grid 4 g x y 0 h k) ∙ ap (λ (l : List ℕ). get_or l (4 * y + x) 0) q)))

  pub fits_by : {l : List ℕ} {d : ℕ} → length block ≡ 16 → length l ≡ 16 → l ≡ grid 4 g → d ≡ sad (length l) l block → (eqb d 0 ≡ true) ↔ (grid 4 g ≡ block)
  fits_by {l} {d} long n e q =
      let c : d ≡ sad 16 l block = q ∙ ap (λ (k : ℕ). sad k l block) n in (
        λ z. sym e ∙ sad_zero 16 l block n long (sym c ∙ eqb-true d 0 z),
        λ x. eq-eqb d 0 (c ∙ ap (λ (k : List ℕ). sad 16 k block) (e ∙ x) ∙ sad_self 16 block),
      )

-- what the code finds of vertical prediction, and of horizontal prediction where that is not it
module _ (t s : List ℕ) (f : ℕ) (block : List ℕ) where
  pub vertical_fits : bit_of f 0 ≡ true → grid 4 (vertical (past_corner t)) ≡ block → (true ≡ true) ↔ Exact t s f 0 block
  unfolding permitted filled
  vertical_fits a x = (λ z. (a, x), λ e. refl)

  pub vertical_fails : (bit_of f 0 ≡ true → grid 4 (vertical (past_corner t)) ≡ block → ⊥) → (false ≡ true) ↔ Exact t s f 0 block
  unfolding permitted filled
  vertical_fails h = (λ z. absurd (false≢true z), λ e. absurd (h e.0 e.1))

  pub horizontal_fits : bit_of f 1 ≡ true → grid 4 (horizontal (past_corner s)) ≡ block → (true ≡ true) ↔ Exact t s f 1 block
  unfolding permitted filled
  horizontal_fits a x = (λ z. (a, x), λ e. refl)

-- round a block of thirteen neighbours
module _ (n : List ℕ) (f : ℕ) (block : List ℕ) (e : length n ≡ 13) (long : length block ≡ 16) {t s : List ℕ} (p : t ≡ top_row n f) (q : s ≡ left_row n) where
  exact_cost : (m : ℕ) → Exact t s f m block → costs_of (mask n f) block m ≡ is 0
  exact_cost m x = cost_is n f block e p q m x.0 ∙ ap is (ap (λ (l : List ℕ). sad 16 l block) x.1 ∙ sad_self 16 block)

  cost_exact : (m : ℕ) → costs_of (mask n f) block m ≡ is 0 → Exact t s f m block
  cost_exact m c =
      let a = permitted_cost n f block e m 0 c in
      (a, sad_zero 16 (filled t s f m) block (length_filled t s f m (mode_below_9 f m a)) long (same (cost_is n f block e p q m a) c))

  exact_picked : (m : ℕ) → Exact t s f m block → ((j : ℕ) → j < m → Exact t s f j block → ⊥) → {l : List ℕ} → l ≡ block
      → Picks (mask n f) block (record { mode = m; sad = 0; prediction = l })
  unfolding chosen
  exact_picked m x lower w = record {
    best = sym (zero_best 9 (costs_of (mask n f) block) m (mode_below_9 f m x.0) (exact_cost m x) (λ j h c. lower j h (cost_exact j c)));
    prediction = filled_is n f m e x.0 p q (w ∙ sym x.1);
  }

  -- by what the code has found of vertical prediction, and of horizontal prediction where that is not it
  module _ {v : Bool} (found : (v ≡ true) ↔ Exact t s f 0 block) where
    pub vertical_picked : v ≡ true → {l : List ℕ} → l ≡ block → Picks (mask n f) block (record { mode = 0; sad = 0; prediction = l })
    vertical_picked h w = exact_picked 0 (found.0 h) (λ j k. absurd (not-suc-le-zero k)) w

    pub horizontal_picked : v ≡ false → {z : Bool} → (z ≡ true) ↔ Exact t s f 1 block → z ≡ true → {l : List ℕ} → l ≡ block
        → Picks (mask n f) block (record { mode = 1; sad = 0; prediction = l })
    horizontal_picked amiss found-too h w = exact_picked 1 (found-too.0 h) (λ j k x. lower j (omega arith) x) w
      where
        lower : (j : ℕ) → j ≡ 0 → Exact t s f j block → ⊥
        lower j z x = false≢true (sym amiss ∙ found.1 (subst (λ (i : ℕ). Exact t s f i block) z x))
