-- The area of all nine predictions, and the search over it.
--     area_is                                        the rows' own flags are those that were lent
--     area_looked, area_passed                       one mode is looked at, or is not permitted
--     length_filled, permitted_cost, cost_is         each of the nine has sixteen samples; a mode that has a cost is permitted; and its cost is this
--     picked                                         what it finds is the choice round the block, and its part of the area the samples
-- Assumes nothing.
use mathlib.Core.Path.{◌≡◌, refl, sym, ap, ap₂, subst, ◌∙◌}
use mathlib.Core.Bool.{Bool, true, false, cond}
use mathlib.Core.List.{List, []}
use Prim.Native.Nat.{ℕ, ◌*◌, ◌<◌, ◌≤◌}
use native.Mathlib.Omega.{arith}
use lib.Dec.{eqb, eqb→eq}
use lib.ListN.{length, get_or}
use Rattle.lists.specs.Tab.{grid, tab}
use Rattle.lists.proofs.Every.{every_at}
use Rattle.lists.proofs.Tab.{get_d_tab}
use Rattle.choice.specs.declared.inner.Standing.{Standing}
use Rattle.choice.specs.Choice.{is, no, at, best_of, sad}
use Rattle.choice.specs.Code.{standing, looked, Small}
use Rattle.choice.proofs.Least.{best_same}
use Rattle.intra4.specs.Samples.{mask}
use Rattle.intra4.specs.Rules.{samples, none, permitted}
use Rattle.intra4.specs.Choice.{cost_of, costs_of, chosen}
use Rattle.intra4.specs.Entry.{Picks}
use Rattle.intra4.specs.Code.{top_row, left_row, filled, area_filled, area_cost}
use Rattle.intra4.proofs.Least.{some_mode, cost_holds}
use Rattle.intra4.proofs.Masked.{predicted_is, filled_is}

-- ---- one mode

module _ (area : List (List ℕ)) (f m : ℕ) (block : List ℕ) (b : Standing) where
  pub area_looked : {d : ℕ} {r : Standing} → permitted f m ≡ true → length (get_or area m []) ≡ 16
      → d ≡ sad (length (get_or area m [])) (get_or area m []) block → d ≤ 255 * length (get_or area m [])
      → r ≡ looked m (is d) b → (r ≡ looked m (area_cost area f block m) b) × Small (area_cost area f block m)
  unfolding area_cost
  area_looked {d} p l q u h =
      let c : d ≡ sad 16 (get_or area m []) block = q ∙ ap (λ (n : ℕ). sad n (get_or area m []) block) l in
      let w : d < 4294967295 = omega arith in
      rw p (h ∙ ap (λ (x : ℕ). looked m (is x) b) c, subst (λ (x : ℕ). x < 4294967295) c w)

module _ (area : List (List ℕ)) (f m : ℕ) (block : List ℕ) where
  pub area_passed : permitted f m ≡ false → area_cost area f block m ≡ no
  unfolding area_cost
  area_passed p = rw p

-- ---- the whole search

pub length_filled : (t s : List ℕ) (f k : ℕ) → k < 9 → length (filled t s f k) ≡ 16
unfolding filled grid tab
length_filled t s f k h = eqb→eq _ _ (every_at 9 (λ i. eqb (length (filled t s f i)) 16) tt k h)

area_at : (t s : List ℕ) (f m : ℕ) → m < 9 → get_or (area_filled t s f) m [] ≡ filled t s f m
area_at t s f m h = get_d_tab 9 (filled t s f) m [] h

pub area_is : (t s : List ℕ) {area : List (List ℕ)} {f g : ℕ} → area ≡ area_filled t s f → f ≡ g → area ≡ area_filled t s g
area_is t s a e = a ∙ ap (λ (f : ℕ). area_filled t s f) e

cond_cost : (b : Bool) (block l : List ℕ) → cond b (is (sad 16 l block)) no ≡ cost_of 4 block (cond b (samples l) none)
cond_cost true block l = refl
cond_cost false block l = refl

module _ (n : List ℕ) (f : ℕ) (block : List ℕ) (e : length n ≡ 13) where
  area_costs : (m : ℕ) → m < 9 → area_cost (area_filled (top_row n f) (left_row n) f) f block m ≡ costs_of (mask n f) block m
  unfolding area_cost
  area_costs m h =
      ap (λ (l : List ℕ). cond (permitted f m) (is (sad 16 l block)) no) (area_at (top_row n f) (left_row n) f m h)
      ∙ cond_cost (permitted f m) block (filled (top_row n f) (left_row n) f m)
      ∙ ap (cost_of 4 block) (sym (predicted_is n f m e))

  stands : {t s : List ℕ} {area : List (List ℕ)} {b : Standing} → t ≡ top_row n f → s ≡ left_row n → area ≡ area_filled t s f → b ≡ standing (best_of 9 (area_cost area f block))
      → b ≡ standing (chosen (mask n f) block)
  unfolding chosen
  stands {t} {s} {area} {b} p q a h =
      let w : area ≡ area_filled (top_row n f) (left_row n) f = a ∙ ap₂ (λ (t s : List ℕ). area_filled t s f) p q in
      h
      ∙ ap (λ (g : List (List ℕ)). standing (best_of 9 (area_cost g f block))) w
      ∙ ap standing (best_same 9 (area_cost (area_filled (top_row n f) (left_row n) f) f block) (costs_of (mask n f) block) area_costs)

  pub permitted_cost : (m s : ℕ) → costs_of (mask n f) block m ≡ is s → permitted f m ≡ true
  permitted_cost m s c = cost_holds 4 block (permitted f m) _ (predicted_is n f m e) c

  pub cost_is : {t s : List ℕ} → t ≡ top_row n f → s ≡ left_row n → (m : ℕ) → permitted f m ≡ true → costs_of (mask n f) block m ≡ is (sad 16 (filled t s f m) block)
  cost_is {t} {s} p q m a =
      ap (cost_of 4 block) (predicted_is n f m e)
      ∙ sym (cond_cost (permitted f m) block (filled (top_row n f) (left_row n) f m))
      ∙ rw a (λ i. is (sad 16 (filled (sym p i) (sym q i) f m) block))

  module _ {t s : List ℕ} {area : List (List ℕ)} {b : Standing} (p : t ≡ top_row n f) (q : s ≡ left_row n) (a : area ≡ area_filled t s f) (h : b ≡ standing (best_of 9 (area_cost area f block))) where
    pub picked_mode : b.mode < 9
    picked_mode =
        let w = some_mode (mask n f) block in
        subst (λ (m : ℕ). m < 9) (sym (ap (λ (x : Standing). x.mode) (stands p q a h ∙ ap standing w.2))) w.3.within

    pub picked : {l : List ℕ} → l ≡ get_or area b.mode [] → Picks (mask n f) block (record { mode = b.mode; sad = b.cost; prediction = l })
    picked {l} k =
        let w = some_mode (mask n f) block in
        let z : b ≡ standing (at w.0 w.1) = stands p q a h ∙ ap standing w.2 in
        let y : at b.mode b.cost ≡ at w.0 w.1 = ap (λ (x : Standing). at x.mode x.cost) z in
        let c : costs_of (mask n f) block b.mode ≡ is w.1 = ap (λ (x : Standing). costs_of (mask n f) block x.mode) z ∙ w.3.costs in
        record {
          best = y ∙ sym w.2;
          prediction =
              filled_is n f b.mode e (permitted_cost b.mode w.1 c) p q
              (k ∙ ap (λ (g : List (List ℕ)). get_or g b.mode []) a ∙ area_at t s f b.mode picked_mode);
        }
