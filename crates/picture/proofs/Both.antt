-- Two planes that are rebuilt together, macroblock after macroblock, each by a step that goes by one mode of both.
--     AgreeBoth, LooksBoth     two such pairs agree where macroblock m may see; what is made of both looks only there
--     own_along, other_along   with the modes that a run has come to, each plane goes its own way, also from other planes
--     both_start_has_no_value, both_made_start_has_no_value     what stood in the planes at the start changes no sample, and no record
-- Assumes nothing.
use mathlib.Core.Path.{◌≡◌, refl, sym, ap, ◌∙◌}
use mathlib.Core.List.{List}
use Prim.Native.Nat.{ℕ, zero, suc, ◌<◌, ◌≤◌}
use native.Mathlib.Omega.{arith}
use lib.ListN.{length}
use Rattle.lists.specs.Fold.{fold}
use Rattle.lists.proofs.Alike.{Agree}
use Rattle.picture.specs.declared.Layout.{Layout}
use Rattle.picture.specs.Both.{Both, both_step}
use Rattle.picture.specs.Order.{count_of}
use Rattle.picture.specs.Plane.{plane_length}
use Rattle.picture.proofs.Macroblocks.{SeenFrom}
use Rattle.picture.proofs.Steps.{MacroblockStep, steps_agree, picture_start_has_no_value}

-- both planes agree where macroblock m may see
pub record AgreeBoth (s : ℕ) (l : Layout) (m : ℕ) (b c : Both) : Type 0 where
  pub cbs : Agree 0 (plane_length s l) (SeenFrom s l m) b.cb c.cb
  pub crs : Agree 0 (plane_length s l) (SeenFrom s l m) b.cr c.cr

-- what is made of both looks only there
abbrev pub LooksBoth : (s : ℕ) → Layout → (m : ℕ) → {B : Type 0} → (Both → B) → Type 0
LooksBoth s l m v = (b c : Both) → AgreeBoth s l m b c → v b ≡ v c

-- both planes are of the picture's length
pub record LongBoth (s : ℕ) (l : Layout) (b : Both) : Type 0 where
  pub cbs : length b.cb ≡ plane_length s l
  pub crs : length b.cr ≡ plane_length s l

module _ (s : ℕ) (small : 0 < s) (l : Layout) (some : 0 < l.width) (mode : ℕ → Both → ℕ) (f g : (mode m : ℕ) → List ℕ → List ℕ)
    (f-steps : (mode m : ℕ) → m < count_of l → MacroblockStep s l m (f mode m)) (g-steps : (mode m : ℕ) → m < count_of l → MacroblockStep s l m (g mode m))
    (looks : (m : ℕ) → m < count_of l → LooksBoth s l m (mode m))
  where
    -- the planes before macroblock m
    abbrev ran : Both → ℕ → Both
    ran b m = fold m (both_step mode f g) b

    module _ (b : Both) (long : LongBoth s l b) where
      -- the modes that the run from b comes to; with these each plane has steps of its own
      abbrev cb_along : ℕ → List ℕ → List ℕ
      cb_along m = f (mode m (ran b m)) m

      abbrev cr_along : ℕ → List ℕ → List ℕ
      cr_along m = g (mode m (ran b m)) m

      -- a run goes the way of b's modes
      record Along (c : Both) (n : ℕ) : Type 0 where
        cbs : (ran c n).cb ≡ fold n cb_along c.cb
        crs : (ran c n).cr ≡ fold n cr_along c.cr

      own_along : (n : ℕ) → Along b n
      unfolding fold
      own_along zero = record { cbs = refl; crs = refl }
      own_along (suc n) = let h = own_along n in record { cbs = ap (cb_along n) h.cbs; crs = ap (cr_along n) h.crs }

      -- so does that from any other planes, as macroblock n sees the same
      agree_along : (c : Both) → LongBoth s l c → (n : ℕ) → n ≤ count_of l → Along c n → AgreeBoth s l n (ran b n) (ran c n)
      agree_along c other n most h =
          let o = own_along n in
          record {
            cbs = rw (o.cbs, h.cbs) (steps_agree s small l some cb_along (λ m k. f-steps (mode m (ran b m)) m k) n most b.cb c.cb long.cbs other.cbs);
            crs = rw (o.crs, h.crs) (steps_agree s small l some cr_along (λ m k. g-steps (mode m (ran b m)) m k) n most b.cr c.cr long.crs other.crs);
          }

      other_along : (c : Both) → LongBoth s l c → (n : ℕ) → n ≤ count_of l → Along c n
      unfolding fold
      other_along c other zero most = record { cbs = refl; crs = refl }
      other_along c other (suc n) most =
          let h = other_along c other n (omega arith) in
          let e : mode n (ran c n) ≡ mode n (ran b n) = sym (looks n (omega arith) (ran b n) (ran c n) (agree_along c other n (omega arith) h)) in
          record {
            cbs = (λ i. f (e i) n (h.cbs i));
            crs = (λ i. g (e i) n (h.crs i));
          }

      module _ (c : Both) (other : LongBoth s l c) where
        pub both_start_has_no_value : ran b (count_of l) ≡ ran c (count_of l)
        both_start_has_no_value =
            let o = own_along (count_of l) in
            let h = other_along c other (count_of l) (omega arith) in
            let x = o.cbs ∙ picture_start_has_no_value s small l some cb_along (λ m k. f-steps (mode m (ran b m)) m k) b.cb c.cb long.cbs other.cbs ∙ sym h.cbs in
            let y = o.crs ∙ picture_start_has_no_value s small l some cr_along (λ m k. g-steps (mode m (ran b m)) m k) b.cr c.cr long.crs other.crs ∙ sym h.crs in
            λ i. record { cb = x i; cr = y i }

        pub both_made_start_has_no_value : {B : Type 0} (made : ℕ → Both → B) → ((m : ℕ) → m < count_of l → LooksBoth s l m (made m))
            → (m : ℕ) → m < count_of l → made m (ran b m) ≡ made m (ran c m)
        both_made_start_has_no_value made sees m h =
            sees m h (ran b m) (ran c m) (agree_along c other m (omega arith) (other_along c other m (omega arith)))
