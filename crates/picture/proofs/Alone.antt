-- A slice stands alone: two pictures that are rebuilt alike in one slice have the same samples there, whatever stands in the other slices.
--     Before, alike_sees, alike_more     macroblocks that see none but such ones: one sees the same; one macroblock more
--     alike_before, alike_seen     so of any that two ways of making them make alike
--     slice_seen                   each macroblock of the slice sees the same
--     slice_made                   so it makes the same by what it may see: its record
--     slice_samples                and the slice has the same samples
-- Assumes nothing.
use mathlib.Core.Path.{◌≡◌, refl, sym, ap, subst, ◌∙◌}
use mathlib.Core.Bool.{Bool, true, false}
use mathlib.Core.List.{List}
use Prim.Native.Nat.{ℕ, zero, suc, ◌<◌, ◌≤◌}
use native.Mathlib.Omega.{arith}
use borrow.Author.Tests.{eqb-true, eqb-false}
use lib.Dec.{eqb}
use lib.ListN.{length, get_or}
use Rattle.lists.specs.Fold.{fold}
use Rattle.lists.proofs.Alike.{Agree, agree_less}
use Rattle.picture.specs.declared.Layout.{Layout}
use Rattle.picture.specs.Order.{count_of}
use Rattle.picture.specs.Plane.{plane_length}
use Rattle.picture.specs.Presence.{slice_of, macroblock_present, touches}
use Rattle.picture.proofs.Macroblocks.{SeenFrom, seen_before, slice_is}
use Rattle.picture.proofs.Owner.{macroblock_owning}
use Rattle.picture.proofs.Steps.{MacroblockStep, LooksFrom, macroblock_lt}

-- of such macroblocks the places before macroblock k
abbrev pub Before : (s : ℕ) (l : Layout) (alike : ℕ → Type 0) (k : ℕ) → ℕ → Type 0
Before s l alike k i = (macroblock_owning s l i < k) × alike (macroblock_owning s l i)

-- macroblocks that are made alike; those beside such a one that are present to it are such too
module _ (s : ℕ) (l : Layout) (alike : ℕ → Type 0) (closed : (m k : ℕ) → alike m → macroblock_present l m k ≡ true → touches l m k ≡ true → alike k) where
  pub alike_sees : (k : ℕ) → alike k → (p q : List ℕ) → Agree 0 (plane_length s l) (Before s l alike k) p q → Agree 0 (plane_length s l) (SeenFrom s l k) p q
  alike_sees k is p q a =
      agree_less 0 (plane_length s l) (Before s l alike k) (SeenFrom s l k) (λ i hi w. (seen_before s l k i w, closed k (macroblock_owning s l i) is w.0 w.1)) p q a

  -- two steps that are the same where macroblock k is such a one
  pub alike_more : (k : ℕ) (f g : List ℕ → List ℕ) → MacroblockStep s l k f → MacroblockStep s l k g → (p q : List ℕ) → Agree 0 (plane_length s l) (Before s l alike k) p q
      → (alike k → f q ≡ g q) → Agree 0 (plane_length s l) (Before s l alike (suc k)) (f p) (g q)
  alike_more k f g this that p q a same = record {
    this = this.long p ∙ a.this;
    that = that.long q ∙ a.that;
    agree = λ i hi v. by_case i hi v (eqb (macroblock_owning s l i) k) refl;
  }
    where
      by_case : (i : ℕ) → i < plane_length s l → Before s l alike (suc k) i → (t : Bool) → eqb (macroblock_owning s l i) k ≡ t → get_or (f p) i 0 ≡ get_or (g q) i 0
      by_case i hi v true e =
          let own = eqb-true (macroblock_owning s l i) k e in
          let is : alike k = subst alike own v.1 in
          this.on p q (alike_sees k is p q a) i hi (omega arith, omega arith) ∙ ap (λ (plane : List ℕ). get_or plane i 0) (same is)
      by_case i hi v false e =
          let other = eqb-false (macroblock_owning s l i) k e in
          let earlier : macroblock_owning s l i < k = omega (arith, v.0, other) in
          this.off p i hi (λ b. absurd (omega (arith, b.0))) ∙ a.agree i hi (earlier, v.1) ∙ sym (that.off q i hi (λ b. absurd (omega (arith, b.0))))

  -- two ways of making macroblocks
  module _ (f g : ℕ → List ℕ → List ℕ)
      (this : (m : ℕ) → m < count_of l → MacroblockStep s l m (f m))
      (that : (m : ℕ) → m < count_of l → MacroblockStep s l m (g m))
      (same : (m : ℕ) → m < count_of l → alike m → (plane : List ℕ) → length plane ≡ plane_length s l → f m plane ≡ g m plane)
      (p q : List ℕ) (long-p : length p ≡ plane_length s l) (long-q : length q ≡ plane_length s l)
    where
      pub alike_before : (k : ℕ) → k ≤ count_of l → Agree 0 (plane_length s l) (Before s l alike k) (fold k f p) (fold k g q)
      unfolding fold
      alike_before zero most = record { this = long-p; that = long-q; agree = λ i h v. absurd (omega (arith, v.0)) }
      alike_before (suc k) most =
          let a = alike_before k (omega arith) in
          let h : k < count_of l = omega arith in
          alike_more k (f k) (g k) (this k h) (that k h) (fold k f p) (fold k g q) a (λ is. same k h is (fold k g q) a.that)

      pub alike_seen : (k : ℕ) → k < count_of l → alike k → Agree 0 (plane_length s l) (SeenFrom s l k) (fold k f p) (fold k g q)
      alike_seen k h is = alike_sees k is (fold k f p) (fold k g q) (alike_before k (omega arith))

-- ---- the macroblocks of one slice

module _ (s : ℕ) (small : 0 < s) (l : Layout) (some : 0 < l.width) (slice : ℕ) (f g : ℕ → List ℕ → List ℕ)
    (this : (m : ℕ) → m < count_of l → MacroblockStep s l m (f m))
    (that : (m : ℕ) → m < count_of l → MacroblockStep s l m (g m))
    (same : (m : ℕ) → m < count_of l → slice_of l m ≡ slice → (plane : List ℕ) → length plane ≡ plane_length s l → f m plane ≡ g m plane)
    (p q : List ℕ) (long-p : length p ≡ plane_length s l) (long-q : length q ≡ plane_length s l)
  where
    closed : (m k : ℕ) → slice_of l m ≡ slice → macroblock_present l m k ≡ true → touches l m k ≡ true → slice_of l k ≡ slice
    closed m k e present beside = slice_is l m k present ∙ e

    pub slice_seen : (k : ℕ) → k < count_of l → slice_of l k ≡ slice → Agree 0 (plane_length s l) (SeenFrom s l k) (fold k f p) (fold k g q)
    slice_seen k h e = alike_seen s l (λ m. slice_of l m ≡ slice) closed f g this that same p q long-p long-q k h e

    -- of two ways of making something of the plane before a macroblock, the same for those of the slice
    pub slice_made : {A : Type 0} (made other : ℕ → List ℕ → A) (k : ℕ) → k < count_of l → slice_of l k ≡ slice → LooksFrom s l k (made k)
        → ((plane : List ℕ) → length plane ≡ plane_length s l → made k plane ≡ other k plane) → made k (fold k f p) ≡ other k (fold k g q)
    slice_made made other k h e looks alike =
        let a = slice_seen k h e in
        looks (fold k f p) (fold k g q) a ∙ alike (fold k g q) a.that

    pub slice_samples : (i : ℕ) → i < plane_length s l → slice_of l (macroblock_owning s l i) ≡ slice → get_or (fold (count_of l) f p) i 0 ≡ get_or (fold (count_of l) g q) i 0
    slice_samples i h e =
        (alike_before s l (λ m. slice_of l m ≡ slice) closed f g this that same p q long-p long-q (count_of l) (omega arith)).agree i h (macroblock_lt s small l some i h, e)
