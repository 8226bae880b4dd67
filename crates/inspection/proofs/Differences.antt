-- The samples of two planes, macroblock after macroblock.
--     like_before          planes of which no place below 256 m differs agree in all macroblocks before m
--     all_like             planes of which none does are the same
--     differing_none       a plane does not differ from itself
--     differing_at, differing_tells     the first place that differs: this one does, none before
--     differing_more, differing_here, differing_done     a scan over macroblocks: none of macroblock m's samples differ, or this one is the first
--                                                        that does; and what is sent back then, or behind the last macroblock
-- Assumes nothing.
use mathlib.Core.Path.{◌≡◌, refl, sym, ap, ◌∙◌}
use mathlib.Core.Bool.{Bool, true, false, not}
use mathlib.Core.List.{List, [], ◌∷◌}
use Prim.Native.Nat.{ℕ, ◌+◌, ◌*◌, ◌-◌, ◌/◌, ◌%◌, ◌<◌, ◌≤◌}
use native.Mathlib.Omega.{arith}
use borrow.Author.Tests.{eqb-true, eq-eqb, ltb-true, ltb-false}
use lib.Arith.{digits_div, digits_mod}
use lib.Dec.{eqb, ltb}
use lib.ListN.{length, get_or}
use lib.Seq.{ext_get_or}
use Rattle.lists.specs.Chain.{pass, stop, chain}
use Rattle.lists.specs.First.{first}
use Rattle.lists.proofs.Chain.{scan_none, scan_found}
use Rattle.lists.proofs.First.{first_before, first_passes, first_le, first_is, first_none, Searching, searching_done}
use Rattle.refusal.specs.declared.Refusal.TheVariants.{Differs}
use Rattle.picture.specs.declared.Layout.{Layout}
use Rattle.picture.specs.Order.{count_of}
use Rattle.picture.specs.Plane.{stride, plane_length}
use Rattle.picture.specs.Whole.{whole_column, whole_row, whole_of}
use Rattle.picture.proofs.Owner.{macroblock_owning}
use Rattle.picture.proofs.Over.{whole_at}
use Rattle.picture.proofs.Steps.{macroblock_lt}
use Rattle.inspection.specs.Inspect.{unlike, differ_at, first_differing, differs_test}

-- what does not differ is the same
like : (p q : List ℕ) (k : ℕ) → unlike p q k ≡ false → get_or p k 0 ≡ get_or q k 0
like p q k e = by (eqb (get_or p k 0) (get_or q k 0)) refl e
  where
    by : (t : Bool) → eqb (get_or p k 0) (get_or q k 0) ≡ t → not t ≡ false → get_or p k 0 ≡ get_or q k 0
    by true d f = eqb-true (get_or p k 0) (get_or q k 0) d
    by false d f = absurd (let z : ◌≡◌ {A = ℕ} 0 1 = cc in omega arith)

pub unlike_not : (p q : List ℕ) (k : ℕ) → get_or p k 0 ≡ get_or q k 0 → unlike p q k ≡ false
unlike_not p q k e = ap not (eq-eqb (get_or p k 0) (get_or q k 0) e)

module _ (l : Layout) (some : 0 < l.width) where
  -- where place i of the plane stands among the samples of its macroblock
  abbrev inside : ℕ → ℕ
  inside i = 16 * (i / stride 16 l - whole_row 16 l (macroblock_owning 16 l i)) + (i % stride 16 l - whole_column 16 l (macroblock_owning 16 l i))

  module _ (p q : List ℕ) where
    pub like_before : (m : ℕ) → m ≤ count_of l → ((j : ℕ) → j < 256 * m → differ_at l p q j ≡ false) → (i : ℕ) → macroblock_owning 16 l i < m → get_or p i 0 ≡ get_or q i 0
    like_before m most none i own =
        let k = macroblock_owning 16 l i in
        let s = whole_at 16 (omega arith) l some k (omega (arith, own)) i refl in
        let low : inside i < 256 = omega (arith, s.column, s.row) in
        let e : differ_at l p q (k * 256 + inside i) ≡ false = none (k * 256 + inside i) (omega (arith, own, low)) in
        let f : unlike (whole_of 16 l k p) (whole_of 16 l k q) (inside i) ≡ false = rw (digits_div k low, digits_mod k low) at e in
        sym (s.reads p) ∙ like (whole_of 16 l k p) (whole_of 16 l k q) (inside i) f ∙ s.reads q

    pub all_like : length p ≡ plane_length 16 l → length q ≡ plane_length 16 l → first_differing l p q ≡ plane_length 16 l → p ≡ q
    unfolding first_differing
    all_like hp hq e =
        ext_get_or 0 p q (hp ∙ sym hq)
        (λ i h.
        like_before (count_of l) (omega arith) (λ j b. first_before (differ_at l p q) (plane_length 16 l) j (omega (arith, e, b))) i
        (macroblock_lt 16 (omega arith) l some i (rw hp at h)))

    -- the first place that differs, where there is one
    pub differing_at : (place : ℕ) → place < plane_length 16 l → differ_at l p q place ≡ true → ((k : ℕ) → k < place → differ_at l p q k ≡ false) → first_differing l p q ≡ place
    unfolding first_differing
    differing_at place h here none = first_is (differ_at l p q) (plane_length 16 l) place h none here

    pub differing_tells : (place : ℕ) → place ≡ first_differing l p q → (first_differing l p q ≡ plane_length 16 l → ⊥)
        → (place < plane_length 16 l) × (differ_at l p q place ≡ true) × ((k : ℕ) → k < place → differ_at l p q k ≡ false)
    unfolding first_differing
    differing_tells place e some_one =
        let below : first (plane_length 16 l) (differ_at l p q) < plane_length 16 l = omega (arith, first_le (differ_at l p q) (plane_length 16 l), some_one) in (
          omega (arith, e, below),
          ap (differ_at l p q) e ∙ first_passes (differ_at l p q) (plane_length 16 l) below,
          λ k h. first_before (differ_at l p q) (plane_length 16 l) k (omega (arith, e, h)),
        )

    -- the samples of macroblock m, of which none before it differ
    module _ (m : ℕ) (among : m < count_of l) (s : Searching (differ_at l p q) (plane_length 16 l) (256 * m)) where
      in_turn : (k : ℕ) → k < 256 → differ_at l p q (256 * m + k) ≡ unlike (whole_of 16 l m p) (whole_of 16 l m q) k
      in_turn k h =
          let d : (256 * m + k) / 256 ≡ m = omega arith in
          let r : (256 * m + k) % 256 ≡ k = omega arith in
          rw (d, r)

      none_to : (v : ℕ) → v ≤ 256 → ((k : ℕ) → k < v → unlike (whole_of 16 l m p) (whole_of 16 l m q) k ≡ false) → (j : ℕ) → j < 256 * m + v → differ_at l p q j ≡ false
      none_to v most none j b = by (ltb j (256 * m)) refl
        where
          by : (t : Bool) → ltb j (256 * m) ≡ t → differ_at l p q j ≡ false
          by true e = s.none j (ltb-true j (256 * m) e)
          by false e =
              let least : 256 * m ≤ j = ltb-false j (256 * m) e in
              let z : j ≡ 256 * m + (j - 256 * m) = omega arith in
              ap (differ_at l p q) z ∙ in_turn (j - 256 * m) (omega arith) ∙ none (j - 256 * m) (omega arith)

      module _ (v : ℕ) (e : v ≡ first 256 (unlike (whole_of 16 l m p) (whole_of 16 l m q))) where
        pub differing_more : 256 ≤ v → Searching (differ_at l p q) (plane_length 16 l) (256 * (m + 1))
        differing_more h = record {
          below = omega arith;
          none = λ j b. none_to 256 (omega arith) (λ k b. first_before (unlike (whole_of 16 l m p) (whole_of 16 l m q)) 256 k (omega (arith, e, h, b))) j (omega arith);
        }

        differing_is : v < 256 → first_differing l p q ≡ 256 * m + v
        unfolding first_differing
        differing_is h =
            first_is (differ_at l p q) (plane_length 16 l) (256 * m + v) (omega arith)
            (none_to v (omega arith) (λ k b. first_before (unlike (whole_of 16 l m p) (whole_of 16 l m q)) 256 k (omega (arith, e))))
            (in_turn v h ∙ ap (unlike (whole_of 16 l m p) (whole_of 16 l m q)) e ∙ first_passes (unlike (whole_of 16 l m p) (whole_of 16 l m q)) 256 (omega (arith, e, h)))

        pub differing_here : v < 256 → stop (Differs (256 * m + v)) ≡ chain (differs_test l p q ∷ [])
        differing_here h =
            let f = differing_is h in
            ap (λ (place : ℕ). stop (Differs place)) (sym f) ∙ sym (scan_found [] refl (plane_length 16 l) (first_differing l p q) Differs [] (omega (arith, f, h)))

    pub differing_done : {k : ℕ} → Searching (differ_at l p q) (plane_length 16 l) (256 * k) → count_of l ≤ k → pass ≡ chain (differs_test l p q ∷ [])
    unfolding first_differing
    differing_done {k} s h = sym (scan_none [] refl (plane_length 16 l) (first_differing l p q) Differs [] (searching_done (differ_at l p q) s (omega arith)))

  pub differing_none : (p : List ℕ) → first_differing l p p ≡ plane_length 16 l
  unfolding first_differing
  differing_none p = first_none (differ_at l p p) (plane_length 16 l) (λ k h. unlike_not (whole_of 16 l (k / 256) p) (whole_of 16 l (k / 256) p) (k % 256) refl)
