-- Pictures that are rebuilt macroblock after macroblock, each by a step of its own, in a plane where a macroblock has s by s samples.
-- A macroblock's step keeps the length, changes its own samples only, and makes them of samples of the macroblocks beside it that are present.
--     macroblock_lt                each sample is of one of the picture's macroblocks
--     MacroblockStep, LooksFrom    such a step; what is made of a plane by what macroblock m may see
--     looks_after                  what a macroblock makes by what it may see is the same after a step of it
--     choice_step                  a choice between two steps, by a test that looks only there, is a step
--     first_steps, steps_agree     the first macroblocks: macroblock k sees the same from any two planes
--     picture_start_has_no_value, made_start_has_no_value     what stood in the plane at the start changes no sample, and no record
-- Assumes nothing.
use mathlib.Core.Path.{◌≡◌, ◌∙◌}
use mathlib.Core.Bool.{Bool, cond}
use mathlib.Core.List.{List}
use mathlib.Core.Logic.{inr}
use Prim.Native.Nat.{ℕ, suc, ◌*◌, ◌/◌, ◌%◌, ◌<◌, ◌≤◌}
use native.Mathlib.Nat.{mod-lt, mul_comm, div-lt_iff_lt-mul}
use native.Mathlib.Omega.{arith}
use lib.Arith.{digits_lt}
use lib.ListN.{length}
use Rattle.lists.specs.Fold.{fold}
use Rattle.lists.specs.Parts.{parts}
use Rattle.lists.proofs.Alike.{Agree, Looks, Also, Step, agree_less, step_sees, step_agree, step_fold, step_choice, start_forgotten}
use Rattle.lists.proofs.Parts.{parts_same}
use Rattle.picture.specs.declared.Layout.{Layout}
use Rattle.picture.specs.Order.{count_of}
use Rattle.picture.specs.Plane.{plane_length}
use Rattle.picture.proofs.Macroblocks.{SeenFrom, seen_before}
use Rattle.picture.proofs.Owner.{macroblock_owning}

module _ (s : ℕ) (small : 0 < s) (l : Layout) (some : 0 < l.width) where
  -- a row has samples
  pub wide : 0 < s * l.width
  wide = omega (arith, digits_lt {q = 0} {m = s} {r = 0} {c = l.width} small some)

  pub macroblock_lt : (i : ℕ) → i < plane_length s l → macroblock_owning s l i < count_of l
  macroblock_lt i h =
      let x : i % (s * l.width) / s < l.width = (div-lt_iff_lt-mul small).1 (omega (arith, mod-lt i wide, mul_comm s l.width)) in
      let y : i / (s * l.width) < s * l.height = (div-lt_iff_lt-mul wide).1 (omega arith) in
      let r : i / (s * l.width) / s < l.height = (div-lt_iff_lt-mul small).1 (omega (arith, y, mul_comm s l.height)) in
      omega (arith, digits_lt {q = i / (s * l.width) / s} {m = l.height} {r = i % (s * l.width) / s} {c = l.width} r x)

-- ---- a macroblock's step

abbrev pub MacroblockStep : (s : ℕ) → Layout → (m : ℕ) → (List ℕ → List ℕ) → Type 0
MacroblockStep s l m f = Step 0 (plane_length s l) (macroblock_owning s l) (SeenFrom s l m) m (suc m) f

-- what is made of a plane looks only at what macroblock m may see
abbrev pub LooksFrom : (s : ℕ) → Layout → (m : ℕ) → {B : Type 0} → (List ℕ → B) → Type 0
LooksFrom s l m v = Looks 0 (plane_length s l) (SeenFrom s l m) v

pub choice_step : (s : ℕ) (l : Layout) (m : ℕ) {f g : List ℕ → List ℕ} (c : List ℕ → Bool) → LooksFrom s l m c
    → MacroblockStep s l m f → MacroblockStep s l m g → MacroblockStep s l m (λ p. cond (c p) (f p) (g p))
choice_step s l m c looks f-step g-step = step_choice 0 (plane_length s l) (macroblock_owning s l) c looks f-step g-step

-- a macroblock's step changes nothing that it may see
pub looks_after : (s : ℕ) (l : Layout) (m : ℕ) {B : Type 0} (v : List ℕ → B) {f : List ℕ → List ℕ} → LooksFrom s l m v → MacroblockStep s l m f
    → (p : List ℕ) → length p ≡ plane_length s l → v (f p) ≡ v p
looks_after s l m v {f} looks step p long =
    looks (f p) p (record {
      this = step.long p ∙ long;
      that = long;
      agree = λ i h seen. step.off p i h (λ own. omega (arith, own.0, seen_before s l m i seen));
    })

-- ---- the picture, by any steps of its macroblocks

module _ (s : ℕ) (small : 0 < s) (l : Layout) (some : 0 < l.width) (f : ℕ → List ℕ → List ℕ) (steps : (m : ℕ) → m < count_of l → MacroblockStep s l m (f m)) where
  -- the first k macroblocks: a step that sees nothing
  pub first_steps : (k : ℕ) → k ≤ count_of l → Step 0 (plane_length s l) (macroblock_owning s l) (λ i. ⊥) 0 k (fold k f)
  first_steps k most =
      (step_fold 0 (plane_length s l) (macroblock_owning s l) (λ i. ⊥) (λ m. m) f k (λ m h. omega arith)
      (λ m h.
      step_sees 0 (plane_length s l) (macroblock_owning s l) (Also (macroblock_owning s l) (λ i. ⊥) 0 m) (λ i hi v. inr (omega arith, seen_before s l m i v)) (steps m (omega arith)))
      ).1

  -- so macroblock k sees the same from any two planes
  pub steps_agree : (k : ℕ) → k ≤ count_of l → (p q : List ℕ) → length p ≡ plane_length s l → length q ≡ plane_length s l
      → Agree 0 (plane_length s l) (SeenFrom s l k) (fold k f p) (fold k f q)
  steps_agree k most p q hp hq =
      agree_less 0 (plane_length s l) (Also (macroblock_owning s l) (λ i. ⊥) 0 k) (SeenFrom s l k) (λ i hi v. inr (omega arith, seen_before s l k i v)) (fold k f p) (fold k f q)
      (step_agree 0 (plane_length s l) (macroblock_owning s l) (first_steps k most) p q (record { this = hp; that = hq; agree = λ i h v. absurd v }))

  pub picture_start_has_no_value : (p q : List ℕ) → length p ≡ plane_length s l → length q ≡ plane_length s l → fold (count_of l) f p ≡ fold (count_of l) f q
  picture_start_has_no_value p q hp hq =
      start_forgotten 0 (plane_length s l) (macroblock_owning s l) (first_steps (count_of l) (omega arith)) (macroblock_lt s small l some) p q hp hq

  -- nor does it change what each macroblock makes by what it may see, of the plane before it: its record
  pub made_start_has_no_value : (made : ℕ → List ℕ → List ℕ) → ((m : ℕ) → m < count_of l → LooksFrom s l m (made m))
      → (p q : List ℕ) → length p ≡ plane_length s l → length q ≡ plane_length s l → parts (count_of l) (λ m. made m (fold m f p)) ≡ parts (count_of l) (λ m. made m (fold m f q))
  made_start_has_no_value made looks p q hp hq =
      parts_same (count_of l) _ _ (λ m h. looks m h (fold m f p) (fold m f q) (steps_agree m (omega arith) p q hp hq))
