-- DC of the four quarters, as the code computes it.
--     quarter_is                                    the mean of the sides along a quarter
--     quarter_above, quarter_left                   at the upper right, at the lower left
--     quarter_at_law                                    where a quarter's mean stands among the four
-- Assumes nothing.
use mathlib.Core.Path.{◌≡◌, refl, ap, ◌∙◌}
use mathlib.Core.Bool.{Bool, true, false, cond}
use mathlib.Core.List.{List}
use Prim.Native.Nat.{ℕ, zero, suc, ◌+◌, ◌-◌, ◌*◌, ◌<◌}
use native.Mathlib.Omega.{arith}
use lib.ListN.{take, drop}
use Rattle.intra4.specs.Samples.{Side, missing, side_if}
use Rattle.intra4.specs.Rules.{mean}
use Rattle.chroma.specs.Rules.{along_of, or_else, quarter_dc}
use Rattle.chroma.specs.Code.{sides_only, quarter_means, quarter_at}

along_if : (b : Bool) (k : ℕ) (l : List ℕ) → side_if b (take 4 (drop (4 * k) l)) ≡ along_of k (side_if b l)
along_if true k l = refl
along_if false k l = refl

-- a side that serves only where another is missing
above_first : (a b : Bool) (u v : ℕ) (l m : List ℕ) → mean 4 (along_of u (side_if a l)) (along_of v (side_if (cond a false b) m)) ≡ mean 4 (or_else (along_of u (side_if a l)) (along_of v (side_if b m))) missing
above_first true b u v l m = refl
above_first false true u v l m = refl
above_first false false u v l m = refl

left_first : (a b : Bool) (u v : ℕ) (l m : List ℕ) → mean 4 (along_of u (side_if (cond b false a) l)) (along_of v (side_if b m)) ≡ mean 4 (or_else (along_of v (side_if b m)) (along_of u (side_if a l))) missing
left_first a true u v l m = refl
left_first true false u v l m = refl
left_first false false u v l m = refl

-- what the code answers beside the quarter in column u, row v: it takes the part from x to x + 4 of a side
pub quarter_is : (a b : Bool) (u v : ℕ) (l m : List ℕ) {r : ℕ}
    → r ≡ mean 4 (side_if a (take (4 * u + 4 - 4 * u) (drop (4 * u) l))) (side_if b (take (4 * v + 4 - 4 * v) (drop (4 * v) m)))
    → r ≡ mean 4 (along_of u (side_if a l)) (along_of v (side_if b m))
quarter_is a b u v l m e =
    let four : (n : ℕ) → 4 * n + 4 - 4 * n ≡ 4 = λ n. omega arith in
    e
    ∙ (λ i. mean 4 (side_if a (take (four u i) (drop (4 * u) l))) (side_if b (take (four v i) (drop (4 * v) m))))
    ∙ (λ i. mean 4 (along_if a u l i) (along_if b v m i))

module _ (a b : Bool) (u v : ℕ) (l m : List ℕ) {r : ℕ} {w : Bool} where
  pub quarter_above : w ≡ cond a false b → r ≡ mean 4 (along_of u (side_if a l)) (along_of v (side_if w m))
      → r ≡ mean 4 (or_else (along_of u (side_if a l)) (along_of v (side_if b m))) missing
  quarter_above g e = e ∙ ap (λ (w : Bool). mean 4 (along_of u (side_if a l)) (along_of v (side_if w m))) g ∙ above_first a b u v l m

  pub quarter_left : w ≡ cond b false a → r ≡ mean 4 (along_of u (side_if w l)) (along_of v (side_if b m))
      → r ≡ mean 4 (or_else (along_of v (side_if b m)) (along_of u (side_if a l))) missing
  quarter_left g e = e ∙ ap (λ (w : Bool). mean 4 (along_of u (side_if w l)) (along_of v (side_if b m))) g ∙ left_first a b u v l m

pub quarter_at_law : (above left : Side) (u v : ℕ) → u < 2 → v < 2 → quarter_at (quarter_means above left) u v ≡ quarter_dc (sides_only above left) u v
quarter_at_law above left zero zero h k = refl
quarter_at_law above left (suc zero) zero h k = refl
quarter_at_law above left zero (suc zero) h k = refl
quarter_at_law above left (suc zero) (suc zero) h k = refl
quarter_at_law above left (suc (suc u)) v h k = absurd (omega arith)
quarter_at_law above left zero (suc (suc v)) h k = absurd (omega arith)
quarter_at_law above left (suc zero) (suc (suc v)) h k = absurd (omega arith)
