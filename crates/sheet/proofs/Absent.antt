-- Samples of absent macroblocks change nothing.
--     given_same, answers_same     planes that agree in every macroblock present have the same sheet, or none; and the same answer
--     count_is_the_samples         the count is the number of samples that are summed
-- Assumes nothing.
use mathlib.Core.Path.{◌≡◌, refl, sym, ap, ◌∙◌}
use mathlib.Core.Bool.{Bool, true, false, cond}
use mathlib.Core.List.{List}
use Prim.Native.Nat.{ℕ, zero, suc, ◌+◌, ◌*◌, ◌<◌}
use native.Mathlib.Omega.{arith}
use lib.Dec.{eqb}
use lib.IntN.{ℤ, pos, ◌-ℤ◌, ◌*ℤ◌, nat_abs}
use lib.ListN.{get_or}
use Rattle.lists.specs.Chain.{chain, written}
use Rattle.lists.specs.Total.{total}
use Rattle.lists.proofs.Tab.{get_d_grid}
use Rattle.refusal.proofs.Same.{says_same}
use Rattle.whole.proofs.Sums.{sum_ext}
use Rattle.picture.specs.declared.Layout.{Layout}
use Rattle.picture.specs.Order.{block_column, block_row}
use Rattle.picture.specs.Plane.{layout_of, stride, sample_at, block_at}
use Rattle.sheet.specs.Code.{present_total}
use Rattle.sheet.specs.Entry.{sheet_tests, Sheets}
use Rattle.sheet.specs.Errors.{is_present, present_count, sample_count, square_sum, present_sum}
use Rattle.sheet.specs.Means.{given_of, divided_once, sheet_of}
use Rattle.sheet.specs.Promises.{AgreeInPresent}
use Rattle.sheet.proofs.Outcome.{same_sheeted}
use Rattle.sheet.proofs.Places.{present_pos}
use Rattle.std.specs.Prelude.{Result, Option}
use Rattle.refusal.specs.declared.Refusal.{Refusal}
use Rattle.sheet.specs.declared.Sheet.{Sheet}
use Rattle.std.specs.Prelude.{Some, None}

-- a sample of a block that is the same in two planes
sample_same : (n s x y : ℕ) (a b : List ℕ) → block_at n s x y a ≡ block_at n s x y b → (i j : ℕ) → i < n → j < n → sample_at s a (x + i) (y + j) ≡ sample_at s b (x + i) (y + j)
unfolding block_at
sample_same n s x y a b e i j h k =
    sym (get_d_grid n (λ i j. sample_at s a (x + i) (y + j)) i j 0 h k)
    ∙ ap (λ (l : List ℕ). get_or l (n * j + i) 0) e
    ∙ get_d_grid n (λ i j. sample_at s b (x + i) (y + j)) i j 0 h k

cond_ext : (t : Bool) (a b : ℤ) → (t ≡ true → a ≡ b) → cond t a (pos 0) ≡ cond t b (pos 0)
cond_ext true a b h = h refl
cond_ext false a b h = refl

module _ (l : Layout) (map original rebuilt original' rebuilt' : List ℕ) (o : AgreeInPresent l map original original') (r : AgreeInPresent l map rebuilt rebuilt') where
  -- any rule of both samples
  rule_same : (F : ℕ → ℕ → ℤ) → present_sum l map (λ p. F (get_or original p 0) (get_or rebuilt p 0)) ≡ present_sum l map (λ p. F (get_or original' p 0) (get_or rebuilt' p 0))
  unfolding present_sum square_sum
  rule_same F =
      sum_ext (l.width * l.height) _ _
      (λ m h. cond_ext (is_present map m) _ _
      (λ t. sum_ext 16 _ _ (λ j q. sum_ext 16 _ _ (λ i p.
      λ k.
      F
      (sample_same 16 (stride 16 l) (block_column l m 0) (block_row l m 0) original original' (o.same m h t) i j p q k)
      (sample_same 16 (stride 16 l) (block_column l m 0) (block_row l m 0) rebuilt rebuilt' (r.same m h t) i j p q k)))))

  sheet_same : sheet_of l original rebuilt map ≡ sheet_of l original' rebuilt' map
  sheet_same =
      let absolute = rule_same (λ x y. pos (nat_abs (pos y -ℤ pos x))) in
      let squared = rule_same (λ x y. (pos y -ℤ pos x) *ℤ (pos y -ℤ pos x)) in
      let signed = rule_same (λ x y. pos y -ℤ pos x) in
      let n = sample_count l map in
      λ k. record { absolute = divided_once (absolute k) n; squared = divided_once (squared k) n; signed = divided_once (signed k) n }

  -- the same sheet, or none
  pub given_same : given_of l original rebuilt map ≡ given_of l original' rebuilt' map
  given_same = let n = present_count (l.width * l.height) map in λ k. cond (eqb n 0) None (Some (sheet_same k))

pub answers_same : (width height : ℕ) (map original rebuilt original' rebuilt' : List ℕ)
    → AgreeInPresent (layout_of width height) map original original'
    → AgreeInPresent (layout_of width height) map rebuilt rebuilt'
    → (x y : Result (Option Sheet) Refusal) → Sheets width height original rebuilt map x → Sheets width height original' rebuilt' map y → x ≡ y
answers_same width height map original rebuilt original' rebuilt' o r x y p q =
    let v : chain (sheet_tests width height original rebuilt map) ≡ chain (sheet_tests width height original' rebuilt' map) = rw (o.long, r.long) in
    let g = given_same (layout_of width height) map original rebuilt original' rebuilt' o r in
    same_sheeted x y (says_same p.says ∙ v ∙ sym (says_same q.says)) (p.sheet ∙ (λ k. written (v k) (g k) None) ∙ sym q.sheet)

-- ---- the count

ones : (t : Bool) → cond t 256 0 ≡ 256 * cond t 1 0
ones true = refl
ones false = refl

times : (n : ℕ) (c : ℕ) (f g : ℕ → ℕ) → ((k : ℕ) → f k ≡ c * g k) → total n f ≡ c * total n g
unfolding total
times zero c f g h = omega arith
times (suc n) c f g h = omega (arith, times n c f g h, h n)

pub count_is_the_samples : (l : Layout) (map : List ℕ) → present_sum l map (λ p. pos 1) ≡ pos (sample_count l map)
unfolding present_total present_count total
count_is_the_samples l map =
    present_pos l map (λ p. pos 1) (λ p. 1) (λ p. refl)
    ∙ ap pos (times (l.width * l.height) 256 _ _ (λ m. ones (is_present map m)))
