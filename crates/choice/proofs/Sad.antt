-- SAD of samples.
--     sad_zipped              it is the sum over the pairs of samples
--     sad_low                 of bytes it is at most 255 a sample
--     sad_zero, sad_self      it is 0 exactly of equal samples
-- Assumes nothing.
use mathlib.Core.Path.{◌≡◌, refl, sym, ap, ◌∙◌}
use mathlib.Core.List.{List, [], ◌∷◌, map}
use Prim.Native.Nat.{ℕ, ◌+◌, ◌*◌, ◌≤◌}
use native.Mathlib.Omega.{arith}
use lib.ListN.{length, get_or}
use lib.Seq.{ext_get_or}
use Rattle.std.specs.List.{sum, zip}
use Rattle.std.proofs.lemmas.List.Sums.{sum_by-cons}
use Rattle.lists.specs.Total.{total, gap}
use Rattle.lists.specs.Bytes.{Bytes}
use Rattle.lists.proofs.Total.{total_first, total_low, term_low}
use Rattle.choice.specs.Choice.{sad}

pub sad_zipped : (a b : List ℕ) → length a ≡ length b → sum (map (λ p. gap p.0 p.1) (zip a b)) ≡ sad (length a) a b
unfolding sad total
sad_zipped [] [] e = refl
sad_zipped [] (y ∷ b) e = absurd (omega arith)
sad_zipped (x ∷ a) [] e = absurd (omega arith)
sad_zipped (x ∷ a) (y ∷ b) e =
    sum_by-cons (λ n. n) (gap x y) (map (λ p. gap p.0 p.1) (zip a b))
    ∙ ap (λ n. gap x y + n) (sad_zipped a b (omega arith))
    ∙ sym (total_first (length a) (λ k. gap (get_or (x ∷ a) k 0) (get_or (y ∷ b) k 0)))

pub sad_low : (n : ℕ) {a b : List ℕ} → Bytes a → Bytes b → sad n a b ≤ 255 * n
unfolding sad
sad_low n {a} {b} p q = total_low n (λ k. gap (get_or a k 0) (get_or b k 0)) 255 (λ k l. omega (arith, p.byte k, q.byte k))

pub sad_zero : (n : ℕ) (a b : List ℕ) → length a ≡ n → length b ≡ n → sad n a b ≡ 0 → a ≡ b
unfolding sad
sad_zero n a b la lb e =
    ext_get_or 0 a b (omega arith)
    (λ k l. omega (arith, term_low n (λ k. gap (get_or a k 0) (get_or b k 0)) k (omega arith)))

pub sad_self : (n : ℕ) (a : List ℕ) → sad n a a ≡ 0
unfolding sad
sad_self n a = omega (arith, total_low n (λ k. gap (get_or a k 0) (get_or a k 0)) 0 (λ k l. omega arith))
