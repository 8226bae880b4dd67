-- Laws of the sum of a list.
--     sum_append, sum_folded     of two lists one behind the other; modulo 65536, as the code adds
-- Assumes nothing.
use Rattle.std.proofs.Common.{◌≡◌, ℕ, ◌+◌, ◌%◌, ◌<◌, List, [], ◌∷◌, ◌++◌, ◌∙◌, arith}
use Rattle.std.specs.List.{fold}
use Rattle.octets.specs.Sum.{sum_of, record_sum}

pub sum_append : (xs ys : List ℕ) → sum_of (xs ++ ys) ≡ sum_of xs + sum_of ys
unfolding sum_of
sum_append [] ys = omega arith
sum_append (x ∷ xs) ys = omega (arith, sum_append xs ys)

-- added one by one, modulo 65536 each time
folded_from : (xs : List ℕ) (a : ℕ) → a < 65536 → fold (λ s b. (s + b) % 65536) a xs ≡ (a + sum_of xs) % 65536
unfolding sum_of
folded_from [] a h = omega arith
folded_from (x ∷ xs) a h = omega (arith, folded_from xs ((a + x) % 65536) (omega arith))

pub sum_folded : (xs : List ℕ) → fold (λ s b. (s + b) % 65536) 0 xs ≡ record_sum xs
sum_folded xs = folded_from xs 0 (omega arith) ∙ omega arith
