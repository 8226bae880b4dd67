-- Reading gives back what was written.
--     number_behind, number_before     a number in two lists one behind the other
--     number_level                     the bits of a level
--     sum_own                          the sum at the end of a summed list holds
-- Assumes nothing.
use Rattle.std.proofs.Common.{◌≡◌, ℕ, zero, suc, ◌+◌, ◌-◌, ◌*◌, ◌<◌, true, List, [], ◌∷◌, ◌++◌, length, get_or, ℤ, pos, ◌∙◌, arith, length-append, take_at, get_or-append-add, w16, of_z, eq-eqb}
use lib.ListN.{get_or-append}
use Rattle.octets.specs.Numbers.{bytes_of, number_at, level_bytes}
use Rattle.octets.specs.Sum.{record_sum, summed, sum_holds}

-- ---- numbers in lists one behind the other

-- a number of the second list
pub number_behind : (a b : List ℕ) (k : ℕ) → number_at (length a + k) (a ++ b) ≡ number_at k b
number_behind a b k =
    let z : length a + k + 1 ≡ length a + (k + 1) = omega arith in
    rw (z, get_or-append-add a b k 0, get_or-append-add a b (k + 1) 0)

-- and of the first
pub number_before : (a b : List ℕ) (k : ℕ) → k + 1 < length a → number_at k (a ++ b) ≡ number_at k a
number_before a b k h = rw (get_or-append a b 0 k (omega arith), get_or-append a b 0 (k + 1) h)

pub number_level : (l : List ℤ) (k : ℕ) → k < length l → number_at (2 * k) (level_bytes l) ≡ of_z w16 (get_or l k (pos 0))
unfolding level_bytes
number_level [] k h = absurd (omega arith)
number_level (z ∷ l) zero h = omega arith
number_level (z ∷ l) (suc k) h =
    let e : 2 * suc k ≡ 2 + 2 * k = omega arith in
    rw e (number_behind (bytes_of (of_z w16 z)) (level_bytes l) (2 * k) ∙ number_level l k (omega arith))

-- ---- a record with its sum

pub sum_own : (l : List ℕ) → sum_holds (summed l) ≡ true
unfolding sum_holds summed
sum_own l =
    let e : length (l ++ bytes_of (record_sum l)) - 2 ≡ length l + 0 = omega (arith, length-append l (bytes_of (record_sum l))) in
    let z : length l ≡ length l + 0 = omega arith in
    let n : number_at (length l + 0) (l ++ bytes_of (record_sum l)) ≡ record_sum l = number_behind l (bytes_of (record_sum l)) 0 ∙ omega arith in
    rw e (rw (take_at l (bytes_of (record_sum l)) (length l + 0) z) (eq-eqb _ _ n))
