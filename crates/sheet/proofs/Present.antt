-- The map of macroblocks present, by the library's words.
--     flag_none, flag_some     what `position` gives of the first byte above 1
--     present_counted          how many macroblocks are present
-- Assumes nothing.
use mathlib.Core.Path.{◌≡◌, refl, sym, ◌∙◌}
use mathlib.Core.Bool.{Bool, true, false, cond, not}
use mathlib.Core.List.{List, [], ◌∷◌}
use Prim.Native.Nat.{ℕ, ◌+◌, ◌<◌}
use native.Mathlib.Omega.{arith}
use borrow.Author.Rules.{rules}
use borrow.Author.Tests.{ltb-false}
use lib.Dec.{eqb, ltb}
use lib.ListN.{length, get_or}
use Rattle.std.specs.List.{count_by, position_or_len}
use Rattle.std.proofs.lemmas.List.Quantifiers.{position-Some}
use Rattle.std.proofs.lemmas.List.Sums.{position_or_len_is, prefix_len-le-length, sum_by-cons}
use Rattle.std.specs.Prelude.{Some, None, position}
use Rattle.lists.specs.First.{first}
use Rattle.lists.specs.Total.{total}
use Rattle.lists.proofs.First.{first_is, first_le, first_before, first_passes}
use Rattle.lists.proofs.Total.{total_first}
use Rattle.sheet.specs.Entry.{first_flag}
use Rattle.sheet.specs.Errors.{present_count}

-- the definition's first is the library's
flag_is : (map : List ℕ) → position_or_len (λ byte. ltb 1 byte) map ≡ first_flag map
unfolding first_flag
flag_is map =
    let above : ℕ → Bool = λ k. ltb 1 (get_or map k 0) in
    let n = length map in
    position_or_len_is (λ byte. ltb 1 byte) map (first n above) 0 (first_le above n) (first_before above n) (first_passes above n)

none_left : (b : Bool) (k : ℕ) → cond b (Some k) None ≡ None → b ≡ false
none_left true k e = absurd (search rules)
none_left false k e = refl

pub flag_none : (map : List ℕ) → position (λ byte. ltb 1 byte) map ≡ None → first_flag map ≡ length map
flag_none map e =
    let p : ℕ → Bool = λ byte. ltb 1 byte in
    omega (arith, flag_is map, ltb-false _ _ (none_left (ltb (position_or_len p map) (length map)) (position_or_len p map) e), prefix_len-le-length (λ x. not (p x)) map)

pub flag_some : (map : List ℕ) {m : ℕ} → position (λ byte. ltb 1 byte) map ≡ Some m → (m ≡ first_flag map) × (m < length map)
unfolding first_flag
flag_some map {m} e =
    let found = position-Some (λ byte. ltb 1 byte) map m 0 e in
    (sym (first_is (λ k. ltb 1 (get_or map k 0)) (length map) m found.0 found.2 found.1), found.0)

pub present_counted : (map : List ℕ) → present_count (length map) map ≡ count_by (λ byte. eqb byte 1) map
unfolding present_count total
present_counted [] = refl
present_counted (x ∷ map) =
    total_first (length map) (λ m. cond (eqb (get_or (x ∷ map) m 0) 1) 1 0)
    ∙ (λ i. cond (eqb x 1) 1 0 + present_counted map i)
    ∙ sym (sum_by-cons (λ byte. cond (eqb byte 1) 1 0) x map)
