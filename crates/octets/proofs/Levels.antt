-- Levels as bytes.
--     levels_append, length_levels     of two lists one behind the other; two bytes a level
--     levels_more                      of one level more
--     levels_by_two                    the same bytes by two stores a turn
-- Assumes nothing.
use Rattle.std.proofs.Common.{◌≡◌, ℕ, zero, suc, ◌+◌, ◌*◌, ◌/◌, ◌%◌, ◌<◌, ◌≤◌, List, [], ◌∷◌, ◌++◌, length, get_or, take, ℤ, pos, add-one, sym, refl, ap, ◌∙◌, arith, take-suc, w16, of_z}
use lib.Seq.{take-length}
use Rattle.lists.specs.Pairs.{pairs}
use Rattle.octets.specs.Numbers.{bytes_of, level_bytes}

pub levels_append : (a b : List ℤ) → level_bytes (a ++ b) ≡ level_bytes a ++ level_bytes b
unfolding level_bytes
levels_append [] b = refl
levels_append (z ∷ a) b = ap (λ (l : List ℕ). bytes_of (of_z w16 z) ++ l) (levels_append a b)

pub length_levels : (a : List ℤ) → length (level_bytes a) ≡ 2 * length a
unfolding level_bytes
length_levels [] = refl
length_levels (z ∷ a) = omega (arith, length_levels a)

-- one level more
pub levels_more : (a : List ℤ) (k : ℕ) → k < length a → level_bytes (take (k + 1) a) ≡ level_bytes (take k a) ++ bytes_of (of_z w16 (get_or a k (pos 0)))
unfolding level_bytes
levels_more a k h = rw (add-one, take-suc a k (pos 0) h) (levels_append (take k a) (get_or a k (pos 0) ∷ []))

module _ (a : List ℤ) where
  -- the two bytes of level k
  abbrev pub high_at : ℕ → ℕ
  high_at k = of_z w16 (get_or a k (pos 0)) / 256

  abbrev pub low_at : ℕ → ℕ
  low_at k = of_z w16 (get_or a k (pos 0)) % 256

  by_two : (k : ℕ) → k ≤ length a → pairs k high_at low_at ≡ level_bytes (take k a)
  unfolding pairs level_bytes
  by_two zero h = refl
  by_two (suc k) h =
      ap (λ (l : List ℕ). l ++ (high_at k ∷ low_at k ∷ [])) (by_two k (omega arith))
      ∙ sym (levels_more a k (omega arith))
      ∙ ap (λ (i : ℕ). level_bytes (take i a)) (add-one k)

  pub levels_by_two : pairs (length a) high_at low_at ≡ level_bytes a
  levels_by_two = by_two (length a) (omega arith) ∙ ap level_bytes (take-length a)
