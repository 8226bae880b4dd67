-- Laws of the range test and of the first number outside a range.
--     inside_true, inside_within, within_inside               the test, as two tests and as a bound
--     outside_le, outside_before, first_offence               the place: inside the list or its end; a place exactly if this one is outside, none before
--     first_position                                          it is what the library's `position` finds
--     at_end                                                  a scan that found none before the end of n numbers
--     none_outside, none_each, all_inside, each_none          where it is the end: each is inside, and within a bound; and back
-- Assumes nothing.
use mathlib.Core.Path.{◌≡◌, sym, ap, ◌∙◌}
use mathlib.Core.Logic.{◌↔◌}
use mathlib.Core.Bool.{Bool, true, not}
use mathlib.Core.List.{List}
use Prim.Native.Nat.{ℕ, ◌+◌, ◌≤◌, ◌<◌}
use native.Mathlib.Omega.{arith}
use borrow.Author.Differences.{up, down, ints, true_is_le}
use borrow.Author.Tests.{not-true, not-false}
use Rattle.std.proofs.lemmas.List.Sums.{position_or_len_is}
use Rattle.std.specs.List.{position}
use lib.Dec.{T, leb, leb→le}
use lib.IntN.{ℤ, pos, negsuc}
use lib.ListN.{length, get_or}
use lib.Signed.{le_z}
use Rattle.lists.specs.First.{found}
use Rattle.lists.proofs.Every.{both_true}
use Rattle.lists.proofs.First.{first_le, first_before, first_passes, first_is, first_none}
use Rattle.whole.specs.Bounds.{Within, Each}
use Rattle.whole.specs.Range.{inside, first_outside, FirstOffence}
use Rattle.whole.proofs.Bound.{within_nat}
use Rattle.whole.proofs.Lists.{each_from}
use Rattle.whole.proofs.Steps.{each_at}

module _ (low high : ℤ) where
  pub inside_true : (z : ℤ) → inside low high z ≡ true → (le_z low z ≡ true) × (le_z z high ≡ true)
  unfolding inside
  inside_true z e = both_true (le_z low z) (le_z z high) e

  -- ---- the test and a bound; at literals the two tests of the ends are `tt`

  module _ (B : ℕ) where
    pub inside_within : T (leb (down low) B) → T (leb (up high) B) → (z : ℤ) → inside low high z ≡ true → Within B z
    inside_within l h (pos n) e = let k = (inside_true (pos n) e).1 in record { size = omega (arith, ints, leb→le (up high) B h) }
    inside_within l h (negsuc n) e = let k = (inside_true (negsuc n) e).0 in record { size = omega (arith, ints, leb→le (down low) B l) }

    pub within_inside : T (leb (up low + B) (down low)) → T (leb (B + down high) (up high)) → (z : ℤ) → Within B z → inside low high z ≡ true
    unfolding inside
    within_inside l h z b =
        let p = sym (true_is_le low z (omega (arith, within_nat b, leb→le (up low + B) (down low) l))) in
        let q = sym (true_is_le z high (omega (arith, within_nat b, leb→le (B + down high) (up high) h))) in
        rw (p, q)

  -- ---- the first number outside

  module _ (l : List ℤ) where
    -- the test that the definition hands to `first`
    abbrev pub outside_at : ℕ → Bool
    outside_at i = not (inside low high (get_or l i (pos 0)))

    pub outside_le : first_outside low high l ≤ length l
    unfolding first_outside
    outside_le = first_le outside_at (length l)

    -- a scan that found nothing before n of n numbers ended there
    pub at_end : (n : ℕ) → length l ≡ n → n ≤ first_outside low high l → first_outside low high l ≡ n
    at_end n e h = omega (arith, outside_le)

    -- none before is
    pub outside_before : (i : ℕ) → i < first_outside low high l → inside low high (get_or l i (pos 0)) ≡ true
    unfolding first_outside
    outside_before i h = not-false (inside low high (get_or l i (pos 0))) (first_before outside_at (length l) i h)

    -- it is the library's `position`
    pub first_position : position (λ z. not (inside low high z)) l ≡ found (length l) (first_outside low high l)
    unfolding first_outside found
    first_position =
        ap (found (length l)) (position_or_len_is (λ z. not (inside low high z)) l (first_outside low high l) (pos 0) outside_le (first_before outside_at (length l)) (first_passes outside_at (length l)))

    -- a place of the list is the one exactly if this one is outside, none before
    pub first_offence : (i : ℕ) → i < length l → (first_outside low high l ≡ i) ↔ FirstOffence low high l i
    unfolding first_outside
    first_offence i h = (
      λ e. record {
        here = ap (λ (k : ℕ). inside low high (get_or l k (pos 0))) (sym e) ∙ not-true (inside low high (get_or l (first_outside low high l) (pos 0))) (first_passes outside_at (length l) (omega arith));
        before = λ j k. outside_before j (omega arith);
      },
      λ o. first_is outside_at (length l) i h (λ j k. ap not (o.before j k)) (ap not o.here),
    )

    -- ---- where it is the end

    pub none_outside : length l ≤ first_outside low high l → (i : ℕ) → i < length l → inside low high (get_or l i (pos 0)) ≡ true
    none_outside h i k = outside_before i (omega arith)

    pub none_each : (B : ℕ) → T (leb (down low) B) → T (leb (up high) B) → length l ≤ first_outside low high l → Each B l
    none_each B a b h = each_from B l (λ i k. inside_within B a b (get_or l i (pos 0)) (none_outside h i k))

    pub all_inside : ((i : ℕ) → i < length l → inside low high (get_or l i (pos 0)) ≡ true) → first_outside low high l ≡ length l
    unfolding first_outside
    all_inside h = first_none outside_at (length l) (λ i k. ap not (h i k))

    pub each_none : (B : ℕ) → T (leb (up low + B) (down low)) → T (leb (B + down high) (up high)) → Each B l → first_outside low high l ≡ length l
    each_none B a b h = all_inside (λ i k. within_inside B a b (get_or l i (pos 0)) (each_at B l h i))
