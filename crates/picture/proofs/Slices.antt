-- Which macroblocks are in the same slice, by their rows.
--     same_self         a macroblock is in its own slice
--     same_slice_is     what it means to be in the same slice
--     slice_row         by the row of a macroblock
--     slice_up          the row above is in the slice of a row exactly if that is not the first of its slice
-- Assumes nothing.
use mathlib.Core.Path.{◌≡◌, refl, ap, ◌∙◌}
use mathlib.Core.Bool.{Bool, true, false}
use Prim.Native.Nat.{ℕ, ◌+◌, ◌*◌, ◌-◌, ◌/◌, ◌%◌, ◌<◌}
use native.Mathlib.Nat.{mod-lt, div-add-mod', div-lt_iff_lt-mul}
use native.Mathlib.Omega.{arith}
use borrow.Author.Tests.{ltb-true, ltb-false, eqb-true, eq-eqb, ne_eqb}
use lib.Arith.{digits_div}
use lib.Dec.{eqb, ltb}
use Rattle.picture.specs.declared.Layout.{Layout}
use Rattle.picture.specs.Presence.{slice_of, same_slice}

pub same_self : (l : Layout) (m : ℕ) → same_slice l m m ≡ true
unfolding same_slice
same_self l m = eq-eqb (slice_of l m) (slice_of l m) refl

pub same_slice_is : (l : Layout) (m k : ℕ) → same_slice l m k ≡ true → slice_of l k ≡ slice_of l m
unfolding same_slice
same_slice_is l m k e = eqb-true (slice_of l k) (slice_of l m) e

-- the macroblock in column c of row r
pub slice_row : (l : Layout) (m c r : ℕ) → c < l.width → same_slice l m (r * l.width + c) ≡ eqb (r / l.rows) (slice_of l m)
unfolding same_slice
slice_row l m c r h = rw (digits_div r {m = l.width} {r = c} h)

pub slice_up : (n r : ℕ) → 0 < n → 0 < r → eqb ((r - 1) / n) (r / n) ≡ ltb 0 (r % n)
slice_up n r hn hr = by_case (ltb 0 (r % n)) refl
  where
    by_case : (t : Bool) → ltb 0 (r % n) ≡ t → eqb ((r - 1) / n) (r / n) ≡ t
    by_case true e =
        let h = ltb-true 0 (r % n) e in
        let z : r - 1 ≡ r / n * n + (r % n - 1) = omega (arith, div-add-mod' r n) in
        eq-eqb ((r - 1) / n) (r / n) (ap (λ (k : ℕ). k / n) z ∙ digits_div (r / n) {m = n} {r = r % n - 1} (omega (arith, mod-lt r hn)))
    by_case false e =
        let h = ltb-false 0 (r % n) e in
        let z : (r - 1) / n < r / n = (div-lt_iff_lt-mul hn).1 (omega (arith, div-add-mod' r n)) in
        ne_eqb ((r - 1) / n) (r / n) (λ q. omega arith)
