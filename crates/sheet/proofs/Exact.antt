-- Sums and count of a picture convert exactly, and each mean is rounded once, or not at all where the count is a power of two.
--     count_small, sums_convert, each_rounded, each_exact
-- Assumes nothing.
use mathlib.Core.Path.{◌≡◌, subst}
use mathlib.Core.List.{List}
use Prim.Native.Nat.{ℕ, ◌*◌, ◌^◌, ◌<◌, ◌≤◌}
use native.Mathlib.Nat.{mul-le-mul, lt_of_not-le}
use native.Mathlib.Omega.{arith}
use lib.IntN.{pos}
use lib.Pow.{pow_mono}
use Rattle.lists.specs.Bytes.{Bytes}
use Rattle.whole.specs.Bounds.{Within}
use Rattle.whole.proofs.Bound.{within_by}
use Rattle.whole.proofs.Laws.{diff_minus, diff_self}
use Rattle.picture.specs.declared.Layout.{Layout}
use Rattle.sheet.specs.Code.{absolute_at, squared_at, sample_in, present_total, longest}
use Rattle.sheet.specs.Errors.{signed_error, absolute_error, squared_error, present_count, sample_count, present_sum}
use Rattle.sheet.specs.Means.{sheet_of}
use Rattle.sheet.specs.Promises.{IsFraction, rounded_once, OfEach, SumsExact}
use Rattle.sheet.proofs.Floats.{whole, divided_rounds, divided_by_power}
use Rattle.sheet.proofs.Places.{count_low, present_low, absolute_sum, squared_sum, signed_sum}

-- a power of two up to the largest count
short : (k : ℕ) → 2 ^ k ≤ 4194304 → k ≤ 1074
short k h = let l : k < 23 = lt_of_not-le (λ (g : 23 ≤ k). let p : 8388608 ≤ 2 ^ k = pow_mono {i = 23} {j = k} g in absurd (omega arith)) in omega arith

module _ (l : Layout) (original rebuilt map : List ℕ) (own : Bytes original) (back : Bytes rebuilt) (few : l.width * l.height ≤ 16384) where
  count_small : sample_count l map ≤ 4194304
  count_small = omega (arith, count_low (l.width * l.height) map)

  apart : (p : ℕ) → absolute_at original rebuilt p ≤ 255
  apart p = omega (arith, own.byte p, back.byte p)

  low : (g : ℕ → ℕ) (b : ℕ) → ((p : ℕ) → g p ≤ b) → b ≤ 65025 → present_total l map g ≤ longest
  low g b h k =
      let c : b * 256 ≤ 16646400 = omega arith in
      omega (arith, present_low l map g b h, mul-le-mul c few)

  absolute_small : Within longest (present_sum l map (absolute_error original rebuilt))
  absolute_small = rw (absolute_sum original rebuilt l map) (record { size = low (absolute_at original rebuilt) 255 apart (omega arith) })

  squared_small : Within longest (present_sum l map (squared_error original rebuilt))
  squared_small = rw (squared_sum original rebuilt l map) (record { size = low (squared_at original rebuilt) 65025 (λ p. mul-le-mul (apart p) (apart p)) (omega arith) })

  signed_small : Within longest (present_sum l map (signed_error original rebuilt))
  signed_small =
      let r = low (sample_in rebuilt) 255 (λ p. omega (arith, back.byte p)) (omega arith) in
      let o = low (sample_in original) 255 (λ p. omega (arith, own.byte p)) (omega arith) in
      rw (signed_sum original rebuilt l map)
      (within_by longest (diff_minus (diff_self (pos (present_total l map (sample_in rebuilt)))) (diff_self (pos (present_total l map (sample_in original))))) (omega arith) (omega arith))

  pub sums_convert : SumsExact l original rebuilt map
  sums_convert = record {
    absolute = whole _ absolute_small;
    squared = whole _ squared_small;
    signed = whole _ signed_small;
    count = whole (pos (sample_count l map)) (record { size = omega (arith, count_small) });
  }

  pub each_rounded : 0 < present_count (l.width * l.height) map → OfEach l original rebuilt map (sheet_of l original rebuilt map) (λ mean sum. mean ≡ rounded_once sum (sample_count l map))
  each_rounded some =
      let n : sample_count l map ≤ longest = omega (arith, count_small) in
      let c : 0 < sample_count l map = omega arith in
      record {
        absolute = divided_rounds _ _ absolute_small n c;
        squared = divided_rounds _ _ squared_small n c;
        signed = divided_rounds _ _ signed_small n c;
      }

  pub each_exact : (k : ℕ) → sample_count l map ≡ 2 ^ k → OfEach l original rebuilt map (sheet_of l original rebuilt map) (λ mean sum. IsFraction mean sum (sample_count l map))
  each_exact k e =
      let n : sample_count l map ≤ longest = omega (arith, count_small) in
      let s = short k (subst (λ (c : ℕ). c ≤ 4194304) e count_small) in
      record {
        absolute = divided_by_power _ _ k absolute_small n e s;
        squared = divided_by_power _ _ k squared_small n e s;
        signed = divided_by_power _ _ k signed_small n e s;
      }
