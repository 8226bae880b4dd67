-- The decimal text of a number is the library's.
--     decimal_is, signed_is     of a number of 64 bits; of one with a sign
-- Assumes nothing.
use mathlib.Core.Path.{◌≡◌, refl, sym, ap, ◌∙◌}
use mathlib.Core.Bool.{Bool, true, false, cond, ◌||◌}
use mathlib.Core.List.{List, [], ◌∷◌, ◌++◌}
use Prim.Native.Nat.{ℕ, zero, suc, ◌+◌, ◌-◌, ◌*◌, ◌/◌, ◌%◌, ◌^◌, ◌<◌, ◌≤◌}
use native.Mathlib.Nat.{div-add-mod', mod-lt}
use native.Mathlib.Omega.{arith}
use borrow.Author.Tests.{le-leb, lt-leb, leb-true, leb-false, ne_eqb}
use lib.Dec.{leb, eqb}
use lib.IntN.{ℤ, pos, negsuc, nat_abs}
use Rattle.std.specs.Fmt.{decimal, signed_decimal}
use Rattle.std.proofs.lemmas.Nat.{div-mul-add}
use Rattle.std.proofs.lemmas.Fmt.{decimal_by_steps}
use Rattle.lists.specs.Parts.{parts}
use Rattle.lists.proofs.Parts.{parts_same}
use Rattle.printing.specs.Text.{digit_at, decimal_of, signed_of}

-- a digit of n but the last is one of n / 10
digit_up : (n power : ℕ) → 10 ≤ n → 0 < power → digit_at n (10 * power) ≡ digit_at (n / 10) power
unfolding digit_at
digit_up n power h z = by_case (leb power (n / 10)) refl
  where
    rest : ℕ
    rest = 10 * (n / 10 % power) + n % 10

    split : n ≡ n / 10 / power * (10 * power) + rest
    split = omega (arith, div-add-mod' (n / 10) power)

    quotient : n / (10 * power) ≡ n / 10 / power
    quotient = ap (λ (x : ℕ). x / (10 * power)) split ∙ div-mul-add (n / 10 / power) (10 * power) rest (omega (arith, mod-lt (n / 10) z))

    by_case : (b : Bool) → leb power (n / 10) ≡ b
        → cond (leb (10 * power) n || eqb (10 * power) 1) ((48 + n / (10 * power) % 10) ∷ []) [] ≡ cond (leb power (n / 10) || eqb power 1) ((48 + n / 10 / power % 10) ∷ []) []
    by_case true e =
        let low : 10 * power ≤ n = omega (arith, leb-true power (n / 10) e) in
        rw (e, le-leb (10 * power) n low, quotient) refl
    by_case false e =
        let high : n / 10 < power = leb-false power (n / 10) e in
        rw (e, lt-leb (10 * power) n (omega arith), ne_eqb power 1 (λ w. omega arith), ne_eqb (10 * power) 1 (λ w. omega arith)) refl

-- the digits of n from the power m on
abbrev digits : (m n : ℕ) → List ℕ
digits m n = parts (suc m) (λ k. digit_at n (10 ^ (m - k)))

last : (n m : ℕ) → digit_at n (10 ^ (m - m)) ≡ (48 + n % 10) ∷ []
unfolding digit_at
last n m =
    let none : m - m ≡ 0 = omega arith in
    let one : 10 ^ (m - m) ≡ 1 = ap (λ (k : ℕ). 10 ^ k) none in
    rw one (by_case (leb 1 n) (omega arith))
  where
    by_case : (b : Bool) → n / 1 ≡ n → cond (b || true) ((48 + n / 1 % 10) ∷ []) [] ≡ (48 + n % 10) ∷ []
    by_case true e = rw e refl
    by_case false e = rw e refl

no_digit : (n power : ℕ) → n < power → 1 < power → digit_at n power ≡ []
unfolding digit_at
no_digit n power h z = rw (lt-leb power n h, ne_eqb power 1 (λ w. omega arith)) refl

parts_none : (m : ℕ) (f : ℕ → List ℕ) → ((k : ℕ) → k < m → f k ≡ []) → parts m f ≡ []
unfolding parts
parts_none zero f h = refl
parts_none (suc m) f h = rw (parts_none m f (λ k l. h k (omega arith)), h m (omega arith)) refl

parts_last : (m : ℕ) (f : ℕ → List ℕ) → parts (suc m) f ≡ parts m f ++ f m
unfolding parts
parts_last m f = refl

ten_pos : (k : ℕ) → 0 < 10 ^ k
ten_pos zero = omega arith
ten_pos (suc k) = omega (arith, ten_pos k)

ten_up : (j k : ℕ) → j ≡ suc k → 10 ^ j ≡ 10 * 10 ^ k
ten_up j k e = rw e (omega arith)

all_digits : (n : ℕ) → n < 2 ^ 64 → (m : ℕ) → n < 10 ^ (m + 1) → decimal n ≡ digits m n
all_digits n h = decimal_by_steps (λ n ds. (m : ℕ) → n < 10 ^ (m + 1) → ds ≡ digits m n) one more n h
  where
    one : (n : ℕ) → n < 10 → (m : ℕ) → n < 10 ^ (m + 1) → (48 + n) ∷ [] ≡ digits m n
    one n l m b =
        let f : ℕ → List ℕ = λ k. digit_at n (10 ^ (m - k)) in
        let high : (k : ℕ) → k < m → 10 ≤ 10 ^ (m - k) = λ k j.
        let e : m - k ≡ suc (m - suc k) = omega arith in
        rw e (omega (arith, ten_pos (m - suc k))) in
        let none = parts_none m f (λ k j. no_digit n (10 ^ (m - k)) (omega (arith, high k j)) (omega (arith, high k j))) in
        let only : (48 + n % 10) ∷ [] ≡ (48 + n) ∷ [] = ap (λ (d : ℕ). (48 + d) ∷ []) (omega arith) in
        sym (parts_last m f ∙ (λ i. none i ++ (last n m ∙ only) i))

    more : (n : ℕ) (ds : List ℕ) → 10 ≤ n → ((m : ℕ) → n / 10 < 10 ^ (m + 1) → ds ≡ digits m (n / 10)) → (m : ℕ) → n < 10 ^ (m + 1) → ds ++ ((48 + n % 10) ∷ []) ≡ digits m n
    more n ds l g zero b = absurd (omega arith)
    more n ds l g (suc m) b =
        let f : ℕ → List ℕ = λ k. digit_at n (10 ^ (suc m - k)) in
        let up : (k : ℕ) → k < suc m → f k ≡ digit_at (n / 10) (10 ^ (m - k)) =
        λ k j.
        let e : 10 ^ (suc m - k) ≡ 10 * 10 ^ (m - k) = ten_up (suc m - k) (m - k) (omega arith) in
        ap (digit_at n) e ∙ digit_up n (10 ^ (m - k)) l (ten_pos (m - k)) in
        let front = parts_same (suc m) f (λ k. digit_at (n / 10) (10 ^ (m - k))) up in
        sym (parts_last (suc m) f ∙ (λ i. (front ∙ sym (g m (omega (arith, ten_up (suc m + 1) (m + 1) (omega arith))))) i ++ last n (suc m) i))

pub decimal_is : (n : ℕ) → n < 2 ^ 64 → decimal n ≡ decimal_of n
unfolding decimal_of
decimal_is n h = all_digits n h 19 (omega arith)

pub signed_is : (z : ℤ) → nat_abs z < 2 ^ 64 → signed_decimal z ≡ signed_of z
unfolding signed_of
signed_is (pos n) h = decimal_is n h
signed_is (negsuc n) h = ap (λ (l : List ℕ). 45 ∷ l) (decimal_is (suc n) h)
