-- Text in ASCII: numbers in decimal, lines of sixteen numbers (01, "Measured pieces": what `blockprint` prints). Assumes nothing.
use Rattle.std.specs.Prelude.{◌≡◌, cond, ◌||◌, List, [], ◌∷◌, ◌++◌, ℕ, ◌+◌, ◌-◌, ◌/◌, ◌%◌, ◌^◌, eqb, leb, ℤ, pos, negsuc, nat_abs, length, replicate}
use Rattle.lists.specs.Parts.{parts}
use Rattle.printing.specs.declared.Text.{Text}

-- a digit stands where the number reaches its power of ten, and the last one always
unfoldable pub digit_at : ℕ → ℕ → List ℕ
digit_at n power = cond (leb power n || eqb power 1) ((48 + n / power % 10) ∷ []) []

-- a number of 64 bits in decimal, from its twentieth digit to its last
unfoldable pub decimal_of : ℕ → List ℕ
decimal_of n = parts 20 (λ k. digit_at n (10 ^ (19 - k)))

-- a minus sign stands before a negative number
abbrev pub sign_of : ℤ → List ℕ
sign_of (pos n) = []
sign_of (negsuc n) = 45 ∷ []

unfoldable pub signed_of : ℤ → List ℕ
signed_of z = sign_of z ++ decimal_of (nat_abs z)

-- behind the k-th of sixteen numbers: a blank, and a new line behind the last
abbrev pub behind : ℕ → ℕ
behind k = cond (eqb k 15) 10 32

-- sixteen texts in a line
unfoldable pub line_of : (ℕ → List ℕ) → List ℕ
line_of text = parts 16 (λ k. text k ++ (behind k ∷ []))

-- ---- text in a buffer of 1024 bytes, the others 0

unfoldable pub padded : List ℕ → List ℕ
padded w = w ++ replicate (1024 - length w) 0

pub record Written (w : List ℕ) (t : Text) : Type 0 where
  pub bytes : t.bytes ≡ padded w
  pub count : t.len ≡ length w
