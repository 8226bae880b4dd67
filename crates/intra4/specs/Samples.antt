-- What stands round a block, and the mask that leaves a missing sample without a value (01, "Samples round a block").
-- Assumes nothing.
use Rattle.std.specs.Prelude.{◌≡◌, Bool, true, cond, ◌&&◌, List, ◌++◌, ℕ, ◌/◌, ◌%◌, ◌^◌, eqb, length, get_or, take, drop, replicate}

-- "They are lent in the order M, A to H, I to L": M,
abbrev pub corner_of : List ℕ → List ℕ
corner_of n = take 1 n

-- A B C D,
abbrev pub above_of : List ℕ → List ℕ
above_of n = take 4 (drop 1 n)

-- E F G H,
abbrev pub upper_right_of : List ℕ → List ℕ
upper_right_of n = take 4 (drop 5 n)

-- I J K L
abbrev pub left_of : List ℕ → List ℕ
left_of n = take 4 (drop 9 n)

-- bit k of the flags byte: "bit 0 A-D, bit 1 I-L, bit 2 M, bit 3 E-H"
unfoldable pub bit_of : ℕ → ℕ → Bool
bit_of f k = eqb (f / 2 ^ k % 2) 1

-- the samples of a side; a missing one has no value
pub data Side : Type 0 where
  here : List ℕ → Side
  missing : Side

abbrev pub side_if : Bool → List ℕ → Side
side_if present l = cond present (here l) missing

pub record Round : Type 0 where
  pub above : Side
  pub left : Side
  pub corner : Side

-- "If E-H are missing and A-D present, each of E-H is taken as D": A to H, where D is the last of A-D
abbrev pub eight_of : List ℕ → Bool → List ℕ
eight_of n present = above_of n ++ cond present (upper_right_of n) (replicate 4 (get_or (above_of n) 3 0))

-- what the flags leave of what is above, at the left and in the corner
abbrev pub masked : (above left corner : List ℕ) → ℕ → Round
masked above left corner f = record {
  above = side_if (bit_of f 0) above;
  left = side_if (bit_of f 1) left;
  corner = side_if (bit_of f 2) corner;
}

-- all that a prediction may see: "If A-D are missing, E-H serve no mode"
abbrev pub mask : List ℕ → ℕ → Round
mask n f = masked (eight_of n (bit_of f 3)) (left_of n) (corner_of n) f

-- "all": A-D, I-L and M are present
abbrev pub all_present : ℕ → Bool
all_present f = bit_of f 0 && (bit_of f 1 && bit_of f 2)

-- lists that agree wherever the flags f say that a sample is present: "bit 0 A-D, bit 1 I-L, bit 2 M, bit 3 E-H"; E-H count only where A-D
-- are present too
pub record AgreeWherePresent (f : ℕ) (n n' : List ℕ) : Type 0 where
  pub long : length n ≡ length n'
  pub above : bit_of f 0 ≡ true → above_of n ≡ above_of n'
  pub upper_right : bit_of f 0 ≡ true → bit_of f 3 ≡ true → upper_right_of n ≡ upper_right_of n'
  pub left : bit_of f 1 ≡ true → left_of n ≡ left_of n'
  pub corner : bit_of f 2 ≡ true → corner_of n ≡ corner_of n'
