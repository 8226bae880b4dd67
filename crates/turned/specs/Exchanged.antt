-- "exchanging A-D with I-L and their flags, M kept, turns mode 0 into 1 and 5 into 6 and back, and keeps 4 and DC, samples transposed"
-- (02, Req 12). Assumes nothing.
use Rattle.std.specs.Prelude.{◌≡◌, true, List, ◌++◌, ℕ, ◌+◌, ◌*◌, ◌/◌, ◌%◌}
use Rattle.intra4.specs.Samples.{corner_of, above_of, upper_right_of, left_of, bit_of}
use Rattle.intra4.specs.Rules.{Predicted, samples, none}
use Rattle.turned.specs.Square.{turned_samples}

-- n' with the flags f' is n with the flags f, A-D and I-L exchanged, M kept. Samples count where they are present.
-- Of E-H and their flag nothing is asked, on either side: the modes of `Becomes` do not see them
pub record Exchanged (n : List ℕ) (f : ℕ) (n' : List ℕ) (f' : ℕ) : Type 0 where
  -- "and their flags": bit 0 is A-D, bit 1 is I-L, bit 2 is M
  pub above_flag : bit_of f' 0 ≡ bit_of f 1
  pub left_flag : bit_of f' 1 ≡ bit_of f 0
  pub corner_flag : bit_of f' 2 ≡ bit_of f 2
  -- "A-D with I-L", "M kept"
  pub above : bit_of f 1 ≡ true → above_of n' ≡ left_of n
  pub left : bit_of f 0 ≡ true → left_of n' ≡ above_of n
  pub corner : bit_of f 2 ≡ true → corner_of n' ≡ corner_of n

-- the plain way to exchange them: E-H and their flag stay
abbrev pub exchanged_neighbours : List ℕ → List ℕ
exchanged_neighbours n = corner_of n ++ left_of n ++ upper_right_of n ++ above_of n

abbrev pub exchanged_flags : ℕ → ℕ
exchanged_flags f = f / 2 % 2 + 2 * (f % 2) + 4 * (f / 4)

-- "turns mode 0 into 1 and 5 into 6 and back, and keeps 4 and DC"
pub data Becomes : ℕ → ℕ → Type 0 where
  from_vertical : Becomes 0 1
  from_horizontal : Becomes 1 0
  dc_stays : Becomes 2 2
  down_right_stays : Becomes 4 4
  from_vertical_right : Becomes 5 6
  from_horizontal_down : Becomes 6 5

-- "samples transposed"; where there is no prediction there is none
abbrev pub turned_prediction : Predicted → Predicted
turned_prediction (samples l) = samples (turned_samples l)
turned_prediction none = none
