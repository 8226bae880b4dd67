-- The four modes of Intra 16x16: what each needs, and its samples (02, Req 01; ITU-T H.264, 8.3.3). Vertical, horizontal and DC are the rules of
-- `intra4/specs/Rules` at 16. Assumes nothing.
use Rattle.std.specs.Prelude.{Bool, true, false, List, [], ◌∷◌, ℕ, get_or}
use Rattle.lists.specs.Tab.{grid}
use Rattle.intra4.specs.Samples.{Round, bit_of, all_present}
use Rattle.intra4.specs.Rules.{Predicted, samples, none, one, three, mean, vertical, horizontal}
use Rattle.sides.specs.Plane.{plane}

-- in the order of the numbers (Table 8-4): 0 vertical, 1 horizontal, 2 DC, 3 plane
abbrev pub modes : Round → List Predicted
modes r =
    one 16 r.above vertical
    ∷ one 16 r.left horizontal
    ∷ samples (grid 16 (λ x y. mean 16 r.above r.left))
    ∷ three 16 r (plane 16)
    ∷ []

-- a number above 3 is no mode
unfoldable pub predicted : Round → ℕ → Predicted
predicted r m = get_or (modes r) m none

-- what each needs, by the flags alone: "plane needs top, left and corner"
unfoldable pub permitted : ℕ → ℕ → Bool
permitted f m = get_or (bit_of f 0 ∷ bit_of f 1 ∷ true ∷ all_present f ∷ []) m false
