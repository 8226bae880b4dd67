-- The four modes of chroma, 8 by 8 samples: what each needs, and its samples (02, Req 05; ITU-T H.264, 8.3.4). Horizontal, vertical and plane are the
-- rules of `intra4/specs/Rules` and `sides/specs/Plane` at 8; what stands round is `mask 8` of `sides/specs/Samples`. Assumes nothing.
use Rattle.std.specs.Prelude.{Bool, true, false, cond, List, [], ◌∷◌, ℕ, ◌*◌, ◌/◌, eqb, ltb, get_or, take, drop}
use Rattle.lists.specs.Tab.{grid}
use Rattle.intra4.specs.Samples.{Side, here, missing, Round, bit_of, all_present}
use Rattle.intra4.specs.Rules.{Predicted, samples, none, one, three, mean, vertical, horizontal}
use Rattle.sides.specs.Plane.{plane}

-- 8.3.4: the four samples of a side beside the k-th quarter along it (from x = 4 * k above, from y = 4 * k at the left)
abbrev pub along_of : ℕ → Side → Side
along_of k (here l) = here (take 4 (drop (4 * k) l))
along_of k missing = missing

-- 8.3.4.2 and 8.3.4.3: a side, or the other where it is missing
abbrev pub or_else : Side → Side → Side
or_else (here l) other = here l
or_else missing other = other

-- 8.3.4.1 to 8.3.4.3, DC of the quarter in column u, row v: both sides on the diagonal; at the upper right above, else left; at the lower left left, else above
abbrev pub quarter_dc : Round → (u v : ℕ) → ℕ
quarter_dc r u v =
    let above = along_of u r.above in
    let left = along_of v r.left in
    cond (eqb u v) (mean 4 above left) (mean 4 (cond (ltb v u) (or_else above left) (or_else left above)) missing)

-- 8.3.4, in the order of the numbers (Table 8-5): 0 DC, 1 horizontal, 2 vertical, 3 plane
abbrev pub modes : Round → List Predicted
modes r =
    samples (grid 8 (λ x y. quarter_dc r (x / 4) (y / 4)))
    ∷ one 8 r.left horizontal
    ∷ one 8 r.above vertical
    ∷ three 8 r (plane 8)
    ∷ []

-- 02, Req 05: a number above 3 is no mode
unfoldable pub predicted : Round → ℕ → Predicted
predicted r m = get_or (modes r) m none

-- 8.3.4: what each needs, by the flags alone
unfoldable pub permitted : ℕ → ℕ → Bool
permitted f m = get_or (true ∷ bit_of f 1 ∷ bit_of f 0 ∷ all_present f ∷ []) m false
