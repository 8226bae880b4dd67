-- A macroblock as one block, in a plane where it has s by s samples: 16 by 16 in luma (02, request 01; clause 8.3.3), 8 by 8 in chroma
-- (clause 8.3.4). Its neighbours are the corner, the s samples above and the s at the left: all of them of other macroblocks, so these alone
-- decide what is present. Assumes nothing.
use Rattle.std.specs.Prelude.{◌≡◌, Bool, true, cond, ◌&&◌, List, ℕ, ◌+◌, ◌*◌, ◌-◌, ◌<◌, leb}
use Rattle.lists.specs.Every.{every}
use Rattle.lists.specs.Tab.{tab}
use Rattle.picture.specs.declared.Layout.{Layout}
use Rattle.picture.specs.Order.{macroblock_in}
pub use Rattle.picture.specs.Order.{whole_column, whole_row}
use Rattle.picture.specs.Plane.{stride, sample_at, block_at, stored}
use Rattle.picture.specs.Presence.{inside_plane, macroblock_present}

-- the s by s samples of macroblock m, in raster order: read, and stored
abbrev pub whole_of : (s : ℕ) → Layout → (m : ℕ) → List ℕ → List ℕ
whole_of s l m plane = block_at s (stride s l) (whole_column s l m) (whole_row s l m) plane

abbrev pub with_whole : (s : ℕ) → Layout → (m : ℕ) → List ℕ → List ℕ → List ℕ
with_whole s l m block plane = stored s (stride s l) (whole_column s l m) (whole_row s l m) block plane

-- column and row of neighbour k, in the order corner, s above, s at the left, counted from a margin of one as in `Presence`
abbrev pub round_column : (s : ℕ) → Layout → (m k : ℕ) → ℕ
round_column s l m k = cond (leb k s) (whole_column s l m + k) (whole_column s l m)

abbrev pub round_row : (s : ℕ) → Layout → (m k : ℕ) → ℕ
round_row s l m k = cond (leb k s) (whole_row s l m) (whole_row s l m + (k - s))

-- whether it is present: "it lies inside the picture", and its macroblock is present to macroblock m
unfoldable pub present_round : (s : ℕ) → Layout → (m k : ℕ) → Bool
present_round s l m k =
    inside_plane s l (round_column s l m k) (round_row s l m k)
    && macroblock_present l m (macroblock_in s l (round_column s l m k - 1) (round_row s l m k - 1))

-- "One flags byte says what is present", as for 4x4: bit 0 the s above, bit 1 the s at the left, bit 2 the corner
unfoldable pub flags_round : (s : ℕ) → Layout → (m : ℕ) → ℕ
flags_round s l m =
    cond (every s (λ i. present_round s l m (1 + i))) 1 0
    + cond (every s (λ i. present_round s l m (s + 1 + i))) 2 0
    + cond (present_round s l m 0) 4 0

-- neighbour k. A missing one has no value: 0 stands in its place, and what is made of the neighbours must ask the flags first
unfoldable pub round_sample : (s : ℕ) → Layout → (m : ℕ) → List ℕ → ℕ → ℕ
round_sample s l m plane k =
    cond (present_round s l m k) (sample_at (stride s l) plane (round_column s l m k - 1) (round_row s l m k - 1)) 0

-- all of them
unfoldable pub gathered_round : (s : ℕ) → Layout → (m : ℕ) → List ℕ → List ℕ
gathered_round s l m plane = tab (2 * s + 1) (round_sample s l m plane)

-- two planes that agree at every neighbour of macroblock m that is present: all that it may go by (01, "Plane and record file"; 02, Req 05:
-- "Demand 1's rule on missing samples .. hold for the chroma planes too")
abbrev pub AgreeRound : (s : ℕ) → Layout → (m : ℕ) → (p q : List ℕ) → Type 0
AgreeRound s l m p q = (k : ℕ) → k < 2 * s + 1 → present_round s l m k ≡ true
    → sample_at (stride s l) p (round_column s l m k - 1) (round_row s l m k - 1) ≡ sample_at (stride s l) q (round_column s l m k - 1) (round_row s l m k - 1)

-- the macroblock's turn: `make m` makes its s by s samples of its neighbours, which "are rebuilt samples"
unfoldable pub whole_turn : (s : ℕ) → (make : ℕ → List ℕ → List ℕ) → Layout → (m : ℕ) → List ℕ → List ℕ
whole_turn s make l m plane = with_whole s l m (make m (gathered_round s l m plane)) plane
