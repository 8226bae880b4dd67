-- What the code's rows and its area of nine predictions hold. No contract of a public function cites these.
-- Assumes nothing.
use Rattle.std.specs.Prelude.{◌≡◌, cond, List, [], ◌∷◌, ℕ, ◌<◌, ℤ, get_or, take, drop}
use Rattle.lists.specs.Tab.{tab, grid}
use Rattle.choice.specs.Choice.{Cost, is, no, sad}
use Rattle.intra4.specs.Samples.{bit_of, side_if}
use Rattle.intra4.specs.Rules.{row_of, mean, permitted, vertical, horizontal, down_left, down_right, vertical_right, horizontal_down, vertical_left, horizontal_up}
use Rattle.intra4.specs.declared.Chosen.{Chosen}
use Rattle.intra4.specs.declared.inner.Choice.{Choice}

-- T or S over a row of the code, which has the corner in front; and the same for a mode that is shown no corner
abbrev pub with_corner : List ℕ → ℤ → ℕ
with_corner l = row_of (take 1 l) (drop 1 l)

abbrev pub past_corner : List ℕ → ℤ → ℕ
past_corner l = row_of [] (drop 1 l)

-- M, A to H with what stands for E to H; and M, I to L: whatever is lent there, missing or not
abbrev pub top_row : List ℕ → ℕ → List ℕ
top_row n f =
    let right : ℕ → ℕ = λ k. cond (bit_of f 3) (get_or n k 0) (get_or n 4 0) in
    get_or n 0 0 ∷ get_or n 1 0 ∷ get_or n 2 0 ∷ get_or n 3 0 ∷ get_or n 4 0 ∷ right 5 ∷ right 6 ∷ right 7 ∷ right 8 ∷ []

abbrev pub left_row : List ℕ → List ℕ
left_row n = get_or n 0 0 ∷ get_or n 9 0 ∷ get_or n 10 0 ∷ get_or n 11 0 ∷ get_or n 12 0 ∷ []

-- the mean of what the flags leave of the rows, past the corner
abbrev pub mean_of : (t s : List ℕ) → ℕ → ℕ
mean_of t s f = mean 4 (side_if (bit_of f 0) (drop 1 t)) (side_if (bit_of f 1) (drop 1 s))

-- what a rule of the code may answer at columns and rows below 4 (`post`) is g x y and nothing else
abbrev pub Gives : (post : ℕ → ℕ → ℕ → Type 0) → (g : ℕ → ℕ → ℕ) → Type 0
Gives post g = (x y v : ℕ) → x < 4 → y < 4 → post x y v → v ≡ g x y

-- a mode's sixteen samples over the rows
unfoldable pub filled : (t s : List ℕ) → ℕ → ℕ → List ℕ
filled t s f m =
    get_or (grid 4 (vertical (past_corner t))
    ∷ grid 4 (horizontal (past_corner s))
    ∷ grid 4 (λ x y. mean_of t s f)
    ∷ grid 4 (down_left (past_corner t))
    ∷ grid 4 (down_right (with_corner t) (with_corner s))
    ∷ grid 4 (vertical_right (with_corner t) (with_corner s))
    ∷ grid 4 (horizontal_down (with_corner t) (with_corner s))
    ∷ grid 4 (vertical_left (past_corner t))
    ∷ grid 4 (horizontal_up (past_corner s))
    ∷ []) m []

-- all nine
abbrev pub area_filled : (t s : List ℕ) → ℕ → List (List ℕ)
area_filled t s f = tab 9 (filled t s f)

-- a mode's cost, read from the area
unfoldable pub area_cost : List (List ℕ) → ℕ → List ℕ → ℕ → Cost
area_cost area f block m = cond (permitted f m) (is (sad 16 (get_or area m []) block)) no

-- what the code has found, with the samples that it has written
abbrev pub with_samples : Chosen → List ℕ → Choice
with_samples b l = record { mode = b.mode; sad = b.sad; prediction = l }
