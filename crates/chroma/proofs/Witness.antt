-- Inputs at which a faulty definition would answer otherwise. The numbers are those of a program that was written from clause 8.3.4 of the standard
-- alone. Assumes nothing.
use mathlib.Core.Path.{◌≡◌, refl}
use mathlib.Core.List.{List, [], ◌∷◌, ◌++◌, map}
use Prim.Native.Nat.{ℕ}
use lib.ListN.{get_or, replicate}
use Rattle.lists.specs.Fold.{fold}
use Rattle.lists.specs.Tab.{tab, grid}
use Rattle.lists.specs.Total.{total}
use Rattle.whole.specs.Clip.{clip}
use Rattle.choice.specs.Choice.{at, sad, best_of}
use Rattle.intra4.specs.Samples.{bit_of}
use Rattle.intra4.specs.Rules.{samples, none, samples_of, vertical, horizontal}
use Rattle.sides.specs.Samples.{mask}
use Rattle.sides.specs.Plane.{slope, gain, tilt, slanted, plane}
use Rattle.chroma.specs.Rules.{predicted}
use Rattle.chroma.specs.Choice.{chosen_for_both}

-- nothing is present: DC is 128, whatever was lent, and it is mode 0
pub nothing_is_128 : predicted (mask 8 (replicate 17 0) 0) 0 ≡ samples (replicate 64 128)
unfolding predicted bit_of grid tab
nothing_is_128 = refl

-- both sides are present and the corner is missing: plane has no prediction
pub no_corner : predicted (mask 8 (replicate 17 77) 3) 3 ≡ none
unfolding predicted bit_of
no_corner = refl

-- corner, above, left: sides so steep that a plane leaves 0..255, and sides that it follows
pub steep_eight : List ℕ
steep_eight = 7 ∷ 3 ∷ 31 ∷ 50 ∷ 44 ∷ 90 ∷ 121 ∷ 130 ∷ 190 ∷ 200 ∷ 180 ∷ 150 ∷ 155 ∷ 90 ∷ 60 ∷ 20 ∷ 1 ∷ []

pub gentle_eight : List ℕ
gentle_eight = 100 ∷ 101 ∷ 99 ∷ 104 ∷ 106 ∷ 110 ∷ 111 ∷ 115 ∷ 118 ∷ 98 ∷ 97 ∷ 99 ∷ 95 ∷ 92 ∷ 93 ∷ 90 ∷ 88 ∷ []

-- both sides: each quarter has its own mean
pub dc_of_both : predicted (mask 8 steep_eight 3) 0
    ≡ samples (102 ∷ 102 ∷ 102 ∷ 102 ∷ 133 ∷ 133 ∷ 133 ∷ 133
    ∷ 102 ∷ 102 ∷ 102 ∷ 102 ∷ 133 ∷ 133 ∷ 133 ∷ 133
    ∷ 102 ∷ 102 ∷ 102 ∷ 102 ∷ 133 ∷ 133 ∷ 133 ∷ 133
    ∷ 102 ∷ 102 ∷ 102 ∷ 102 ∷ 133 ∷ 133 ∷ 133 ∷ 133
    ∷ 43 ∷ 43 ∷ 43 ∷ 43 ∷ 88 ∷ 88 ∷ 88 ∷ 88
    ∷ 43 ∷ 43 ∷ 43 ∷ 43 ∷ 88 ∷ 88 ∷ 88 ∷ 88
    ∷ 43 ∷ 43 ∷ 43 ∷ 43 ∷ 88 ∷ 88 ∷ 88 ∷ 88
    ∷ 43 ∷ 43 ∷ 43 ∷ 43 ∷ 88 ∷ 88 ∷ 88 ∷ 88
    ∷ [])
unfolding predicted bit_of grid tab total steep_eight
dc_of_both = refl

-- a sample of each quarter: upper left, upper right, lower left, lower right
abbrev corners : List ℕ → List ℕ
corners l = map (λ (k : ℕ). get_or l k 0) (0 ∷ 7 ∷ 56 ∷ 63 ∷ [])

-- what is above alone: the quarters of a column are alike; what is at the left alone: those of a row
pub dc_of_above : corners (samples_of (predicted (mask 8 steep_eight 1) 0)) ≡ 32 ∷ 133 ∷ 32 ∷ 133 ∷ []
unfolding predicted bit_of grid tab total steep_eight
dc_of_above = refl

pub dc_of_left : corners (samples_of (predicted (mask 8 steep_eight 2) 0)) ≡ 171 ∷ 171 ∷ 43 ∷ 43 ∷ []
unfolding predicted bit_of grid tab total steep_eight
dc_of_left = refl

-- 1 is horizontal and 2 vertical: the corners of either
pub horizontal_is_1 : corners (samples_of (predicted (mask 8 steep_eight 3) 1)) ≡ 200 ∷ 200 ∷ 1 ∷ 1 ∷ []
unfolding predicted bit_of grid tab steep_eight horizontal
horizontal_is_1 = refl

pub vertical_is_2 : corners (samples_of (predicted (mask 8 steep_eight 3) 2)) ≡ 3 ∷ 190 ∷ 3 ∷ 190 ∷ []
unfolding predicted bit_of grid tab steep_eight vertical
vertical_is_2 = refl

pub steep_plane_eight : predicted (mask 8 steep_eight 7) 3
    ≡ samples (72 ∷ 94 ∷ 116 ∷ 139 ∷ 161 ∷ 183 ∷ 205 ∷ 227
    ∷ 58 ∷ 80 ∷ 102 ∷ 124 ∷ 146 ∷ 168 ∷ 191 ∷ 213
    ∷ 43 ∷ 66 ∷ 88 ∷ 110 ∷ 132 ∷ 154 ∷ 176 ∷ 198
    ∷ 29 ∷ 51 ∷ 73 ∷ 96 ∷ 118 ∷ 140 ∷ 162 ∷ 184
    ∷ 15 ∷ 37 ∷ 59 ∷ 81 ∷ 103 ∷ 125 ∷ 148 ∷ 170
    ∷ 0 ∷ 23 ∷ 45 ∷ 67 ∷ 89 ∷ 111 ∷ 133 ∷ 155
    ∷ 0 ∷ 8 ∷ 30 ∷ 52 ∷ 75 ∷ 97 ∷ 119 ∷ 141
    ∷ 0 ∷ 0 ∷ 16 ∷ 38 ∷ 60 ∷ 82 ∷ 105 ∷ 127
    ∷ [])
unfolding predicted bit_of grid tab steep_eight plane slanted tilt gain slope clip
steep_plane_eight = refl

pub gentle_plane_eight : predicted (mask 8 gentle_eight 7) 3
    ≡ samples (100 ∷ 103 ∷ 105 ∷ 107 ∷ 110 ∷ 112 ∷ 115 ∷ 117
    ∷ 99 ∷ 101 ∷ 103 ∷ 106 ∷ 108 ∷ 111 ∷ 113 ∷ 116
    ∷ 97 ∷ 100 ∷ 102 ∷ 104 ∷ 107 ∷ 109 ∷ 112 ∷ 114
    ∷ 96 ∷ 98 ∷ 101 ∷ 103 ∷ 105 ∷ 108 ∷ 110 ∷ 113
    ∷ 94 ∷ 97 ∷ 99 ∷ 102 ∷ 104 ∷ 106 ∷ 109 ∷ 111
    ∷ 93 ∷ 95 ∷ 98 ∷ 100 ∷ 103 ∷ 105 ∷ 107 ∷ 110
    ∷ 91 ∷ 94 ∷ 96 ∷ 99 ∷ 101 ∷ 104 ∷ 106 ∷ 108
    ∷ 90 ∷ 92 ∷ 95 ∷ 97 ∷ 100 ∷ 102 ∷ 104 ∷ 107
    ∷ [])
unfolding predicted bit_of grid tab gentle_eight plane slanted tilt gain slope clip
gentle_plane_eight = refl

-- 100 above and 50 at the left of both planes
abbrev bright : List ℕ
bright = 0 ∷ replicate 8 100 ++ replicate 8 50

-- Cb is horizontal and Cr vertical, each without any difference: either mode costs 3200 in the other plane, and so does DC in both together, whose
-- number is the lowest
pub one_mode_for_both : chosen_for_both (mask 8 bright 3) (mask 8 bright 3) (replicate 64 50) (replicate 64 100) ≡ at 0 3200
unfolding chosen_for_both predicted bit_of grid tab total fold sad best_of vertical horizontal
one_mode_for_both = refl

-- Cb alone would be horizontal (640, beside 2560); both together are vertical
pub less_in_both : chosen_for_both (mask 8 bright 3) (mask 8 bright 3) (replicate 64 60) (replicate 64 101) ≡ at 2 2624
unfolding chosen_for_both predicted bit_of grid tab total fold sad best_of vertical horizontal
less_in_both = refl
