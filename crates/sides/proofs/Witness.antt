-- Inputs at which a faulty definition would answer otherwise. The numbers are those of a program that was written from the standard alone.
-- Assumes nothing.
use mathlib.Core.Path.{◌≡◌, refl}
use mathlib.Core.List.{List, [], ◌∷◌}
use Prim.Native.Nat.{ℕ}
use lib.ListN.{replicate}
use Rattle.lists.specs.Tab.{tab, grid}
use Rattle.lists.specs.Total.{total}
use Rattle.whole.specs.Clip.{clip}
use Rattle.intra4.specs.Samples.{bit_of}
use Rattle.intra4.specs.Rules.{samples, none}
use Rattle.sides.specs.Samples.{mask}
use Rattle.sides.specs.Plane.{slope, gain, tilt, slanted, plane}
use Rattle.sides.specs.Rules.{predicted}

-- nothing is present: DC is 128, whatever was lent
pub nothing_is_128 : predicted (mask 16 (replicate 33 0) 0) 2 ≡ samples (replicate 256 128)
unfolding predicted bit_of grid tab
nothing_is_128 = refl

-- both sides are present and the corner is missing: plane has no prediction
pub no_corner : predicted (mask 16 (replicate 33 77) 3) 3 ≡ none
unfolding predicted bit_of
no_corner = refl

-- corner, above, left: sides that a plane follows, and sides so steep that it leaves 0..255 at both ends
pub gentle : List ℕ
gentle = 91 ∷ 92 ∷ 103 ∷ 99 ∷ 114 ∷ 119 ∷ 111 ∷ 132 ∷ 132 ∷ 134 ∷ 139 ∷ 149 ∷ 135 ∷ 153 ∷ 144 ∷ 152 ∷ 157 ∷ 104 ∷ 105 ∷ 109 ∷ 103 ∷ 105 ∷ 97 ∷ 99 ∷ 88 ∷ 91 ∷ 77 ∷ 89 ∷ 79 ∷ 74 ∷ 63 ∷ 72 ∷ 58 ∷ []

pub steep : List ℕ
steep = 3 ∷ 0 ∷ 9 ∷ 4 ∷ 20 ∷ 15 ∷ 60 ∷ 70 ∷ 110 ∷ 140 ∷ 150 ∷ 201 ∷ 220 ∷ 240 ∷ 251 ∷ 255 ∷ 250 ∷ 10 ∷ 30 ∷ 20 ∷ 40 ∷ 77 ∷ 66 ∷ 90 ∷ 120 ∷ 133 ∷ 170 ∷ 160 ∷ 200 ∷ 213 ∷ 230 ∷ 240 ∷ 255 ∷ []

-- both sides and one: the sums are 1995 and 2054, so each mean is rounded up
pub mean_of_both : predicted (mask 16 steep 3) 2 ≡ samples (replicate 256 127)
unfolding predicted bit_of grid tab total steep
mean_of_both = refl

pub mean_of_above : predicted (mask 16 steep 1) 2 ≡ samples (replicate 256 125)
unfolding predicted bit_of grid tab total steep
mean_of_above = refl

pub gentle_plane : predicted (mask 16 gentle 7) 3
    ≡ samples (97 ∷ 101 ∷ 106 ∷ 110 ∷ 114 ∷ 118 ∷ 122 ∷ 126 ∷ 130 ∷ 135 ∷ 139 ∷ 143 ∷ 147 ∷ 151 ∷ 155 ∷ 160
    ∷ 95 ∷ 99 ∷ 103 ∷ 107 ∷ 111 ∷ 115 ∷ 119 ∷ 124 ∷ 128 ∷ 132 ∷ 136 ∷ 140 ∷ 144 ∷ 149 ∷ 153 ∷ 157
    ∷ 92 ∷ 96 ∷ 100 ∷ 104 ∷ 108 ∷ 113 ∷ 117 ∷ 121 ∷ 125 ∷ 129 ∷ 133 ∷ 138 ∷ 142 ∷ 146 ∷ 150 ∷ 154
    ∷ 89 ∷ 93 ∷ 97 ∷ 102 ∷ 106 ∷ 110 ∷ 114 ∷ 118 ∷ 122 ∷ 127 ∷ 131 ∷ 135 ∷ 139 ∷ 143 ∷ 147 ∷ 152
    ∷ 86 ∷ 91 ∷ 95 ∷ 99 ∷ 103 ∷ 107 ∷ 111 ∷ 116 ∷ 120 ∷ 124 ∷ 128 ∷ 132 ∷ 136 ∷ 141 ∷ 145 ∷ 149
    ∷ 84 ∷ 88 ∷ 92 ∷ 96 ∷ 100 ∷ 105 ∷ 109 ∷ 113 ∷ 117 ∷ 121 ∷ 125 ∷ 130 ∷ 134 ∷ 138 ∷ 142 ∷ 146
    ∷ 81 ∷ 85 ∷ 89 ∷ 94 ∷ 98 ∷ 102 ∷ 106 ∷ 110 ∷ 114 ∷ 119 ∷ 123 ∷ 127 ∷ 131 ∷ 135 ∷ 139 ∷ 143
    ∷ 78 ∷ 83 ∷ 87 ∷ 91 ∷ 95 ∷ 99 ∷ 103 ∷ 108 ∷ 112 ∷ 116 ∷ 120 ∷ 124 ∷ 128 ∷ 132 ∷ 137 ∷ 141
    ∷ 76 ∷ 80 ∷ 84 ∷ 88 ∷ 92 ∷ 97 ∷ 101 ∷ 105 ∷ 109 ∷ 113 ∷ 117 ∷ 121 ∷ 126 ∷ 130 ∷ 134 ∷ 138
    ∷ 73 ∷ 77 ∷ 81 ∷ 86 ∷ 90 ∷ 94 ∷ 98 ∷ 102 ∷ 106 ∷ 110 ∷ 115 ∷ 119 ∷ 123 ∷ 127 ∷ 131 ∷ 135
    ∷ 70 ∷ 75 ∷ 79 ∷ 83 ∷ 87 ∷ 91 ∷ 95 ∷ 99 ∷ 104 ∷ 108 ∷ 112 ∷ 116 ∷ 120 ∷ 124 ∷ 129 ∷ 133
    ∷ 68 ∷ 72 ∷ 76 ∷ 80 ∷ 84 ∷ 88 ∷ 93 ∷ 97 ∷ 101 ∷ 105 ∷ 109 ∷ 113 ∷ 118 ∷ 122 ∷ 126 ∷ 130
    ∷ 65 ∷ 69 ∷ 73 ∷ 77 ∷ 82 ∷ 86 ∷ 90 ∷ 94 ∷ 98 ∷ 102 ∷ 107 ∷ 111 ∷ 115 ∷ 119 ∷ 123 ∷ 127
    ∷ 62 ∷ 66 ∷ 71 ∷ 75 ∷ 79 ∷ 83 ∷ 87 ∷ 91 ∷ 96 ∷ 100 ∷ 104 ∷ 108 ∷ 112 ∷ 116 ∷ 120 ∷ 125
    ∷ 60 ∷ 64 ∷ 68 ∷ 72 ∷ 76 ∷ 80 ∷ 85 ∷ 89 ∷ 93 ∷ 97 ∷ 101 ∷ 105 ∷ 109 ∷ 114 ∷ 118 ∷ 122
    ∷ 57 ∷ 61 ∷ 65 ∷ 69 ∷ 74 ∷ 78 ∷ 82 ∷ 86 ∷ 90 ∷ 94 ∷ 98 ∷ 103 ∷ 107 ∷ 111 ∷ 115 ∷ 119
    ∷ [])
unfolding predicted bit_of grid tab gentle plane slanted tilt gain slope clip
gentle_plane = refl

pub steep_plane : predicted (mask 16 steep 7) 3
    ≡ samples (0 ∷ 17 ∷ 37 ∷ 56 ∷ 76 ∷ 95 ∷ 115 ∷ 134 ∷ 154 ∷ 173 ∷ 193 ∷ 212 ∷ 232 ∷ 251 ∷ 255 ∷ 255
    ∷ 14 ∷ 34 ∷ 53 ∷ 73 ∷ 92 ∷ 112 ∷ 132 ∷ 151 ∷ 171 ∷ 190 ∷ 210 ∷ 229 ∷ 249 ∷ 255 ∷ 255 ∷ 255
    ∷ 31 ∷ 51 ∷ 70 ∷ 90 ∷ 109 ∷ 129 ∷ 148 ∷ 168 ∷ 188 ∷ 207 ∷ 227 ∷ 246 ∷ 255 ∷ 255 ∷ 255 ∷ 255
    ∷ 48 ∷ 68 ∷ 87 ∷ 107 ∷ 126 ∷ 146 ∷ 165 ∷ 185 ∷ 204 ∷ 224 ∷ 243 ∷ 255 ∷ 255 ∷ 255 ∷ 255 ∷ 255
    ∷ 65 ∷ 85 ∷ 104 ∷ 124 ∷ 143 ∷ 163 ∷ 182 ∷ 202 ∷ 221 ∷ 241 ∷ 255 ∷ 255 ∷ 255 ∷ 255 ∷ 255 ∷ 255
    ∷ 82 ∷ 102 ∷ 121 ∷ 141 ∷ 160 ∷ 180 ∷ 199 ∷ 219 ∷ 238 ∷ 255 ∷ 255 ∷ 255 ∷ 255 ∷ 255 ∷ 255 ∷ 255
    ∷ 99 ∷ 118 ∷ 138 ∷ 157 ∷ 177 ∷ 197 ∷ 216 ∷ 236 ∷ 255 ∷ 255 ∷ 255 ∷ 255 ∷ 255 ∷ 255 ∷ 255 ∷ 255
    ∷ 116 ∷ 135 ∷ 155 ∷ 174 ∷ 194 ∷ 213 ∷ 233 ∷ 253 ∷ 255 ∷ 255 ∷ 255 ∷ 255 ∷ 255 ∷ 255 ∷ 255 ∷ 255
    ∷ 133 ∷ 152 ∷ 172 ∷ 191 ∷ 211 ∷ 230 ∷ 250 ∷ 255 ∷ 255 ∷ 255 ∷ 255 ∷ 255 ∷ 255 ∷ 255 ∷ 255 ∷ 255
    ∷ 150 ∷ 169 ∷ 189 ∷ 208 ∷ 228 ∷ 247 ∷ 255 ∷ 255 ∷ 255 ∷ 255 ∷ 255 ∷ 255 ∷ 255 ∷ 255 ∷ 255 ∷ 255
    ∷ 167 ∷ 186 ∷ 206 ∷ 225 ∷ 245 ∷ 255 ∷ 255 ∷ 255 ∷ 255 ∷ 255 ∷ 255 ∷ 255 ∷ 255 ∷ 255 ∷ 255 ∷ 255
    ∷ 183 ∷ 203 ∷ 222 ∷ 242 ∷ 255 ∷ 255 ∷ 255 ∷ 255 ∷ 255 ∷ 255 ∷ 255 ∷ 255 ∷ 255 ∷ 255 ∷ 255 ∷ 255
    ∷ 200 ∷ 220 ∷ 239 ∷ 255 ∷ 255 ∷ 255 ∷ 255 ∷ 255 ∷ 255 ∷ 255 ∷ 255 ∷ 255 ∷ 255 ∷ 255 ∷ 255 ∷ 255
    ∷ 217 ∷ 237 ∷ 255 ∷ 255 ∷ 255 ∷ 255 ∷ 255 ∷ 255 ∷ 255 ∷ 255 ∷ 255 ∷ 255 ∷ 255 ∷ 255 ∷ 255 ∷ 255
    ∷ 234 ∷ 254 ∷ 255 ∷ 255 ∷ 255 ∷ 255 ∷ 255 ∷ 255 ∷ 255 ∷ 255 ∷ 255 ∷ 255 ∷ 255 ∷ 255 ∷ 255 ∷ 255
    ∷ 251 ∷ 255 ∷ 255 ∷ 255 ∷ 255 ∷ 255 ∷ 255 ∷ 255 ∷ 255 ∷ 255 ∷ 255 ∷ 255 ∷ 255 ∷ 255 ∷ 255 ∷ 255
    ∷ [])
unfolding predicted bit_of grid tab steep plane slanted tilt gain slope clip
steep_plane = refl
