-- Plane prediction of n by n samples (ITU-T H.264, 8.3.3.4 at n = 16; 8.3.4.4 is the same at n = 8 in 4:2:0).
-- T and S are those of `intra4/specs/Rules`: T (pos x) is p[x, -1], S (pos y) is p[-1, y], and at -1 both are the corner p[-1, -1].
-- Assumes nothing.
use Rattle.std.specs.Prelude.{cond, ℕ, ◌+◌, ◌-◌, ◌/◌, eqb, ℤ, pos, ◌+ℤ◌, ◌-ℤ◌, ◌*ℤ◌}
use Rattle.whole.specs.Clip.{clip}
use Rattle.whole.specs.Notation.{◌>>◌}
use Rattle.whole.specs.Sum.{sum}

-- H over T, V over S: the sum of (i+1) * (p[n/2+i] - p[n/2-2-i]) for i from 0 to n/2-1; the last difference reaches the corner
unfoldable pub slope : ℕ → (T : ℤ → ℕ) → ℤ
slope n T =
    let half = n / 2 in
    sum half (λ i. pos (i + 1) *ℤ (pos (T (pos (half + i))) -ℤ pos (T (pos half -ℤ pos 2 -ℤ pos i))))

-- 5 at 16 by 16, 34 at 8 by 8
unfoldable pub gain : ℕ → ℕ
gain n = cond (eqb n 8) 34 5

-- b over H, c over V: (gain * H + 32) >> 6
unfoldable pub tilt : ℕ → ℤ → ℤ
tilt n h = (pos (gain n) *ℤ h +ℤ pos 32) >> 6

-- (a + b * (x - (n/2-1)) + c * (y - (n/2-1)) + 16) >> 5, clipped to 0..255
unfoldable pub slanted : ℕ → (a b c : ℤ) → ℕ → ℕ → ℕ
slanted n a b c x y =
    let middle = pos (n / 2 - 1) in
    clip 255 ((a +ℤ b *ℤ (pos x -ℤ middle) +ℤ c *ℤ (pos y -ℤ middle) +ℤ pos 16) >> 5)

-- a is 16 * (p[-1, n-1] + p[n-1, -1]), of the last sample at the left and the last above
unfoldable pub plane : ℕ → (T S : ℤ → ℕ) → ℕ → ℕ → ℕ
plane n T S =
    let last = pos (n - 1) in
    slanted n (pos 16 *ℤ (pos (S last) +ℤ pos (T last))) (tilt n (slope n T)) (tilt n (slope n S))
