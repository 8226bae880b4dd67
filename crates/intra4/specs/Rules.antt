-- The nine modes: what each needs, and its sample at column x and row y (01, "Samples round a block"; ITU-T H.264, 8.3.1.2).
-- T and S go over whole numbers in every mode: T (pos 0) is A, S (pos 0) is I, and at -1 both are M.
-- Assumes nothing.
use Rattle.std.specs.Prelude.{Bool, true, false, cond, ◌&&◌, List, [], ◌∷◌, ℕ, zero, suc, ◌+◌, ◌*◌, ◌/◌, ◌%◌, ltb, eqb, ℤ, pos, negsuc, ◌-ℤ◌, get_or}
use Rattle.whole.specs.Notation.{minus}
use Rattle.lists.specs.Tab.{grid}
use Rattle.lists.specs.Total.{total}
use Rattle.intra4.specs.Samples.{Side, here, missing, Round, bit_of, all_present}

-- "avg2(a,b)=(a+b+1)/2"
abbrev pub avg2 : ℕ → ℕ → ℕ
avg2 a b = (a + b + 1) / 2

-- "avg3(a,b,c)=(a+2b+c+2)/4"
abbrev pub avg3 : ℕ → ℕ → ℕ → ℕ
avg3 a b c = (a + 2 * b + c + 2) / 4

-- "T(k) is the k-th of A..H from 0, with T(-1)=M; S(k) the k-th of I..L, with S(-1)=M": -1 is `negsuc 0`
abbrev pub row_of : (M side : List ℕ) → ℤ → ℕ
row_of M side (pos k) = get_or side k 0
row_of M side (negsuc k) = get_or M k 0

-- 0 vertical: "T(x)"
unfoldable pub vertical : (T : ℤ → ℕ) → ℕ → ℕ → ℕ
vertical T x y = T (pos x)

-- 1 horizontal: "S(y)"
unfoldable pub horizontal : (S : ℤ → ℕ) → ℕ → ℕ → ℕ
horizontal S x y = S (pos y)

-- 2 DC: "all eight: (sum+4)/8; one side of four: (sum+2)/4; none: 128", here over sides of n
abbrev pub mean : ℕ → Side → Side → ℕ
mean n (here a) (here l) = (total n (λ k. get_or a k 0) + total n (λ k. get_or l k 0) + n) / (2 * n)
mean n (here a) missing = (total n (λ k. get_or a k 0) + n / 2) / n
mean n missing (here l) = (total n (λ k. get_or l k 0) + n / 2) / n
mean n missing missing = 128

-- 3 down-left: "avg3(T(x+y),T(x+y+1),T(x+y+2)); at (3,3) avg3(G,H,H)"
unfoldable pub down_left : (T : ℤ → ℕ) → ℕ → ℕ → ℕ
down_left T x y =
    cond (eqb x 3 && eqb y 3) (avg3 (T (pos 6)) (T (pos 7)) (T (pos 7)))
    (avg3 (T (pos (x + y))) (T (pos (x + y + 1))) (T (pos (x + y + 2))))

-- 4 down-right: "x>y: avg3(T(x-y-2),T(x-y-1),T(x-y)); x<y: the same with S and y-x; x=y: avg3(A,M,I)"
unfoldable pub down_right : (T S : ℤ → ℕ) → ℕ → ℕ → ℕ
down_right T S x y =
    cond (ltb y x) (avg3 (T (pos x -ℤ pos y -ℤ pos 2)) (T (pos x -ℤ pos y -ℤ pos 1)) (T (pos x -ℤ pos y)))
    (cond (ltb x y) (avg3 (S (pos y -ℤ pos x -ℤ pos 2)) (S (pos y -ℤ pos x -ℤ pos 1)) (S (pos y -ℤ pos x)))
    (avg3 (T (pos 0)) (T (minus 1)) (S (pos 0))))

-- the cases of mode 5: "z even, not negative", "z=1,3,5", "z=-1", "z=-2,-3"
abbrev pub by_z : (z : ℤ) (even odd minusOne below : ℕ) → ℕ
by_z (pos z) even odd minusOne below = cond (eqb (z % 2) 0) even odd
by_z (negsuc zero) even odd minusOne below = minusOne
by_z (negsuc (suc n)) even odd minusOne below = below

-- 5 vertical-right: "z=2x-y, h=y/2. z even, not negative: avg2(T(x-h-1),T(x-h)); z=1,3,5: avg3(T(x-h-2),T(x-h-1),T(x-h));
-- z=-1: avg3(I,M,A); z=-2,-3: avg3(S(y-1),S(y-2),S(y-3))"
unfoldable pub vertical_right : (T S : ℤ → ℕ) → ℕ → ℕ → ℕ
vertical_right T S x y =
    let z = pos (2 * x) -ℤ pos y in
    let h = y / 2 in
    by_z z
    (avg2 (T (pos x -ℤ pos h -ℤ pos 1)) (T (pos x -ℤ pos h)))
    (avg3 (T (pos x -ℤ pos h -ℤ pos 2)) (T (pos x -ℤ pos h -ℤ pos 1)) (T (pos x -ℤ pos h)))
    (avg3 (S (pos 0)) (T (minus 1)) (T (pos 0)))
    (avg3 (S (pos y -ℤ pos 1)) (S (pos y -ℤ pos 2)) (S (pos y -ℤ pos 3)))

-- 6 horizontal-down: "mode 5 with x and y, S and T exchanged"
abbrev pub horizontal_down : (T S : ℤ → ℕ) → ℕ → ℕ → ℕ
horizontal_down T S x y = vertical_right S T y x

-- 7 vertical-left: "h=y/2. y even: avg2(T(x+h),T(x+h+1)); y odd: avg3(T(x+h),T(x+h+1),T(x+h+2))"
unfoldable pub vertical_left : (T : ℤ → ℕ) → ℕ → ℕ → ℕ
vertical_left T x y =
    let h = y / 2 in
    cond (eqb (y % 2) 0) (avg2 (T (pos (x + h))) (T (pos (x + h + 1)))) (avg3 (T (pos (x + h))) (T (pos (x + h + 1))) (T (pos (x + h + 2))))

-- 8 horizontal-up: "z=x+2y, h=x/2. z=0,2,4: avg2(S(y+h),S(y+h+1)); z=1,3: avg3(S(y+h),S(y+h+1),S(y+h+2)); z=5: avg3(K,L,L); above: L"
unfoldable pub horizontal_up : (S : ℤ → ℕ) → ℕ → ℕ → ℕ
horizontal_up S x y =
    let z = x + 2 * y in
    let h = x / 2 in
    cond (ltb 5 z) (S (pos 3))
    (cond (eqb z 5) (avg3 (S (pos 2)) (S (pos 3)) (S (pos 3)))
    (cond (eqb (z % 2) 0) (avg2 (S (pos (y + h))) (S (pos (y + h + 1))))
    (avg3 (S (pos (y + h))) (S (pos (y + h + 1))) (S (pos (y + h + 2))))))

-- samples, or no prediction
pub data Predicted : Type 0 where
  samples : List ℕ → Predicted
  none : Predicted

-- a mode that needs a side has no prediction where the side is missing
abbrev pub needs : Side → (List ℕ → Predicted) → Predicted
needs (here l) f = f l
needs missing f = none

-- a mode of n by n samples that needs one side: it is shown no M
abbrev pub one : ℕ → Side → ((ℤ → ℕ) → ℕ → ℕ → ℕ) → Predicted
one n side rule = needs side (λ l. samples (grid n (rule (row_of [] l))))

-- one that needs A-D, I-L and M
abbrev pub three : ℕ → Round → ((T S : ℤ → ℕ) → ℕ → ℕ → ℕ) → Predicted
three n r rule =
    needs r.above (λ a. needs r.left (λ l. needs r.corner (λ M.
    samples (grid n (rule (row_of M a) (row_of M l))))))

-- the paper's table, in the order of the numbers
abbrev pub modes : Round → List Predicted
modes r =
    one 4 r.above vertical
    ∷ one 4 r.left horizontal
    ∷ samples (grid 4 (λ x y. mean 4 r.above r.left))
    ∷ one 4 r.above down_left
    ∷ three 4 r down_right
    ∷ three 4 r vertical_right
    ∷ three 4 r horizontal_down
    ∷ one 4 r.above vertical_left
    ∷ one 4 r.left horizontal_up
    ∷ []

-- a number above 8 is no mode
unfoldable pub predicted : Round → ℕ → Predicted
predicted r m = get_or (modes r) m none

abbrev pub samples_of : Predicted → List ℕ
samples_of (samples l) = l
samples_of none = []

-- the table's column "needs" by the flags alone
unfoldable pub permitted : ℕ → ℕ → Bool
permitted f m =
    let A_D = bit_of f 0 in
    let I_L = bit_of f 1 in
    let all = all_present f in
    get_or (A_D ∷ I_L ∷ true ∷ A_D ∷ all ∷ all ∷ all ∷ A_D ∷ I_L ∷ []) m false
