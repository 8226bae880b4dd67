-- The turns of blocks of n by n are steps of their macroblock.
-- `make` is any function, and needs no law: decoder and coder put their own in its place.
--     gathered_missing         the place of a missing neighbour says nothing of the plane
--     gathered_looks           the neighbours follow from the places that a block may see
--     turn_step                a block's turn is a step, from its number over the 4x4 blocks that it covers
--     turns_agree, turns_look  the first turns of a macroblock: planes that agreed where it sees do so then, and the next block sees the same
--     turns_step               the turns of a macroblock's blocks of n by n are a step of it
--     turns_four               those of 4 by 4, by the numbers of blocks
--     turns_follow             two ways of making blocks that make the same of what each block sees
-- Assumes nothing.
use mathlib.Core.Path.{◌≡◌, refl, sym, ap, ◌∙◌}
use mathlib.Core.Bool.{Bool, true, false, cond}
use mathlib.Core.List.{List}
use Prim.Native.Nat.{ℕ, suc, ◌+◌, ◌*◌, ◌-◌, ◌/◌, ◌%◌, ◌<◌, ◌≤◌}
use native.Mathlib.Nat.{mul-suc, mul-zero, one-mul}
use native.Mathlib.Omega.{arith}
use lib.Arith.{digits_lt}
use lib.Dec.{eqb, eqb→eq}
use lib.ListN.{length, get_or}
use Rattle.lists.specs.Fold.{fold}
use Rattle.lists.proofs.Alike.{Agree, Looks, Also, Step, agree_less, step_sees, step_by, step_agree, step_fold}
use Rattle.lists.proofs.Fold.{fold_follow}
use Rattle.lists.proofs.Tab.{tab_same, get_d_tab}
use Rattle.picture.specs.declared.Layout.{Layout}
use Rattle.picture.specs.Order.{count_of, Size, Starts, covers, block_count, block_column, block_row, order_of}
use Rattle.picture.specs.Presence.{neighbour_column, neighbour_row, present_at}
use Rattle.picture.specs.Plane.{stride, plane_length, sample_at, with_block, neighbour, gathered, turn, first_turns, turns}
use Rattle.picture.proofs.Blocks.{every_size, stands, starts_turn}
use Rattle.picture.proofs.Macroblocks.{SeenBy, SeenFrom, seen_from, neighbour_place, neighbour_seen}
use Rattle.picture.proofs.Owner.{owner_of, macroblock_owning, order_macroblock, others_kept, own_stored}
use Rattle.picture.proofs.Plane.{length_stored}
use Rattle.picture.proofs.Steps.{MacroblockStep, LooksFrom}
use Rattle.picture.proofs.Presence.{present_is}

-- ---- what a block sees

-- a missing neighbour has no value: what stands in its place is the same in every plane
pub gathered_missing : (n : ℕ) (l : Layout) (m b : ℕ) (p : List ℕ) (k : ℕ) → k < 3 * n + 1 → present_at n l m b k ≡ false → get_or (gathered n l m b p) k 0 ≡ 0
unfolding gathered neighbour
gathered_missing n l m b p k h e = get_d_tab (3 * n + 1) (neighbour n l m b p) k 0 h ∙ rw e

-- neighbours look only at places that are seen, if every present one is
gathered_from : (n : ℕ) (l : Layout) (m b : ℕ) (sees : ℕ → Type 0) → ((k : ℕ) → k < 3 * n + 1 → present_at n l m b k ≡ true → sees (neighbour_place n l m b k))
    → Looks 0 (plane_length 16 l) sees (gathered n l m b)
unfolding gathered neighbour present_at
gathered_from n l m b sees see p q a = tab_same (3 * n + 1) _ _ (λ k h. by_case k h (present_at n l m b k) refl)
  where
    by_case : (k : ℕ) → k < 3 * n + 1 → (t : Bool) → present_at n l m b k ≡ t
        → cond t (sample_at (stride 16 l) p (neighbour_column n (block_column l m b) k - 1) (neighbour_row n (block_row l m b) k - 1)) 0
        ≡ cond t (sample_at (stride 16 l) q (neighbour_column n (block_column l m b) k - 1) (neighbour_row n (block_row l m b) k - 1)) 0
    by_case k h false e = refl
    by_case k h true e =
        let f = present_is l (order_of m b) (neighbour_column n (block_column l m b) k) (neighbour_row n (block_row l m b) k) e in
        let x : neighbour_column n (block_column l m b) k - 1 < 16 * l.width = omega (arith, f.left, f.right) in
        let y : neighbour_row n (block_row l m b) k - 1 < 16 * l.height = omega (arith, f.up, f.down) in
        let d = digits_lt {q = neighbour_row n (block_row l m b) k - 1} {m = 16 * l.height} {r = neighbour_column n (block_column l m b) k - 1} {c = 16 * l.width} y x in
        a.agree (neighbour_place n l m b k) (omega arith) (see k h e)

pub gathered_looks : (n : ℕ) (l : Layout) (m b : ℕ) → Starts n b → Looks 0 (plane_length 16 l) (SeenBy l m b) (gathered n l m b)
gathered_looks n l m b start = gathered_from n l m b (SeenBy l m b) (neighbour_seen n l m b start)

-- ---- a block's turn

module _ (n : ℕ) (make : ℕ → ℕ → List ℕ → List ℕ) (l : Layout) where
  pub length_turn : (m b : ℕ) (p : List ℕ) → length (turn n make l m b p) ≡ length p
  unfolding turn
  length_turn m b p = length_stored n (stride 16 l) (block_column l m b) (block_row l m b) (make m b (gathered n l m b p)) p

module _ (n : ℕ) (make : ℕ → ℕ → List ℕ → List ℕ) (l : Layout) (some : 0 < l.width) (m : ℕ) (among : m < count_of l) where
  pub turn_step : (b : ℕ) → Starts n b → Step 0 (plane_length 16 l) (owner_of l) (SeenBy l m b) (order_of m b) (order_of m b + covers n) (turn n make l m b)
  unfolding turn
  turn_step b start = record {
    long = λ p. length_turn n make l m b p;
    off = λ p i h other. others_kept l some n m b among start (make m b (gathered n l m b p)) p i other;
    on = λ p q a i h own.
        own_stored l some n m b among start (make m b (gathered n l m b p)) p a.this i own
        ∙ ap (λ (v : List ℕ). get_or (make m b v) ((i / stride 16 l - block_row l m b) * n + (i % stride 16 l - block_column l m b)) 0) (gathered_looks n l m b start p q a)
        ∙ sym (own_stored l some n m b among start (make m b (gathered n l m b q)) q a.that i own);
  }

-- ---- a macroblock's turns

-- the blocks of n by n cover the macroblock
filled : (n : ℕ) → Size n → covers n * block_count n ≡ 16
unfolding covers block_count
filled n s = eqb→eq _ _ (every_size (λ n. eqb (covers n * block_count n) 16) tt n s)

module _ (n : ℕ) (size : Size n) (make : ℕ → ℕ → List ℕ → List ℕ) (l : Layout) (some : 0 < l.width) (m : ℕ) (among : m < count_of l) where
  -- the first k turns
  first_turns_law : (k : ℕ) → k ≤ block_count n → Step 0 (plane_length 16 l) (owner_of l) (SeenFrom 16 l m) (order_of m (covers n * 0)) (order_of m (covers n * k)) (first_turns n make l m k)
  unfolding first_turns
  first_turns_law k most =
      (step_fold 0 (plane_length 16 l) (owner_of l) (SeenFrom 16 l m) (λ j. order_of m (covers n * j)) (λ j. turn n make l m (covers n * j)) k
      (λ j h. omega (arith, mul-suc (covers n) j))
      (λ j h.
      let start = starts_turn n j size (omega arith) in
      let z : order_of m (covers n * suc j) ≡ order_of m (covers n * j) + covers n = omega (arith, mul-suc (covers n) j) in
      rw (z, mul-zero (covers n))
      (step_sees 0 (plane_length 16 l) (owner_of l) (Also (owner_of l) (SeenFrom 16 l m) (order_of m 0) (order_of m (covers n * j)))
      (λ i hi s. seen_from l m (covers n * j) (stands n (covers n * j) start).block i s)
      (turn_step n make l some m among (covers n * j) start)))
      ).1

  pub turns_agree : (k : ℕ) → k ≤ block_count n → (p q : List ℕ) → Agree 0 (plane_length 16 l) (SeenFrom 16 l m) p q
      → Agree 0 (plane_length 16 l) (Also (owner_of l) (SeenFrom 16 l m) (order_of m 0) (order_of m (covers n * k))) (first_turns n make l m k p) (first_turns n make l m k q)
  turns_agree k most p q a = rw (mul-zero (covers n)) at (step_agree 0 (plane_length 16 l) (owner_of l) (first_turns_law k most) p q a)

  -- the neighbours of the block that begins with 4x4 block b, number k of its size, when the blocks before it have had their turns
  pub turns_look : (k b : ℕ) → b ≡ covers n * k → k < block_count n → LooksFrom 16 l m (λ p. gathered n l m b (first_turns n make l m k p))
  turns_look k b is h p q a =
      let start : Starts n b = rw is (starts_turn n k size h) in
      gathered_looks n l m b start (first_turns n make l m k p) (first_turns n make l m k q)
      (agree_less 0 (plane_length 16 l) (Also (owner_of l) (SeenFrom 16 l m) (order_of m 0) (order_of m (covers n * k))) (SeenBy l m b)
      (λ i hi s. rw (sym is) (seen_from l m b (stands n b start).block i s)) _ _
      (turns_agree k (omega arith) p q a))

  pub turns_step : MacroblockStep 16 l m (turns n make l m)
  turns_step =
      step_by 0 (plane_length 16 l) (owner_of l) (macroblock_owning 16 l) m (suc m)
      (λ i h b.
      let o = order_macroblock l (i % stride 16 l) (i / stride 16 l) in
      (omega (arith, o.1, b.0, mul-zero (covers n)), omega (arith, o.0, b.1, filled n size)))
      (λ i h b.
      let o = order_macroblock l (i % stride 16 l) (i / stride 16 l) in
      (omega (arith, o.0, b.0, mul-zero (covers n)), omega (arith, o.1, b.1, filled n size)))
      (first_turns_law (block_count n) (omega arith))

-- ---- what the turns are

-- of 4 by 4, by the numbers of blocks
pub by_one : (b : ℕ) → b ≡ covers 4 * b
unfolding covers
by_one b = sym (one-mul b)

pub turns_four : (make : ℕ → ℕ → List ℕ → List ℕ) (l : Layout) (m k : ℕ) (p : List ℕ) → fold k (turn 4 make l m) p ≡ first_turns 4 make l m k p
unfolding first_turns
turns_four make l m k p =
    fold_follow k (turn 4 make l m) (λ j. turn 4 make l m (covers 4 * j)) p
    (λ j h. ap (λ (b : ℕ). turn 4 make l m b (fold j (λ i. turn 4 make l m (covers 4 * i)) p)) (by_one j))

-- two ways of making blocks: where they make the same of what each block sees, the first turns are the same
pub turns_follow : (n : ℕ) (make other : ℕ → ℕ → List ℕ → List ℕ) (l : Layout) (m k : ℕ) (p : List ℕ)
    → ((j b : ℕ) → j < k → b ≡ covers n * j → make m b (gathered n l m b (first_turns n other l m j p)) ≡ other m b (gathered n l m b (first_turns n other l m j p)))
    → first_turns n make l m k p ≡ first_turns n other l m k p
unfolding first_turns turn
turns_follow n make other l m k p same =
    fold_follow k (λ j. turn n make l m (covers n * j)) (λ j. turn n other l m (covers n * j)) p
    (λ j h. ap (λ (block : List ℕ). with_block n l m (covers n * j) block (fold j (λ i. turn n other l m (covers n * i)) p)) (same j (covers n * j) h refl))
