-- Reading a head gives back what was written.
--     length_head, long_enough, long_most      it has the length that the coder counts: from 8 to 10 bytes
--     width_back, height_back, rows_back, long_back, head_own     what it says, whatever stands behind it; its tests pass
--     head_back                                what `read_head` answers
--     begins_old                               the coder writes the old head exactly if the picture is one slice
-- Assumes nothing.
use mathlib.Core.Path.{◌≡◌, refl, ap, ◌∙◌}
use mathlib.Core.Bool.{Bool, true, false, cond}
use mathlib.Core.List.{List, ◌++◌}
use Prim.Native.Nat.{ℕ, ◌≤◌}
use native.Mathlib.Omega.{arith}
use borrow.Author.Tests.{eqb-true, eq-eqb}
use lib.Dec.{eqb}
use lib.ListN.{length, take, length-append}
use lib.Seq.{take_at}
use Rattle.lists.specs.Chain.{pass, chain}
use Rattle.lists.proofs.Chain.{holds_new}
use Rattle.refusal.proofs.Same.{says_same}
use Rattle.octets.specs.Numbers.{number_at}
use Rattle.octets.specs.Sum.{summed, sum_holds}
use Rattle.octets.proofs.Back.{sum_own}
use Rattle.head.specs.Entry.{size_holds, rows_hold, long_at, width_at, height_at, rows_at, head_tests, ReadsHead}
use Rattle.head.specs.Heads.{old_mark, old_length, old_head, new_mark, new_length, new_head, head_of, head_length, length_by}
use Rattle.head.specs.declared.Head.{Head}
use Rattle.head.proofs.Heads.{tests_legal, same_head}
use Rattle.std.specs.Prelude.{Ok, Result}
use Rattle.refusal.specs.declared.Refusal.{Refusal}

module _ (width height rows : ℕ) where
  -- the old head or the new one
  abbrev either : Bool → List ℕ
  either t = cond t (old_head width height) (new_head width height rows)

  either_length : (t : Bool) → length (either t) ≡ cond t old_length new_length
  unfolding old_head new_head summed
  either_length true = refl
  either_length false = refl

  pub length_head : length (head_of width height rows) ≡ head_length height rows
  unfolding head_of
  length_head = either_length (eqb rows height)

  either_enough : (t : Bool) → old_length ≤ cond t old_length new_length
  either_enough true = omega arith
  either_enough false = omega arith

  pub long_enough : old_length ≤ head_length height rows
  long_enough = either_enough (eqb rows height)

  either_most : (t : Bool) → cond t old_length new_length ≤ new_length
  either_most true = omega arith
  either_most false = omega arith

  pub long_most : head_length height rows ≤ new_length
  long_most = either_most (eqb rows height)

  either_sums : (t : Bool) → sum_holds (either t) ≡ true
  unfolding old_head new_head
  either_sums true = sum_own _
  either_sums false = sum_own _

  -- ---- whatever stands behind it

  module _ (rest : List ℕ) where
    either_mark : (t : Bool) → number_at 0 (either t ++ rest) ≡ cond t old_mark new_mark
    unfolding old_head new_head summed
    either_mark true = refl
    either_mark false = refl

    mark_back : number_at 0 (head_of width height rows ++ rest) ≡ cond (eqb rows height) old_mark new_mark
    unfolding head_of
    mark_back = either_mark (eqb rows height)

    by_mark : (t : Bool) → length_by (cond t old_mark new_mark) ≡ cond t old_length new_length
    unfolding length_by
    by_mark true = refl
    by_mark false = refl

    pub long_back : long_at (head_of width height rows ++ rest) ≡ head_length height rows
    long_back = ap length_by mark_back ∙ by_mark (eqb rows height)

    either_width : (t : Bool) → width_at (either t ++ rest) ≡ width
    unfolding old_head new_head summed
    either_width true = omega arith
    either_width false = omega arith

    pub width_back : width_at (head_of width height rows ++ rest) ≡ width
    unfolding head_of
    width_back = either_width (eqb rows height)

    either_height : (t : Bool) → height_at (either t ++ rest) ≡ height
    unfolding old_head new_head summed
    either_height true = omega arith
    either_height false = omega arith

    pub height_back : height_at (head_of width height rows ++ rest) ≡ height
    unfolding head_of
    height_back = either_height (eqb rows height)

    either_rows : (t : Bool) → eqb rows height ≡ t → rows_at (either t ++ rest) ≡ rows
    unfolding rows_at old_head new_head summed
    either_rows true e = omega (arith, eqb-true rows height e)
    either_rows false e = omega arith

    pub rows_back : rows_at (head_of width height rows ++ rest) ≡ rows
    unfolding head_of
    rows_back = either_rows (eqb rows height) refl

    sums_back : sum_holds (take (long_at (head_of width height rows ++ rest)) (head_of width height rows ++ rest)) ≡ true
    unfolding head_of
    sums_back = rw (long_back, take_at (head_of width height rows) rest (head_length height rows) length_head) (either_sums (eqb rows height))

    module _ (size : size_holds width height ≡ true) (sliced : rows_hold height rows ≡ true) where
      pub head_own : chain (head_tests (head_of width height rows ++ rest)) ≡ pass
      head_own =
          let long = length-append (head_of width height rows) rest in
          tests_legal (head_of width height rows ++ rest) (omega (arith, long, length_head, long_enough)) (omega (arith, long_back, long_enough))
          (omega (arith, long, length_head, long_back)) sums_back (rw (width_back, height_back) size) (rw (height_back, rows_back) sliced)

      -- what `read_head` answers, whatever its contract allows
      pub head_back : (h : Result Head Refusal) → ReadsHead (head_of width height rows ++ rest) h → h ≡ Ok (record { width = width; height = height; rows = rows; long = head_length height rows })
      head_back h p =
          let e = head_own in
          same_head h (Ok (record { width = width; height = height; rows = rows; long = head_length height rows })) (says_same p.says ∙ e)
          (holds_new 0 e p.width ∙ width_back)
          (holds_new 0 e p.height ∙ height_back)
          (holds_new 0 e p.rows ∙ rows_back)
          (holds_new 0 e p.long ∙ long_back)

    -- "the coder writes it exactly if n is the height" (02, request 02)
    old_front : (t : Bool) → t ≡ true → take old_length (either t ++ rest) ≡ old_head width height
    old_front true e = take_at (old_head width height) rest old_length (either_length true)
    old_front false e = absurd (let z : ◌≡◌ {A = ℕ} 0 1 = cc in omega arith)

    new_front : (t : Bool) → take old_length (either t ++ rest) ≡ old_head width height → t ≡ true
    unfolding old_head new_head summed
    new_front true e = refl
    new_front false e = absurd (let z = ap (number_at 0) e in omega (arith, z))

    pub begins_old : (take old_length (head_of width height rows ++ rest) ≡ old_head width height → rows ≡ height) × (rows ≡ height → take old_length (head_of width height rows ++ rest) ≡ old_head width height)
    unfolding head_of
    begins_old = (λ e. eqb-true rows height (new_front (eqb rows height) e), λ e. old_front (eqb rows height) (eq-eqb rows height e))
