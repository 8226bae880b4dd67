-- What a block in a plane is given to a call as: it passes the tests of length and of flags, and so do the levels that are read from a record.
--     flags_legal     the flags byte is no larger than 15
--     block_long      a block has sixteen samples
--     agrees          neighbours that are the plane's wherever one is present agree with those that are gathered there wherever the flags say so
--     levels_lie      sixteen levels of a record lie in -32768..32767
-- Assumes nothing.
use mathlib.Core.Path.{◌≡◌, refl, sym, ap, subst, ◌∙◌}
use mathlib.Core.Bool.{Bool, true, false, cond}
use mathlib.Core.List.{List}
use Prim.Native.Nat.{ℕ, suc, ◌+◌, ◌*◌, ◌-◌, ◌<◌, ◌≤◌}
use native.Mathlib.Omega.{arith}
use borrow.Author.Differences.{true_is_le}
use borrow.Author.Tests.{le-leb, ltb-true, ltb-false}
use lib.Dec.{T, leb, ltb}
use lib.IntN.{ℤ, pos, negsuc}
use lib.ListN.{length, get_or, take, drop, length-drop}
use lib.Seq.{length-take-le, get_or-take, get_or-drop, ext_get_or}
use lib.Signed.{le_z}
use mir.Syntax.{w16}
use mir.Val.{sel, to_z}
use Rattle.lists.specs.Tab.{grid}
use Rattle.lists.proofs.Every.{holds, every_at}
use Rattle.lists.proofs.Tab.{length_tab, get_d_tab}
use Rattle.whole.specs.Notation.{minus}
use Rattle.whole.specs.Range.{inside}
use Rattle.whole.proofs.Range.{all_inside}
use Rattle.intra4.specs.Samples.{bit_of, AgreeWherePresent}
use Rattle.residual.specs.Entry.{first_wide}
use Rattle.octets.specs.Numbers.{number_at}
use Rattle.record.specs.Kinds.{in_fours}
use Rattle.record.specs.Records.{level_in, levels_in}
use Rattle.picture.specs.declared.Layout.{Layout}
use Rattle.picture.specs.Plane.{block_at, block_of, neighbour, gathered}
use Rattle.picture.specs.Presence.{present_at, group_present, flags_of}
use Rattle.picture.proofs.Byte.{bits}
use Rattle.picture.proofs.Bytes.{length_gathered}
use Rattle.stamp.specs.Unseen.{NeighboursOf}

at_most : (t : Bool) (v : ℕ) → cond t v 0 ≤ v
at_most true v = omega arith
at_most false v = omega arith

pub flags_legal : (l : Layout) (m b : ℕ) → leb (flags_of 4 l m b) 15 ≡ true
unfolding flags_of
flags_legal l m b =
    le-leb (flags_of 4 l m b) 15
    (omega (arith, at_most (group_present 4 4 1 l m b) 1, at_most (group_present 4 4 9 l m b) 2, at_most (group_present 4 1 0 l m b) 4, at_most (group_present 4 4 5 l m b) 8))

pub block_long : (l : Layout) (m b : ℕ) (plane : List ℕ) → length (block_of 4 l m b plane) ≡ 16
unfolding block_at grid
block_long l m b plane = length_tab 16 _

-- ---- neighbours

-- parts of two lists that have the same numbers there
same_part : (first count : ℕ) (n g : List ℕ) → first + count ≤ length n → first + count ≤ length g → ((i : ℕ) → i < count → get_or n (first + i) 0 ≡ get_or g (first + i) 0)
    → take count (drop first n) ≡ take count (drop first g)
same_part first count n g fits fits' same =
    let long = length-take-le count (drop first n) (simp length-drop (omega arith)) in
    let long' = length-take-le count (drop first g) (simp length-drop (omega arith)) in
    ext_get_or 0 (take count (drop first n)) (take count (drop first g)) (long ∙ sym long')
    (λ i h.
    let k : i < count = omega (arith, long) in
    get_or-take count (drop first n) i 0 k ∙ get_or-drop first n i 0 ∙ same i k ∙ sym (get_or-take count (drop first g) i 0 k ∙ get_or-drop first g i 0))

module _ {l : Layout} {m b : ℕ} {plane n : List ℕ} (near : NeighboursOf l m b plane n) where
  at_present : (k : ℕ) → k < 13 → present_at 4 l m b k ≡ true → get_or n k 0 ≡ get_or (gathered 4 l m b plane) k 0
  unfolding gathered neighbour
  at_present k h e = near.there k h e ∙ sym (get_d_tab 13 (neighbour 4 l m b plane) k 0 h ∙ rw e)

  -- a group that is present
  group_same : (first count : ℕ) → first + count ≤ 13 → group_present 4 count first l m b ≡ true → take count (drop first n) ≡ take count (drop first (gathered 4 l m b plane))
  group_same first count fits e =
      same_part first count n (gathered 4 l m b plane) (omega (arith, near.long)) (omega (arith, length_gathered 4 l m b plane))
      (λ i h. at_present (first + i) (omega arith) (holds (present_at 4 l m b (first + i)) (every_at count (λ j. present_at 4 l m b (first + j)) (subst T (sym e) tt) i h)))

  pub agrees : AgreeWherePresent (flags_of 4 l m b) n (gathered 4 l m b plane)
  unfolding flags_of bit_of
  agrees =
      let q = bits (group_present 4 4 1 l m b) (group_present 4 4 9 l m b) (group_present 4 1 0 l m b) (group_present 4 4 5 l m b) in
      record {
        long = near.long ∙ sym (length_gathered 4 l m b plane);
        above = λ e. group_same 1 4 (omega arith) (sym q.0 ∙ e);
        upper_right = λ d e. group_same 5 4 (omega arith) (sym q.3 ∙ e);
        left = λ e. group_same 9 4 (omega arith) (sym q.1 ∙ e);
        corner = λ e. group_same 0 1 (omega arith) (sym q.2 ∙ e);
      }

-- ---- levels of 16 bits

both_ends : (z : ℤ) → le_z (minus 32768) z ≡ true → le_z z (pos 32767) ≡ true → inside (minus 32768) (pos 32767) z ≡ true
unfolding inside
both_ends z p q = rw (p, q)

bits_inside : (n : ℕ) → inside (minus 32768) (pos 32767) (to_z w16 n) ≡ true
bits_inside n = by (ltb n 32768) refl
  where
    by : (t : Bool) → ltb n 32768 ≡ t → inside (minus 32768) (pos 32767) (sel t (pos n) (negsuc (65536 - suc n))) ≡ true
    by true e =
        let h = ltb-true n 32768 e in
        both_ends (pos n) (sym (true_is_le (minus 32768) (pos n) (omega arith))) (sym (true_is_le (pos n) (pos 32767) (omega arith)))
    by false e =
        let h = ltb-false n 32768 e in
        both_ends (negsuc (65536 - suc n)) (sym (true_is_le (minus 32768) (negsuc (65536 - suc n)) (omega arith))) (sym (true_is_le (negsuc (65536 - suc n)) (pos 32767) (omega arith)))

levels_sixteen : (b : ℕ) (part : List ℕ) → length (levels_in b part) ≡ 16
unfolding levels_in
levels_sixteen b part = length_tab 16 _

pub levels_lie : (b : ℕ) (part : List ℕ) → (length (levels_in b part) ≡ 16) × (first_wide (levels_in b part) ≡ 16)
unfolding levels_in
levels_lie b part =
    let long = levels_sixteen b part in (
      long,
      all_inside (minus 32768) (pos 32767) (levels_in b part)
          (λ i h.
          ap (inside (minus 32768) (pos 32767)) (get_d_tab 16 (λ k. level_in b k part) i (pos 0) (omega (arith, long)))
          ∙ bits_inside (number_at (in_fours.front + 2 * (16 * b + i)) part))
          ∙ long,
    )
