-- What is written over the front of what stood there.
--     length_over              the area keeps its length
--     over_again               over what has been written already
--     over_more                what stands behind was lent, and came home with more written over its front
-- Assumes nothing.
use mathlib.Core.Path.{◌≡◌, refl, sym, ap, ◌∙◌}
use mathlib.Core.List.{List, ◌++◌, append_assoc, append-nil}
use Prim.Native.Nat.{ℕ, ◌+◌, ◌-◌, ◌≤◌}
use native.Mathlib.Omega.{arith}
use borrow.Rule.Slice.PartMut.{put_mid}
use lib.ListN.{length, take, drop, length-append, length-drop, drop_of_length-le}
use lib.Seq.{take_all, take_at, drop_at, drop-drop, drop-append-add}
use Rattle.lists.specs.Parts.{over}
use Rattle.lists.proofs.Parts.{part_home}

module _ {A : Type 0} where
  pub length_over : (new old : List A) → length new ≤ length old → length (over new old) ≡ length old
  length_over new old h = omega (arith, length-append new (drop (length new) old), length-drop (length new) old)

  pub over_more : (v w old d : List A) (e : ℕ) → d ≡ over v old → e ≡ length old → length v + length w ≤ length old
      → {back : List A} → back ≡ over w (take (e - length v) (drop (length v) d)) → put_mid (length v) (e - length v) d back ≡ over (v ++ w) old
  over_more v w old d e is-d is-e room {back} is-back =
      let behind : take (e - length v) (drop (length v) d) ≡ drop (length v) old =
      ap (λ (x : List A). take (e - length v) (drop (length v) x)) is-d ∙ ap (take (e - length v)) (drop_at v (drop (length v) old) (length v) refl)
      ∙ take_all (e - length v) (drop (length v) old) (omega (arith, length-drop (length v) old)) in
      let home : back ≡ over w (drop (length v) old) = is-back ∙ ap (over w) behind in
      let long : length back ≡ e - length v = ap length home ∙ length_over w (drop (length v) old) (omega (arith, length-drop (length v) old)) ∙ length-drop (length v) old ∙ omega (arith, is-e) in
      let whole : length d ≡ length old = ap length is-d ∙ length_over v old (omega arith) in
      part_home d back (length v) e (omega arith) long
      ∙ ap (λ (x : List A). (take (length v) d ++ back) ++ x) (drop_of_length-le d {i = length v + length back} (omega (arith, long, whole)))
      ∙ append-nil (take (length v) d ++ back)
      ∙ (λ i. (ap (take (length v)) is-d ∙ take_at v (drop (length v) old) (length v) refl) i ++ home i)
      ∙ sym (append_assoc v w (drop (length w) (drop (length v) old)))
      ∙ ap (λ (x : List A). (v ++ w) ++ x) (drop-drop (length w) (length v) old ∙ ap (λ (n : ℕ). drop n old) (sym (length-append v w)))

  -- what was written over a shorter front is written over again
  pub over_again : (v new old : List A) → length v ≤ length new → over new (over v old) ≡ over new old
  over_again v new old h =
      let n : length new ≡ length v + (length new - length v) = omega arith in
      ap (λ (l : List A). new ++ l)
      (ap (λ (k : ℕ). drop k (v ++ drop (length v) old)) n ∙ drop-append-add v (drop (length v) old) (length new - length v)
      ∙ drop-drop (length new - length v) (length v) old ∙ ap (λ (k : ℕ). drop k old) (sym n))
