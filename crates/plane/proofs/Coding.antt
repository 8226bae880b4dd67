-- What the coder writes macroblock after macroblock is the file of the definitions, over what stood in the area.
--     Filled: same_area, filled_more                  an area that is written from its front on
--     FileCoded: file_begun, file_more, file_done     the loop over the macroblocks behind the head
-- Assumes nothing.
use mathlib.Core.Path.{◌≡◌, sym, ap, ◌∙◌}
use mathlib.Core.List.{List, ◌++◌, append_assoc, append-nil}
use Prim.Native.Nat.{ℕ, ◌+◌, ◌-◌, ◌<◌, ◌≤◌}
use native.Mathlib.Nat.{mul-le-mul_left}
use native.Mathlib.Omega.{arith}
use borrow.Rule.Slice.PartMut.{put_mid}
use lib.ListN.{length, take, drop, length-append}
use Rattle.lists.specs.Parts.{parts, over}
use Rattle.lists.proofs.Fold.{Folding, folding_none, folding_more, folding_done}
use Rattle.lists.proofs.Over.{over_more, over_again, length_over}
use Rattle.lists.proofs.Parts.{parts_more}
use Rattle.record.specs.Kinds.{in_fours, length_of}
use Rattle.head.proofs.Back.{length_head}
use Rattle.picture.specs.declared.Layout.{Layout}
use Rattle.picture.specs.Order.{count_of}
use Rattle.picture.specs.Plane.{plane_length}
use Rattle.macroblock.specs.Code.{record_from, coded_step}
use Rattle.macroblock.proofs.Looks.{coded_step_law}
use Rattle.plane.specs.Code.{head_for, behind_head, area_length, plane_before, file_from, plane_from}
use Rattle.plane.proofs.CodedFile.{record_on, file_to, length_on, length_to}

-- ---- an area that is written from its front on, a part behind the other

module _ (area : List ℕ) where
  -- what is done stands over the front of the area, and the next part begins at the place
  pub record Filled (done file : List ℕ) (place : ℕ) : Type 0 where
    pub fits : length done ≤ length area
    pub filled : file ≡ over done area
    pub next : place ≡ length done

  -- the area keeps its length
  pub same_area : {done file : List ℕ} {place : ℕ} → Filled done file place → length file ≡ length area
  same_area {done} c = ap length c.filled ∙ length_over done area c.fits

  -- one part more, written over the front of what was lent from the place on
  pub filled_more : {done file : List ℕ} {place : ℕ} → Filled done file place → (more : List ℕ) → length done + length more ≤ length area
      → {end used : ℕ} {back : List ℕ} → end ≡ length file → used ≡ length more → back ≡ over more (take (end - place) (drop place file))
      → Filled (done ++ more) (put_mid place (end - place) file back) (place + used)
  filled_more {done} {file} {place} c more room {end} {used} {back} is-end is-used is-back =
      let at : back ≡ over more (take (end - length done) (drop (length done) file)) = is-back ∙ (λ i. over more (take (end - c.next i) (drop (c.next i) file))) in
      record {
        fits = omega (arith, length-append done more, room);
        filled =
            ap (λ (p : ℕ). put_mid p (end - p) file back) c.next
            ∙ over_more done more area file end c.filled (is-end ∙ same_area c) room at;
        next = (λ i. c.next i + is-used i) ∙ sym (length-append done more);
      }

-- ---- the loop over the macroblocks

module _ (l : Layout) (qp : ℕ) (original start area : List ℕ) where
  -- the head and m records stand over the front of the area, and the next one begins at the place
  pub record FileCoded (file rebuilt : List ℕ) (place m : ℕ) : Type 0 where
    pub kept : length rebuilt ≡ plane_length 16 l
    pub stepped : Folding (count_of l) (coded_step l qp original) start rebuilt m
    pub room : area_length l ≤ length area
    pub front : Filled area (file_to l qp original start m) file place

  -- what stands behind the place has room for record m
  pub room_left : {file rebuilt : List ℕ} {place m : ℕ} → FileCoded file rebuilt place m → m < count_of l → place + length_of in_fours ≤ length area
  room_left {file} {rebuilt} {place} {m} c h =
      let n = length_to l qp original start m in
      let r = c.room in
      let below = mul-le-mul_left (length_of in_fours) h in
      omega (arith, n, c.front.next, r, below)

  -- macroblock m has been coded: its record over the front of what was lent, and the plane behind its step
  pub file_more : {file rebuilt : List ℕ} {place m : ℕ} → 0 < l.width → FileCoded file rebuilt place m → m < count_of l
      → {end used : ℕ} {back after : List ℕ} → end ≡ length file
      → used ≡ length (record_from l qp original m rebuilt)
      → back ≡ over (record_from l qp original m rebuilt) (take (end - place) (drop place file))
      → after ≡ coded_step l qp original m rebuilt
      → FileCoded (put_mid place (end - place) file back) after (place + used) (m + 1)
  unfolding plane_before
  file_more {file} {rebuilt} {place} {m} some c h {end} {used} {back} {after} is-end is-used is-back is-after =
      let e : record_from l qp original m rebuilt ≡ record_on l qp original start m = ap (record_from l qp original m) c.stepped.is in
      let r = room_left c h in
      let more : file_to l qp original start (m + 1) ≡ file_to l qp original start m ++ record_on l qp original start m =
      ap (λ (x : List ℕ). head_for l ++ x) (parts_more m (record_on l qp original start)) ∙ sym (append_assoc (head_for l) (parts m (record_on l qp original start)) (record_on l qp original start m)) in
      let long = length_on l qp original start m in
      record {
        kept = ap length is-after ∙ (coded_step_law l some m h qp original).long rebuilt ∙ c.kept;
        stepped = folding_more _ _ _ c.stepped h is-after;
        room = c.room;
        front = rw more
            (filled_more area c.front (record_on l qp original start m) (omega (arith, r, c.front.next, long)) is-end (is-used ∙ ap length e)
            (is-back ∙ ap (λ (x : List ℕ). over x (take (end - place) (drop place file))) e));
      }

-- ---- from what stood there, and to what is left

module _ (l : Layout) (qp : ℕ) (original start stood : List ℕ) where
  -- the head has been written
  pub file_begun : {file : List ℕ} {place : ℕ} → length start ≡ plane_length 16 l → area_length l ≤ length stood
      → file ≡ over (head_for l) stood → place ≡ (behind_head l) → FileCoded l qp original start file file start place 0
  unfolding parts
  file_begun {file} {place} long room is-file is-place =
      let h = head_for l in
      let n = length_head l.width l.height l.rows in
      let same : file ≡ over (head_for l) file =
      is-file ∙ sym (ap (over (head_for l)) is-file ∙ over_again (head_for l) (head_for l) stood (omega arith)) in
      let area = ap length is-file ∙ length_over (head_for l) stood (omega (arith, n, room)) in
      record {
        kept = long;
        stepped = folding_none _ _ _;
        room = omega (arith, area, room);
        front = rw (append-nil (head_for l)) (record { fits = omega (arith, n, area, room); filled = same; next = is-place ∙ sym n });
      }

  pub file_done : {area file rebuilt : List ℕ} {place m : ℕ} → area ≡ over (head_for l) stood → FileCoded l qp original start area file rebuilt place m → count_of l ≤ m
      → (place ≡ length (file_from l qp original start)) × (file ≡ over (file_from l qp original start) stood) × (rebuilt ≡ plane_from l qp original start)
  unfolding file_from plane_before
  file_done {area} {file} {rebuilt} {place} {m} is-area c h =
      let e : m ≡ count_of l = omega (arith, c.stepped.below) in
      let all = file_to l qp original start (count_of l) in
      let longer = length-append (head_for l) (parts (count_of l) (record_on l qp original start)) in (
        rw e at c.front.next,
        (rw e at c.front.filled) ∙ ap (over all) is-area ∙ over_again (head_for l) all stood (omega (arith, longer)),
        folding_done _ _ _ c.stepped h,
      )
