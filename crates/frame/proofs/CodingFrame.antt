-- What the coder writes macroblock after macroblock is the file of the definitions, over what stood in the area.
--     records_made                                       a macroblock's two records, one behind the other
--     FrameCoded: frame_begun, frame_more, frame_done     the loop over the macroblocks behind the head
-- Assumes nothing.
use mathlib.Core.Path.{◌≡◌, sym, ap, ◌∙◌}
use mathlib.Core.List.{List, ◌++◌, append_assoc, append-nil}
use Prim.Native.Nat.{ℕ, ◌+◌, ◌-◌, ◌<◌, ◌≤◌}
use native.Mathlib.Nat.{mul-le-mul_left}
use native.Mathlib.Omega.{arith}
use borrow.Rule.Slice.PartMut.{put_mid}
use lib.IntN.{ℤ}
use lib.ListN.{length, take, drop, length-append}
use Rattle.lists.specs.Parts.{parts, over}
use Rattle.lists.proofs.Fold.{Folding, folding_none, folding_more, folding_done}
use Rattle.lists.proofs.Over.{over_again, length_over}
use Rattle.lists.proofs.Parts.{parts_more}
use Rattle.record.specs.Kinds.{in_fours, in_chroma, length_of}
use Rattle.head.proofs.Back.{length_head}
use Rattle.quantizer.specs.Chroma.{chroma_of}
use Rattle.picture.specs.declared.Layout.{Layout}
use Rattle.picture.specs.Both.{Both}
use Rattle.picture.specs.Order.{count_of}
use Rattle.picture.specs.Plane.{plane_length}
use Rattle.picture.proofs.Both.{LongBoth}
use Rattle.picture.proofs.Whole.{whole_step}
use Rattle.macroblock.specs.Code.{record_from, coded_step}
use Rattle.macroblock.proofs.Looks.{coded_step_law}
use Rattle.macroblock.proofs.RecordFrom.{length_record_from}
use Rattle.macroblock_chroma.specs.Code.{record_from_chroma, coded_step_chroma, mode_for_both, coded_chroma}
use Rattle.macroblock_chroma.proofs.CodedRecord.{length_record_from_chroma}
use Rattle.plane.specs.Code.{head_for, behind_head, plane_before, plane_from}
use Rattle.plane.proofs.Coding.{Filled, filled_more}
use Rattle.frame.specs.Code.{records_from, records_on, both_before, both_from, frame_from, frame_area}
use Rattle.frame.proofs.CodedFrame.{frame_to, length_frame_to, length_records_on}

-- ---- a macroblock's two records

-- `number`, `cb` and `cr` are the quantizer's and the offsets, as the call takes them
pub records_made : (l : Layout) (qp : ℕ) (cb_offset cr_offset : ℤ) (luma : List ℕ) (chroma : Both) (m : ℕ) (before : List ℕ) (both : Both) (stood : List ℕ)
    → length_of in_fours + length_of in_chroma ≤ length stood
    → {number end used more : ℕ} {cb cr : ℤ} {file back : List ℕ} → number ≡ qp → cb ≡ cb_offset → cr ≡ cr_offset → end ≡ length file
    → used ≡ length (record_from l qp luma m before) → file ≡ over (record_from l qp luma m before) stood
    → more ≡ length_of in_chroma → back ≡ over (record_from_chroma l number cb cr chroma m both) (take (end - used) (drop used file))
    → Filled stood (records_from l qp cb_offset cr_offset luma chroma m before both) (put_mid used (end - used) file back) (used + more)
records_made l qp cb_offset cr_offset luma chroma m before both stood room {number} {end} {used} {more} {cb} {cr} {file} {back} is_number is-cb is-cr is-end is-used is-file is-more is-back =
    let first = length_record_from l qp luma m before in
    let second = length_record_from_chroma l qp cb_offset cr_offset chroma m both in
    let one : Filled stood (record_from l qp luma m before) file used = record { fits = omega (arith, first, room); filled = is-file; next = is-used } in
    filled_more stood one (record_from_chroma l qp cb_offset cr_offset chroma m both) (omega (arith, first, second, room))
    is-end (is-more ∙ sym second)
    (is-back ∙ (λ i. over (record_from_chroma l (is_number i) (is-cb i) (is-cr i) chroma m both) (take (end - used) (drop used file))))

-- ---- the loop over the macroblocks

-- the step of both planes keeps their lengths
both_long : (l : Layout) → 0 < l.width → (m : ℕ) → m < count_of l → (qp : ℕ) (cb_offset cr_offset : ℤ) (chroma before : Both) → LongBoth 8 l before
    → LongBoth 8 l (coded_step_chroma l qp cb_offset cr_offset chroma m before)
unfolding coded_step_chroma
both_long l some m h qp cb_offset cr_offset chroma before long =
    let mode = mode_for_both l chroma m before in
    record {
      cbs = (whole_step 8 (omega arith) l some m h (coded_chroma l (chroma_of qp cb_offset) chroma.cb mode)).long before.cb ∙ long.cbs;
      crs = (whole_step 8 (omega arith) l some m h (coded_chroma l (chroma_of qp cr_offset) chroma.cr mode)).long before.cr ∙ long.crs;
    }

module _ (l : Layout) (qp : ℕ) (cb_offset cr_offset : ℤ) (luma : List ℕ) (chroma : Both) (start : List ℕ) (starts : Both) (area : List ℕ) where
  -- the head and both records of m macroblocks stand over the front of the area, and the next ones begin at the place
  pub record FrameCoded (file rebuilt : List ℕ) (both : Both) (place m : ℕ) : Type 0 where
    pub kept : length rebuilt ≡ plane_length 16 l
    pub long : LongBoth 8 l both
    pub stepped : Folding (count_of l) (coded_step l qp luma) start rebuilt m
    pub chromas : Folding (count_of l) (coded_step_chroma l qp cb_offset cr_offset chroma) starts both m
    pub room : frame_area l ≤ length area
    pub front : Filled area (frame_to l qp cb_offset cr_offset luma chroma start starts m) file place

  abbrev records : (m : ℕ) → List ℕ
  records = records_on l qp cb_offset cr_offset luma chroma start starts

  -- what stands behind the place has room for both records of macroblock m
  pub frame_room : {file rebuilt : List ℕ} {both : Both} {place m : ℕ} → FrameCoded file rebuilt both place m → m < count_of l
      → place + (length_of in_fours + length_of in_chroma) ≤ length area
  frame_room {file} {rebuilt} {both} {place} {m} c h =
      let n = length_frame_to l qp cb_offset cr_offset luma chroma start starts m in
      let r = c.room in
      let below = mul-le-mul_left (length_of in_fours + length_of in_chroma) h in
      omega (arith, n, c.front.next, r, below)

  -- macroblock m has been coded: its records over the front of what was lent, and the planes behind its step
  pub frame_more : {file rebuilt : List ℕ} {both : Both} {place m : ℕ} → 0 < l.width → FrameCoded file rebuilt both place m → m < count_of l
      → {end used : ℕ} {back after : List ℕ} {both' : Both} → end ≡ length file
      → used ≡ length (records_from l qp cb_offset cr_offset luma chroma m rebuilt both)
      → back ≡ over (records_from l qp cb_offset cr_offset luma chroma m rebuilt both) (take (end - place) (drop place file))
      → after ≡ coded_step l qp luma m rebuilt
      → both' ≡ coded_step_chroma l qp cb_offset cr_offset chroma m both
      → FrameCoded (put_mid place (end - place) file back) after both' (place + used) (m + 1)
  unfolding plane_before both_before
  frame_more {file} {rebuilt} {both} {place} {m} some c h {end} {used} {back} {after} {both'} is-end is-used is-back is-after is-both =
      let e : records_from l qp cb_offset cr_offset luma chroma m rebuilt both ≡ records m =
      λ i. records_from l qp cb_offset cr_offset luma chroma m (c.stepped.is i) (c.chromas.is i) in
      let r = frame_room c h in
      let more : frame_to l qp cb_offset cr_offset luma chroma start starts (m + 1) ≡ frame_to l qp cb_offset cr_offset luma chroma start starts m ++ records m =
      ap (λ (x : List ℕ). head_for l ++ x) (parts_more m records) ∙ sym (append_assoc (head_for l) (parts m records) (records m)) in
      let short = length_records_on l qp cb_offset cr_offset luma chroma start starts m in
      let longer = both_long l some m h qp cb_offset cr_offset chroma both c.long in
      record {
        kept = ap length is-after ∙ (coded_step_law l some m h qp luma).long rebuilt ∙ c.kept;
        long = record { cbs = ap (λ (b : Both). length b.cb) is-both ∙ longer.cbs; crs = ap (λ (b : Both). length b.cr) is-both ∙ longer.crs };
        stepped = folding_more _ _ _ c.stepped h is-after;
        chromas = folding_more _ _ _ c.chromas h is-both;
        room = c.room;
        front = rw more
            (filled_more area c.front (records m) (omega (arith, r, c.front.next, short)) is-end (is-used ∙ ap length e)
            (is-back ∙ ap (λ (x : List ℕ). over x (take (end - place) (drop place file))) e));
      }

-- ---- from what stood there, and to what is left

module _ (l : Layout) (qp : ℕ) (cb_offset cr_offset : ℤ) (luma : List ℕ) (chroma : Both) (start : List ℕ) (starts : Both) (stood : List ℕ) where
  -- the head has been written
  pub frame_begun : {file : List ℕ} {place : ℕ} → length start ≡ plane_length 16 l → LongBoth 8 l starts → frame_area l ≤ length stood
      → file ≡ over (head_for l) stood → place ≡ behind_head l → FrameCoded l qp cb_offset cr_offset luma chroma start starts file file start starts place 0
  unfolding parts
  frame_begun {file} {place} long both room is-file is-place =
      let n = length_head l.width l.height l.rows in
      let same : file ≡ over (head_for l) file =
      is-file ∙ sym (ap (over (head_for l)) is-file ∙ over_again (head_for l) (head_for l) stood (omega arith)) in
      let area = ap length is-file ∙ length_over (head_for l) stood (omega (arith, n, room)) in
      record {
        kept = long;
        long = both;
        stepped = folding_none _ _ _;
        chromas = folding_none _ _ _;
        room = omega (arith, area, room);
        front = rw (append-nil (head_for l)) (record { fits = omega (arith, n, area, room); filled = same; next = is-place ∙ sym n });
      }

  pub frame_done : {area file rebuilt : List ℕ} {both : Both} {place m : ℕ} → area ≡ over (head_for l) stood
      → FrameCoded l qp cb_offset cr_offset luma chroma start starts area file rebuilt both place m → count_of l ≤ m
      → (place ≡ length (frame_from l qp cb_offset cr_offset luma chroma start starts))
      × (file ≡ over (frame_from l qp cb_offset cr_offset luma chroma start starts) stood)
      × (rebuilt ≡ plane_from l qp luma start)
      × (both ≡ both_from l qp cb_offset cr_offset chroma starts)
  unfolding frame_from plane_before both_before
  frame_done {area} {file} {rebuilt} {both} {place} {m} is-area c h =
      let e : m ≡ count_of l = omega (arith, c.stepped.below) in
      let all = frame_to l qp cb_offset cr_offset luma chroma start starts (count_of l) in
      let longer = length-append (head_for l) (parts (count_of l) (records_on l qp cb_offset cr_offset luma chroma start starts)) in (
        rw e at c.front.next,
        (rw e at c.front.filled) ∙ ap (over all) is-area ∙ over_again (head_for l) all stood (omega (arith, longer)),
        folding_done _ _ _ c.stepped h,
        folding_done _ _ _ c.chromas h,
      )
