-- Each record carries its own macroblock.
--     SameTo                      two planes that agree in all macroblocks before one
--     before_own, same_records      up to it they are rebuilt alike, and they have the same records
--     own_front                   so their files are the same up to that macroblock's record
--     own_record_coded            the same by the contract, of two planes that were coded
-- That record m differs where macroblock m does is a witness by evaluation (OwnWitness).
-- Assumes nothing.
use mathlib.Core.Path.{◌≡◌, sym, ap, ◌∙◌}
use mathlib.Core.Bool.{false}
use mathlib.Core.List.{List, ◌++◌}
use Prim.Native.Nat.{ℕ, ◌*◌, ◌<◌, ◌≤◌}
use native.Mathlib.Omega.{arith}
use lib.ListN.{length, take}
use Rattle.lists.proofs.Fold.{fold_follow}
use Rattle.lists.proofs.Parts.{parts_same, parts_front}
use Rattle.record.specs.Records.{record_place}
use Rattle.head.proofs.Back.{length_head}
use Rattle.record.proofs.Back.{place_found}
use Rattle.picture.specs.declared.Layout.{Layout}
use Rattle.picture.specs.Order.{count_of}
use Rattle.picture.specs.Plane.{plane_length, block_of}
use Rattle.macroblock.specs.Code.{record_from, coded_step}
use Rattle.macroblock.proofs.Own.{step_own, record_own}
use Rattle.plane.specs.Decode.{cleared}
use Rattle.plane.specs.Code.{in_slices, head_for, behind_head, plane_before, file_from, CodesPlane}
use Rattle.plane.proofs.CodedFile.{record_on, file_to, own_on}
use Rattle.plane.proofs.CodedOutcome.{outcome}
use Rattle.std.specs.Prelude.{Ok}

-- two planes that agree in all macroblocks before m
abbrev pub SameTo : Layout → (m : ℕ) → (p q : List ℕ) → Type 0
SameTo l m p q = (k : ℕ) → k < m → (b : ℕ) → b < 16 → block_of 4 l k b p ≡ block_of 4 l k b q

-- ---- the picture

module _ (l : Layout) (qp : ℕ) (original start : List ℕ) where
  -- record m begins where the head and the records before it end
  pub place_from : (m : ℕ) → m ≤ count_of l → record_place m (file_from l qp original start) (behind_head l) ≡ length (file_to l qp original start m)
  unfolding file_from
  place_from m h =
      ap (record_place m (file_to l qp original start (count_of l))) (sym (length_head l.width l.height l.rows))
      ∙ place_found false (head_for l) (record_on l qp original start) (count_of l) (λ k n. own_on l qp original start k) m h

  -- and these are what stands before it
  pub front_from : (m : ℕ) → m ≤ count_of l → take (record_place m (file_from l qp original start) (behind_head l)) (file_from l qp original start) ≡ file_to l qp original start m
  unfolding file_from
  front_from m h =
      ap (λ (n : ℕ). take n (file_to l qp original start (count_of l))) (place_from m h)
      ∙ parts_front (head_for l) (count_of l) m (record_on l qp original start) h

module _ (l : Layout) (qp : ℕ) (start p q : List ℕ) (m : ℕ) (same : SameTo l m p q) where
  pub before_own : (k : ℕ) → k ≤ m → plane_before l qp p start k ≡ plane_before l qp q start k
  unfolding plane_before
  before_own k h =
      fold_follow k (coded_step l qp p) (coded_step l qp q) start (λ i n. step_own l qp p q i (same i (omega arith)) (plane_before l qp q start i))

  pub same_records : (k : ℕ) → k < m → record_on l qp p start k ≡ record_on l qp q start k
  same_records k h = ap (record_from l qp p k) (before_own k (omega arith)) ∙ record_own l qp p q k (same k h) (plane_before l qp q start k)

  -- the head and all records before record m, which begins at the same place
  pub own_front : file_to l qp p start m ≡ file_to l qp q start m
  own_front = ap (λ (records : List ℕ). head_for l ++ records) (parts_same m (record_on l qp p start) (record_on l qp q start) same_records)

-- ---- by the contract

-- the files of two planes that agree in all macroblocks before m, each in the bytes used: where record m begins, and what stands before it
module _ (width height rows qp : ℕ) (p q file-p rebuilt-p file-q rebuilt-q : List ℕ) (used-p used-q : ℕ) (file-p' rebuilt-p' file-q' rebuilt-q' : List ℕ)
    (coded-p : CodesPlane width height rows qp p file-p rebuilt-p (Ok used-p) file-p' rebuilt-p')
    (coded-q : CodesPlane width height rows qp q file-q rebuilt-q (Ok used-q) file-q' rebuilt-q')
  where
    pub own_record_coded : (m : ℕ) → m ≤ width * height → SameTo (in_slices width height rows) m p q
        → (record_place m (take used-p file-p') (behind_head (in_slices width height rows)) ≡ record_place m (take used-q file-q') (behind_head (in_slices width height rows)))
        × (take (record_place m (take used-p file-p') (behind_head (in_slices width height rows))) (take used-p file-p') ≡ take (record_place m (take used-q file-q') (behind_head (in_slices width height rows))) (take used-q file-q'))
    own_record_coded m h same =
        let l = in_slices width height rows in
        let start = cleared (plane_length 16 (in_slices width height rows)) in
        let x = (outcome width height rows qp p file-p rebuilt-p used-p file-p' rebuilt-p' coded-p).filed in
        let y = (outcome width height rows qp q file-q rebuilt-q used-q file-q' rebuilt-q' coded-q).filed in
        let front = own_front l qp start p q m same in
        rw (x, y) (place_from l qp p start m h ∙ ap length front ∙ sym (place_from l qp q start m h), front_from l qp p start m h ∙ front ∙ sym (front_from l qp q start m h))
