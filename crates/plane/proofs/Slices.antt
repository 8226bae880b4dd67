-- A plane in slices (02, Req 02), of any call of `code_plane`, over its own reading: a holds the call's arguments, r its answer, e what is lent at
-- its exit; with a stroke those of a second call.
--     slice_owner              a sample's slice is its macroblock's
--     records_alone, samples_alone     two planes that agree in a slice have the same records and rebuilt samples there
--     slice_alone              so it is of two calls
--     old_head_exactly_if      the file begins with the old head exactly if the picture is one slice
--     one_slice_file, one_slice_head     and then it is the file of document 01; a new head whose n is the height says the same picture
-- Assumes nothing.
use mathlib.Core.Path.{◌≡◌, refl, sym, ap, subst, ◌∙◌}
use mathlib.Core.List.{List, ◌++◌}
use mathlib.Core.Logic.{◌↔◌}
use Prim.Native.Nat.{ℕ, ◌+◌, ◌*◌, ◌/◌, ◌%◌, ◌<◌}
use native.Mathlib.Nat.{mod-lt, div-lt_iff_lt-mul, mul_comm}
use native.Mathlib.Omega.{arith}
use borrow.Author.Tests.{eq-eqb}
use contract.Lifetimes.{Lfts}
use denote.Triple.Clauses.{AtExit}
use borrow.Fn.Kinds.{Dens, res_t, ended_of}
use lib.Arith.{digits_div}
use lib.ListN.{length, take}
use Rattle.lists.specs.Parts.{parts}
use Rattle.lists.proofs.Alike.{Agree}
use Rattle.lists.proofs.Tab.{length_tab}
use Rattle.head.specs.Entry.{long_at, width_at, height_at, rows_at}
use Rattle.octets.specs.Sum.{summed}
use Rattle.head.specs.Heads.{old_length, old_head, new_length, new_head, head_of, length_by}
use Rattle.head.proofs.Heads.{size_tells}
use Rattle.head.proofs.Back as head
use Rattle.record.specs.Kinds.{in_fours, length_of}
use Rattle.picture.specs.declared.Layout.{Layout}
use Rattle.picture.specs.Order.{count_of}
use Rattle.picture.specs.Plane.{layout_of, plane_length}
use Rattle.picture.specs.Presence.{slice_of}
use Rattle.picture.proofs.Alone.{slice_made, slice_samples}
use Rattle.picture.proofs.Owner.{macroblock_owning}
use Rattle.picture.proofs.Steps.{wide}
use Rattle.macroblock.specs.Code.{record_from, coded_step}
use Rattle.macroblock.proofs.Looks.{coded_step_law, record_looks}
use Rattle.macroblock.proofs.Own.{step_by_samples, record_by_samples}
use Rattle.plane.specs.Decode.{record_in, layout_in, cleared}
use Rattle.plane.specs.Code.{in_slices, behind_head, area_length, plane_before, plane_from, file_from, CodesPlane}
use Rattle.plane.specs.Slices.{slice_at, SameInSlice}
use Rattle.plane.proofs.CodedFile.{record_on}
use Rattle.plane.proofs.CodedOutcome.{outcome}
use Rattle.plane.proofs.Trip.{own_record_in}
use Rattle.plane.proofs.code_plane.Kinds as call
use Rattle.plane.proofs.code_plane.Reads as reads
use Rattle.std.specs.Prelude.{Ok, Result}
use Rattle.refusal.specs.declared.Refusal.{Refusal}

-- ---- by the definitions

module _ (l : Layout) (some : 0 < l.width) where
  pub slice_owner : (i : ℕ) → slice_of l (macroblock_owning 16 l i) ≡ slice_at l i
  slice_owner i =
      let sixteen : 0 < 16 = omega arith in
      let column : i % (16 * l.width) / 16 < l.width = (div-lt_iff_lt-mul sixteen).1 (omega (arith, mod-lt i (wide 16 (omega arith) l some), mul_comm 16 l.width)) in
      ap (λ (row : ℕ). row / l.rows) (digits_div (i / (16 * l.width) / 16) {m = l.width} {r = i % (16 * l.width) / 16} column)

  module _ (qp : ℕ) (p q start : List ℕ) (this : length p ≡ plane_length 16 l) (that : length q ≡ plane_length 16 l) (long : length start ≡ plane_length 16 l)
      (slice : ℕ) (same : SameInSlice l slice p q)
    where
      own : (m : ℕ) → slice_of l m ≡ slice → Agree 0 (plane_length 16 l) (λ i. macroblock_owning 16 l i ≡ m) p q
      own m e = record { this = this; that = that; agree = λ i h is. same i h (sym (slice_owner i) ∙ ap (slice_of l) is ∙ e) }

      pub records_alone : (m : ℕ) → m < count_of l → slice_of l m ≡ slice → record_on l qp p start m ≡ record_on l qp q start m
      unfolding plane_before
      records_alone m h e =
          slice_made 16 (omega arith) l some slice (coded_step l qp p) (coded_step l qp q) (λ k n. coded_step_law l some k n qp p) (λ k n. coded_step_law l some k n qp q)
          (λ k n is plane room. step_by_samples l some qp p q k n (own k is) plane) start start long long
          (record_from l qp p) (record_from l qp q) m h e (record_looks l some m h qp p) (λ plane room. record_by_samples l some qp p q m h (own m e) plane)

      pub samples_alone : SameInSlice l slice (plane_from l qp p start) (plane_from l qp q start)
      unfolding plane_before
      samples_alone i h e =
          slice_samples 16 (omega arith) l some slice (coded_step l qp p) (coded_step l qp q) (λ k n. coded_step_law l some k n qp p) (λ k n. coded_step_law l some k n qp q)
          (λ k n is plane room. step_by_samples l some qp p q k n (own k is) plane) start start long long i h (slice_owner i ∙ e)

-- ---- by the contract

-- two planes coded alike: the records of a slice in which they agree, each in the bytes used, and its rebuilt samples
module _ (width height rows qp : ℕ) (p q file-p rebuilt-p file-q rebuilt-q : List ℕ) (used-p used-q : ℕ) (file-p' rebuilt-p' file-q' rebuilt-q' : List ℕ)
    (coded-p : CodesPlane width height rows qp p file-p rebuilt-p (Ok used-p) file-p' rebuilt-p')
    (coded-q : CodesPlane width height rows qp q file-q rebuilt-q (Ok used-q) file-q' rebuilt-q')
    (slice : ℕ) (same : SameInSlice (in_slices width height rows) slice p q)
  where
    abbrev l : Layout
    l = in_slices width height rows

    alone_coded : ((m : ℕ) → m < count_of l → slice_of l m ≡ slice → record_in (take used-p file-p') (behind_head l) m ≡ record_in (take used-q file-q') (behind_head l) m)
        × SameInSlice l slice rebuilt-p' rebuilt-q'
    alone_coded =
        let start = cleared (plane_length 16 l) in
        let x = outcome width height rows qp p file-p rebuilt-p used-p file-p' rebuilt-p' coded-p in
        let y = outcome width height rows qp q file-q rebuilt-q used-q file-q' rebuilt-q' coded-q in
        let some = (size_tells width height x.size).some in
        let long : length (cleared (plane_length 16 l)) ≡ plane_length 16 l = length_tab {A = ℕ} (plane_length 16 l) (λ k. 0) in (
          λ m h e.
              ap (λ (f : List ℕ). record_in f (behind_head l) m) x.filed ∙ own_record_in l qp p start m h
              ∙ records_alone l some qp p q start x.long y.long long slice same m h e
              ∙ sym (ap (λ (f : List ℕ). record_in f (behind_head l) m) y.filed ∙ own_record_in l qp q start m h),
          λ i h e. rw (x.stored, y.stored) (samples_alone l some qp p q start x.long y.long long slice same i h e),
        )

module _ (κs κs' : Lfts 3) (a : Dens κs call.ps) (a' : Dens κs' call.ps) (r : (res_t call.r κs).Denot) (r' : (res_t call.r κs').Denot)
    (e : AtExit (ended_of 3 call.ps call.r) κs) (e' : AtExit (ended_of 3 call.ps call.r) κs') (learnt : reads.Learnt κs a r e) (learnt' : reads.Learnt κs' a' r' e')
  where
    abbrev layout : Layout
    layout = in_slices a.0 a.1.0 a.1.1.0

    -- the file areas and the rebuilt planes as they are left
    abbrev left : List ℕ
    left = e.1.1.1.1.1.0.now

    abbrev left' : List ℕ
    left' = e'.1.1.1.1.1.0.now

    abbrev rebuilt : List ℕ
    rebuilt = e.1.1.1.1.1.1.0.now

    abbrev rebuilt' : List ℕ
    rebuilt' = e'.1.1.1.1.1.1.0.now

    pub slice_alone : a'.0 ≡ a.0 → a'.1.0 ≡ a.1.0 → a'.1.1.0 ≡ a.1.1.0 → a'.1.1.1.0 ≡ a.1.1.1.0
        → (used used' : ℕ) → r ≡ Ok used → r' ≡ Ok used'
        → (slice : ℕ) → SameInSlice layout slice a.1.1.1.1.0.now a'.1.1.1.1.0.now
        → ((m : ℕ) → m < count_of layout → slice_of layout m ≡ slice → record_in (take used left) (behind_head layout) m ≡ record_in (take used' left') (behind_head layout) m)
        × SameInSlice layout slice rebuilt rebuilt'
    slice_alone width height rows qp used used' is is' slice same =
        let c = subst (λ (x : Result ℕ Refusal). CodesPlane a.0 a.1.0 a.1.1.0 a.1.1.1.0 a.1.1.1.1.0.now a.1.1.1.1.1.0.now a.1.1.1.1.1.1.0.now x left rebuilt) is learnt in
        let d : CodesPlane a.0 a.1.0 a.1.1.0 a.1.1.1.0 a'.1.1.1.1.0.now a'.1.1.1.1.1.0.now a'.1.1.1.1.1.1.0.now (Ok used') left' rebuilt' =
        coe 0 1 (i. CodesPlane (width i) (height i) (rows i) (qp i) a'.1.1.1.1.0.now a'.1.1.1.1.1.0.now a'.1.1.1.1.1.1.0.now (is' i) left' rebuilt') learnt' in
        alone_coded a.0 a.1.0 a.1.1.0 a.1.1.1.0 a.1.1.1.1.0.now a'.1.1.1.1.0.now
        a.1.1.1.1.1.0.now a.1.1.1.1.1.1.0.now a'.1.1.1.1.1.0.now a'.1.1.1.1.1.1.0.now
        used used' left rebuilt left' rebuilt' c d slice same

-- ---- one slice

module _ (κs : Lfts 3) (a : Dens κs call.ps) (r : (res_t call.r κs).Denot) (e : AtExit (ended_of 3 call.ps call.r) κs) (learnt : reads.Learnt κs a r e) where
  -- "the coder writes it exactly if n is the height": what the file begins with, of a call that answers how many bytes were used
  pub old_head_exactly_if : (used : ℕ) → r ≡ Ok used
      → (take old_length (take used e.1.1.1.1.1.0.now) ≡ old_head a.0 a.1.0) ↔ (a.1.1.0 ≡ a.1.0)
  unfolding file_from
  old_head_exactly_if used is =
      let c = subst (λ (x : Result ℕ Refusal). CodesPlane a.0 a.1.0 a.1.1.0 a.1.1.1.0 a.1.1.1.1.0.now a.1.1.1.1.1.0.now a.1.1.1.1.1.1.0.now x e.1.1.1.1.1.0.now e.1.1.1.1.1.1.0.now) is learnt in
      let o = outcome a.0 a.1.0 a.1.1.0 a.1.1.1.0 a.1.1.1.1.0.now a.1.1.1.1.1.0.now a.1.1.1.1.1.1.0.now used e.1.1.1.1.1.0.now e.1.1.1.1.1.1.0.now c in
      let l = in_slices a.0 a.1.0 a.1.1.0 in
      let records = parts (count_of l) (record_on l a.1.1.1.0 a.1.1.1.1.0.now (cleared (plane_length 16 l))) in
      let begins = head.begins_old a.0 a.1.0 a.1.1.0 records in
      rw o.filed (begins.0, begins.1)

-- where n is the height the layout is that of one slice, so every record is as before (`one_slice_as_before` of `picture`): and the file is the
-- old head and these records, and the area counts 8
pub one_slice_file : (width height qp : ℕ) (original start : List ℕ)
    → (file_from (in_slices width height height) qp original start
    ≡ old_head width height ++ parts (width * height) (λ m. record_from (layout_of width height) qp original m (plane_before (layout_of width height) qp original start m)))
    × (area_length (in_slices width height height) ≡ old_length + length_of in_fours * (width * height))
unfolding file_from head_of
one_slice_file width height qp original start = (rw (eq-eqb height height refl), rw (eq-eqb height height refl))

-- a new head that says one slice, and whatever stands behind it: the picture is that of the old head, its records begin two bytes later
pub one_slice_head : (width height : ℕ) (rest : List ℕ) → (layout_in (new_head width height height ++ rest) ≡ layout_of width height) × (long_at (new_head width height height ++ rest) ≡ new_length)
unfolding new_head summed rows_at length_by
one_slice_head width height rest =
    let w : width_at (new_head width height height ++ rest) ≡ width = omega arith in
    let h : height_at (new_head width height height ++ rest) ≡ height = omega arith in
    let n : rows_at (new_head width height height ++ rest) ≡ height = omega arith in
    (λ i. record { width = w i; height = h i; rows = n i }, refl)
