-- The walk over records.
--     number_drop                a number from a place on
--     fine_inside                a record whose form is fine ends inside the file
--     said_broken, said_left, said_done     what a walk sends back
--     walk_more                  one record more
--     walk_stays                 a walk that a fault has stopped stays where it is
--     walk_stands                it stands at the place of the next record, or a fault has stopped it
--     walk_whole_exactly_if      it comes through exactly if every record's form is fine
--     walk_breaks_exactly_if     it stops at a record exactly if this one is faulty and none before it is
--     late_there                 a walk that number or sum has stopped stands at a record that is all there
--     form_passes_exactly_if, form_refuses_exactly_if     what is sent back: the first fault, or that bytes are left
--     place_none, place_more, place_next     where the first record begins, and the next
--     end_known, record_sound, Lent, lent     what code needs to lend record m of a walk that came through
--     lent_whole, lent_fours, lent_chroma     how long it is, by its kind
-- Assumes nothing.
use mathlib.Core.Path.{◌≡◌, refl, sym, ap, subst, ◌∙◌}
use mathlib.Core.Bool.{Bool, true, false}
use mathlib.Core.List.{List}
use mathlib.Core.Logic.{◌⊎◌, inl, inr, ⊎_elim, ◌↔◌}
use Prim.Native.Nat.{ℕ, zero, suc, ◌+◌, ◌-◌, ◌<◌, ◌≤◌}
use native.Mathlib.Numerals.{add-one}
use native.Mathlib.Omega.{arith}
use borrow.Author.Tests.{le-leb, lt-leb, leb-true, leb-false, eqb-true, eqb-false}
use lib.ListN.{length, take, drop, length-drop}
use lib.Seq.{get_or-drop, get_or-take, length-take-le}
use Rattle.lists.specs.Chain.{Verdict, pass, stop, chain, RefusedWith}
use Rattle.lists.specs.Fold.{fold}
use Rattle.lists.proofs.Chain.{pass_not_stop, chain_exactly_if}
use Rattle.lists.proofs.Fold.{fold_more}
use Rattle.refusal.specs.declared.Refusal.{Refusal}
use Rattle.record.specs.Faults.{broken, form_tests, formed, form_of, stepped, onward, walk_of, surplus, left_tests, walk_said}
use Rattle.refusal.specs.Faults.{refusal_of, AllThere}
use Rattle.record.specs.Kinds.{length_of, in_fours, in_whole, in_chroma, known, kind_of, as_expected, expected_in}
use Rattle.octets.specs.Numbers.{number_at}
use Rattle.record.specs.Records.{is_whole, length_from, record_at, record_place}
use Rattle.refusal.specs.declared.Fault.{Fault}
use Rattle.record.specs.declared.Expected.{Expected}
use Rattle.record.specs.declared.Kind.{Kind}
use Rattle.record.proofs.Forms.{FineForm, passed_sound, fine_sound, late_room}
use Rattle.record.proofs.Marks.{front_known, kind_whole, kind_fours, kind_chroma, luma_mark, chroma_mark}
use Rattle.std.specs.Prelude.{Err, Ok, Result}
use Rattle.record.specs.declared.Faulty.{Faulty}

-- a number from a place on
pub number_drop : (file : List ℕ) (place k : ℕ) → number_at k (drop place file) ≡ number_at (place + k) file
number_drop file place k =
    let z : place + (k + 1) ≡ place + k + 1 = omega arith in
    omega (arith, get_or-drop place file k 0, rw z at (get_or-drop place file (k + 1) 0))

pub mark_drop : (file : List ℕ) (place : ℕ) → number_at 0 (drop place file) ≡ number_at place file
mark_drop file place = let z : place + 0 ≡ place = omega arith in rw z at (number_drop file place 0)

-- a broken walk's fault and place are its own
abbrev fault_in : Result ℕ Faulty → Fault → Fault
fault_in (Ok place) other = other
fault_in (Err it) other = it.fault

abbrev place_in : Result ℕ Faulty → ℕ
place_in (Ok place) = 0
place_in (Err it) = it.place

whole_not_broken : {place other : ℕ} {fault : Fault} → Ok place ≡ broken fault other → ⊥
whole_not_broken e = let z : ◌≡◌ {A = ℕ} 0 1 = cc in omega arith

-- ---- what is sent back of a file

module _ (file : List ℕ) where
  -- what a walk that a fault has stopped sends back
  pub said_broken : {w : Result ℕ Faulty} {fault : Fault} {place : ℕ} → w ≡ broken fault place → {long : ℕ} → long ≡ length_from place file
      → {r : Refusal} → r ≡ refusal_of fault place long (length file) → walk_said file w ≡ stop r
  said_broken {w} {fault} {place} e {long} l {r} q = rw (e, q, l)

  -- and one that came through
  pub said_left : (end : ℕ) → end < length file → (w : Result ℕ Faulty) → w ≡ Ok end → walk_said file w ≡ stop (surplus (length file))
  said_left end h w e = rw e (simp (lt-leb (length file) end h))

  pub said_done : (end : ℕ) → length file ≤ end → (w : Result ℕ Faulty) → w ≡ Ok end → walk_said file w ≡ pass
  said_done end h w e = rw e (simp (le-leb (length file) end h))

-- ---- a record that is lent

module _ (file : List ℕ) where
  -- a record as expected that begins at a place and is so long, and is all there
  pub record Lent (expected : Expected) (place long : ℕ) : Type 0 where
    pub kind : Kind
    pub named : kind_of (number_at place file) ≡ known kind
    pub as_expected_law : as_expected expected.chroma (kind_of (number_at place file)) ≡ true
    pub is_long : long ≡ length_of kind
    pub inside : place + long ≤ length file
    pub part : take (place + long - place) (drop place file) ≡ record_at place file
    pub all : length (record_at place file) ≡ length_of kind

  -- and so of which kind it is
  module _ {expected : Expected} {place long : ℕ} (l : Lent expected place long) where
    abbrev lent_part : List ℕ
    lent_part = take (place + long - place) (drop place file)

    lent_mark : number_at 0 lent_part ≡ number_at place file
    lent_mark =
        let h : 6 ≤ place + long - place = omega (arith, l.is_long, front_known (number_at place file) l.kind l.named) in
        rw (get_or-take (place + long - place) (drop place file) 0 0 (omega (arith, h)), get_or-take (place + long - place) (drop place file) 1 0 (omega (arith, h)))
        (mark_drop file place)

    lent_long : length lent_part ≡ length_of l.kind
    lent_long = ap length l.part ∙ l.all

    pub lent_whole : is_whole lent_part ≡ true → length lent_part ≡ length_of in_whole
    lent_whole e =
        lent_long ∙ ap length_of (kind_whole (number_at place file) l.kind l.named (sym lent_mark ∙ eqb-true (number_at 0 lent_part) in_whole.mark e))

    pub lent_fours : expected.chroma ≡ false → is_whole lent_part ≡ false → length lent_part ≡ length_of in_fours
    lent_fours luma e =
        let not-chroma = luma_mark (number_at place file) (rw luma at l.as_expected_law) in
        lent_long ∙ ap length_of (kind_fours (number_at place file) l.kind l.named (λ q. eqb-false (number_at 0 lent_part) in_whole.mark e (lent_mark ∙ q)) not-chroma)

    pub lent_chroma : expected.chroma ≡ true → length lent_part ≡ length_of in_chroma
    lent_chroma chroma =
        lent_long ∙ ap length_of (kind_chroma (number_at place file) l.kind l.named (chroma_mark (number_at place file) (rw chroma at l.as_expected_law)))

-- ---- where records begin

module _ (file : List ℕ) (start : ℕ) where
  pub place_none : record_place 0 file start ≡ start
  unfolding record_place fold
  place_none = refl

  pub place_more : (m : ℕ) → record_place (m + 1) file start ≡ record_place m file start + length_from (record_place m file start) file
  unfolding record_place
  place_more m = fold_more m (λ k place. place + length_from place file) start

  -- where code stands that adds up lengths
  pub place_next : (m : ℕ) {place : ℕ} → place ≡ record_place m file start → {long : ℕ} → long ≡ length_from place file → place + long ≡ record_place (m + 1) file start
  place_next m {place} p {long} l = rw (l, p) (sym (place_more m))

-- ---- the walk

module _ (colour : Bool) (file : List ℕ) where
  -- a record whose form is fine ends inside the file
  pub fine_inside : (k place long : ℕ) → form_of (expected_in colour k) (drop place file) ≡ Ok long → (6 ≤ long) × (place + long ≤ length file)
  fine_inside k place long e =
      let s = fine_sound (expected_in colour k) (drop place file) long e in
      (omega (arith, s.0, s.1.some), omega (arith, s.0, s.1.some, s.1.room, length-drop place file))

  pub walk_more : (n start : ℕ) → walk_of colour (n + 1) file start ≡ onward colour file n (walk_of colour n file start)
  unfolding walk_of
  walk_more n start = fold_more n (onward colour file) (Ok start)

  stays : (n start : ℕ) {fault : Fault} {place : ℕ} → walk_of colour n file start ≡ broken fault place → (d : ℕ) → walk_of colour (n + d) file start ≡ broken fault place
  stays n start {fault} {place} e zero = let z : n + zero ≡ n = omega arith in rw z e
  stays n start {fault} {place} e (suc d) =
      let z : n + suc d ≡ n + d + 1 = omega arith in
      rw (z, walk_more (n + d) start, stays n start e d)

  pub walk_stays : (n m start : ℕ) {fault : Fault} {place : ℕ} → n ≤ m → walk_of colour n file start ≡ broken fault place → walk_of colour m file start ≡ broken fault place
  walk_stays n m start {fault} {place} h e = let z : n + (m - n) ≡ m = omega arith in rw z at (stays n start e (m - n))

  -- ---- where a walk stands

  module _ (start : ℕ) where
    -- what record m's own tests say, at its own place
    abbrev pub verdict_at : ℕ → Verdict Fault
    verdict_at m = chain (form_tests (expected_in colour m) (drop (record_place m file start) file))

    -- a fault has stopped the walk
    abbrev pub Stopped : ℕ → Type 0
    Stopped n = (fault : Fault) × (place : ℕ) × (walk_of colour n file start ≡ broken fault place)

    -- one record more, from where the walk stands
    abbrev went : ℕ → Verdict Fault → Result ℕ Faulty
    went m v = stepped (formed v (length_from (record_place m file start) file)) (record_place m file start)

    next : (m : ℕ) → walk_of colour m file start ≡ Ok (record_place m file start) → walk_of colour (m + 1) file start ≡ went m (verdict_at m)
    unfolding form_of
    next m e = walk_more m start ∙ ap (onward colour file m) e

    pub walk_stands : (m : ℕ) → (walk_of colour m file start ≡ Ok (record_place m file start)) ⊎ Stopped m
    unfolding walk_of record_place fold
    walk_stands zero = inl refl
    walk_stands (suc m) = ⊎_elim (λ e. by (verdict_at m) (rw (add-one m) at (next m e))) (λ s. inr (s.0, s.1, ap (onward colour file m) s.2)) (walk_stands m)
      where
        by : (v : Verdict Fault) → walk_of colour (suc m) file start ≡ went m v → (walk_of colour (suc m) file start ≡ Ok (record_place (suc m) file start)) ⊎ Stopped (suc m)
        by pass e = inl e
        by (stop f) e = inr (f, record_place m file start, e)

    -- a walk that came through stood at each record's place
    reached : (n m : ℕ) {end : ℕ} → m ≤ n → walk_of colour n file start ≡ Ok end → walk_of colour m file start ≡ Ok (record_place m file start)
    reached n m {end} h e =
        ⊎_elim (λ q. q) (λ s. absurd (whole_not_broken (sym e ∙ walk_stays m n start h s.2))) (walk_stands m)

    -- ---- it comes through exactly if every record's own tests pass

    whole_only : (n : ℕ) {end : ℕ} → walk_of colour n file start ≡ Ok end → (m : ℕ) → m < n → verdict_at m ≡ pass
    whole_only n {end} e m h =
        by (verdict_at m) (sym (next m (reached n m (omega arith) e)) ∙ reached n (m + 1) (omega arith) e)
      where
        by : (v : Verdict Fault) → went m v ≡ Ok (record_place (m + 1) file start) → v ≡ pass
        by pass d = refl
        by (stop f) d = absurd (whole_not_broken (sym d))

    whole_if : (n : ℕ) → ((m : ℕ) → m < n → verdict_at m ≡ pass) → walk_of colour n file start ≡ Ok (record_place n file start)
    unfolding walk_of record_place fold
    whole_if zero h = refl
    whole_if (suc n) h = (rw (add-one n) at (next n (whole_if n (λ m l. h m (omega arith))))) ∙ ap (went n) (h n (omega arith))

    pub walk_whole_exactly_if : (n : ℕ) → (walk_of colour n file start ≡ Ok (record_place n file start)) ↔ ((m : ℕ) → m < n → verdict_at m ≡ pass)
    walk_whole_exactly_if n = (whole_only n, whole_if n)

    -- ---- it stops at a record exactly if this one's own tests say this fault, and those of all before it pass

    abbrev pub FirstFault : ℕ → Fault → ℕ → Type 0
    FirstFault n fault place = (m : ℕ) × (m < n) × (place ≡ record_place m file start) × ((k : ℕ) → k < m → verdict_at k ≡ pass) × (verdict_at m ≡ stop fault)

    breaks_if : (n : ℕ) (fault : Fault) (place : ℕ) → FirstFault n fault place → walk_of colour n file start ≡ broken fault place
    breaks_if n fault place (m, h, p, f, v) =
        walk_stays (m + 1) n start (omega arith) (next m (whole_if m f) ∙ ap (went m) v ∙ ap (broken fault) (sym p))

    breaks_only : (n : ℕ) (fault : Fault) (place : ℕ) → walk_of colour n file start ≡ broken fault place → FirstFault n fault place
    unfolding walk_of fold
    breaks_only zero fault place e = absurd (whole_not_broken e)
    breaks_only (suc n) fault place e =
        ⊎_elim
        (λ q. by (verdict_at n) refl q (sym (rw (add-one n) at (next n q)) ∙ e))
        (λ s. later (breaks_only n fault place (s.2 ∙ sym (ap (onward colour file n) s.2) ∙ e)))
        (walk_stands n)
      where
        later : FirstFault n fault place → FirstFault (suc n) fault place
        later (m, h, p, f, v) = (m, omega arith, p, f, v)

        by : (v : Verdict Fault) → verdict_at n ≡ v → walk_of colour n file start ≡ Ok (record_place n file start) → went n v ≡ broken fault place → FirstFault (suc n) fault place
        by pass v q d = absurd (whole_not_broken d)
        by (stop g) v q d =
            let p : place ≡ record_place n file start = sym (ap place_in d) in
            let f : g ≡ fault = ap (λ w. fault_in w g) d in
            (n, omega arith, p, whole_only n q, v ∙ ap stop f)

    pub walk_breaks_exactly_if : (n : ℕ) (fault : Fault) (place : ℕ) → (walk_of colour n file start ≡ broken fault place) ↔ FirstFault n fault place
    walk_breaks_exactly_if n fault place = (breaks_only n fault place, breaks_if n fault place)

    -- a walk that number or sum has stopped stands at a record that is all there: what a place inside it asks
    pub late_there : (n : ℕ) (fault : Fault) (place : ℕ) → walk_of colour n file start ≡ broken fault place → AllThere fault place (length_from place file) (length file)
    late_there n fault place e =
        let f = breaks_only n fault place e in
        let at : ℕ = record_place f.0 file start in
        let d = length-drop at file in
        let there : AllThere fault at (length_from at file) (length file) = record {
          some = λ h. omega (arith, (late_room (expected_in colour f.0) (drop at file) fault h f.4).0);
          inside = λ h. let r = late_room (expected_in colour f.0) (drop at file) fault h f.4 in omega (arith, r.0, r.1, d);
        } in
        subst (λ (p : ℕ). AllThere fault p (length_from p file) (length file)) (sym f.2) there

    -- ---- what the form of a file's records sends back

    pub form_passes_exactly_if : (n : ℕ)
        → (walk_said file (walk_of colour n file start) ≡ pass) ↔ (((m : ℕ) → m < n → verdict_at m ≡ pass) × (length file ≤ record_place n file start))
    form_passes_exactly_if n = (only, λ h. said_done file (record_place n file start) h.1 (walk_of colour n file start) (whole_if n h.0))
      where
        only : walk_said file (walk_of colour n file start) ≡ pass → ((m : ℕ) → m < n → verdict_at m ≡ pass) × (length file ≤ record_place n file start)
        only h =
            ⊎_elim
            (λ q. (whole_only n q, leb-true (length file) (record_place n file start) ((chain_exactly_if (left_tests file (record_place n file start))).passes.0 (sym (ap (walk_said file) q) ∙ h)).0))
            (λ s. absurd (pass_not_stop (sym h ∙ ap (walk_said file) s.2)))
            (walk_stands n)

    -- record m is the first faulty one, or all are fine and bytes are left
    pub record Faulted (n : ℕ) (r : Refusal) : Type 0 where
      pub fault : Fault
      pub place : ℕ
      pub first : FirstFault n fault place
      pub is : r ≡ refusal_of fault place (length_from place file) (length file)

    pub record Left (n : ℕ) (r : Refusal) : Type 0 where
      pub fine : (m : ℕ) → m < n → verdict_at m ≡ pass
      pub more : record_place n file start < length file
      pub is : r ≡ surplus (length file)

    pub form_refuses_exactly_if : (n : ℕ) (r : Refusal) → (walk_said file (walk_of colour n file start) ≡ stop r) ↔ (Faulted n r ⊎ Left n r)
    form_refuses_exactly_if n r = (only, ⊎_elim if_faulted if_left)
      where
        if_faulted : Faulted n r → walk_said file (walk_of colour n file start) ≡ stop r
        if_faulted h = said_broken file (breaks_if n h.fault h.place h.first) refl h.is

        if_left : Left n r → walk_said file (walk_of colour n file start) ≡ stop r
        if_left h = said_left file (record_place n file start) h.more (walk_of colour n file start) (whole_if n h.fine) ∙ ap stop (sym h.is)

        by : walk_of colour n file start ≡ Ok (record_place n file start) → RefusedWith (left_tests file (record_place n file start)) r → Faulted n r ⊎ Left n r
        by q (inl e) = inr (record { fine = whole_only n q; more = leb-false (length file) (record_place n file start) e.0; is = e.1 })
        by q (inr e) = absurd e.1

        only : walk_said file (walk_of colour n file start) ≡ stop r → Faulted n r ⊎ Left n r
        only h =
            ⊎_elim
            (λ q. by q (((chain_exactly_if (left_tests file (record_place n file start))).refuses r).0 (sym (ap (walk_said file) q) ∙ h)))
            (λ s.
            let e : stop (refusal_of s.0 s.1 (length_from s.1 file) (length file)) ≡ stop r = sym (ap (walk_said file) s.2) ∙ h in
            inl (record { fault = s.0; place = s.1; first = breaks_only n s.0 s.1 s.2; is = cc }))
            (walk_stands n)

    -- ---- what code needs to lend record m of a walk that came through

    module _ (n : ℕ) (end : ℕ) (came : walk_of colour n file start ≡ Ok end) where
      pub end_known : end ≡ record_place n file start
      end_known = cc (reached n n (omega arith) came)

      pub record_sound : (m : ℕ) → m < n → FineForm (expected_in colour m) (drop (record_place m file start) file)
      record_sound m h = passed_sound (expected_in colour m) (drop (record_place m file start) file) (whole_only n came m h)

      -- at its place, and as long as its mark says
      pub lent : (m : ℕ) → m < n → {place : ℕ} → place ≡ record_place m file start → {long : ℕ} → long ≡ length_from place file → Lent file (expected_in colour m) place long
      unfolding record_at
      lent m h {place} p {long} l =
          let s = subst (λ (i : ℕ). FineForm (expected_in colour m) (drop i file)) (sym p) (record_sound m h) in
          let d = length-drop place file in
          let z : place + long - place ≡ length_from place file = omega (arith, l) in
          record {
            kind = s.kind;
            named = ap kind_of (sym (mark_drop file place)) ∙ s.named;
            as_expected_law = rw (mark_drop file place) at s.as_expected_law;
            is_long = l ∙ s.long;
            inside = omega (arith, l, d, s.some, s.room);
            part = ap (λ (i : ℕ). take i (drop place file)) z;
            all = length-take-le (length_from place file) (drop place file) s.room ∙ s.long;
          }
