-- Reading gives back what was written.
--     Own, first_own, form_own                               a record of any kind, whatever stands behind it
--     longest_own                                            it is no longer than one of the 4x4 kind
--     length_with, number_with, qp_with, level_with_law, levels_with, own_with     what is written with a kind's mark and lengths is one, and is read back
--     length_record, qp_back, mode_back, level_back, levels_back, own_record, not_whole     the 4x4 kind
--     length_whole, whole_qp_back, whole_mode_back, whole_levels_back, own_whole, is_whole_law     the 16x16 kind
--     length_chroma, cb_offset_back, cr_offset_back, chroma_mode_back, chroma_levels_back, own_chroma     the chroma kind
--     walk_own, said_own, place_found, record_found          the walk over records one behind the other, each of any kind, comes through, and
--                                                            each is found where what stands before it ends
--     colour_found                                           by its second record such a file is seen to be mono or colour
--     in_turn, in_turn_luma, in_turn_chroma, own_in_turn, parts_in_turn     a luma record and its chroma record in turn
-- Assumes nothing.
use mathlib.Core.Path.{◌≡◌, refl, sym, ap, ◌∙◌}
use mathlib.Core.Bool.{Bool, true, false, cond}
use mathlib.Core.List.{List, [], ◌∷◌, ◌++◌, append-nil, append_assoc}
use Prim.Native.Nat.{ℕ, zero, suc, ◌+◌, ◌-◌, ◌*◌, ◌/◌, ◌%◌, ◌<◌, ◌≤◌}
use native.Mathlib.Omega.{arith}
use borrow.Author.Tests.{eq-eqb, ne_eqb, le-leb, lt-leb, leb-true, leb-false}
use lib.Dec.{eqb, leb}
use lib.IntN.{ℤ, pos}
use lib.ListN.{length, take, drop, get_or, length-append, length-drop, get_or-append}
use lib.Seq.{take_at, get_or-take, get_or-drop, length-take-le}
use mir.Syntax.{w8, w16}
use mir.Val.{of_z, to_z, SFits}
use mir.ValLaws.{to_z-of_z}
use Rattle.lists.specs.Chain.{pass}
use Rattle.lists.specs.Fold.{fold}
use Rattle.lists.specs.Parts.{parts}
use Rattle.lists.proofs.Fold.{fold_keeps}
use Rattle.lists.proofs.Parts.{part_behind, parts_more}
use Rattle.lists.proofs.Tab.{tab_of}
use Rattle.record.specs.Faults.{form_of, stepped, onward, walk_of, walk_said}
use Rattle.record.specs.Kinds.{length_of, in_fours, in_whole, in_chroma, known, kind_of, length_known, as_expected, expected_luma, expected_chroma, per_macroblock, expected_in}
use Rattle.octets.specs.Modes.{packed, unpaired}
use Rattle.octets.specs.Numbers.{bytes_of, number_at, level_bytes, signed_byte}
use Rattle.octets.specs.Sum.{summed, sum_holds}
use Rattle.record.specs.Records.{front_with, record_with, level_with, all_levels_in, record_of, record_whole, record_chroma, number_in, qp_in, is_whole, whole_mode_in, mode_in, level_in, levels_in, cb_offset_in, cr_offset_in, chroma_mode_in, length_in, first_in, length_from, record_at, record_place, chroma_next, colour_at}
use Rattle.octets.specs.Sum.{record_sum}
use Rattle.record.specs.declared.Expected.{Expected}
use Rattle.record.specs.declared.Kind.{Kind}
use Rattle.record.proofs.Forms.{form_fine}
use Rattle.octets.proofs.Back.{number_behind, number_before, number_level, sum_own}
use Rattle.octets.proofs.Levels.{length_levels}
use Rattle.record.proofs.Marks.{front_known, longest_known, fours, wholes, chromas, length_there, luma_mark, chroma_mark, expected_second}
use Rattle.octets.proofs.Modes.{length_packed, packed_back}
use Rattle.record.proofs.Walks.{end_known}
use Rattle.std.specs.Prelude.{Ok, Result}
use Rattle.refusal.specs.declared.Fault.{Fault}
use Rattle.record.specs.declared.Faulty.{Faulty}

-- ---- a record of any kind

-- a record as expected: its mark is a kind's that is expected, it is as long as this kind, it has the number, and its sum is right
pub record Own (expected : Expected) (bytes : List ℕ) : Type 0 where
  pub kind : Kind
  pub named : kind_of (number_at 0 bytes) ≡ known kind
  pub as_expected_law : as_expected expected.chroma (kind_of (number_at 0 bytes)) ≡ true
  pub long : length bytes ≡ length_of kind
  pub numbered : number_in bytes ≡ expected.number
  pub sums : sum_holds bytes ≡ true

module _ (expected : Expected) (bytes : List ℕ) (own : Own expected bytes) where
  six_own : 6 ≤ length bytes
  six_own = omega (arith, own.long, front_known (number_at 0 bytes) own.kind own.named)

  pub longest_own : length bytes ≤ length_of in_fours
  longest_own = omega (arith, own.long, longest_known (number_at 0 bytes) own.kind own.named)

  module _ (rest : List ℕ) where
    -- whatever stands behind it, its mark says where it ends
    length_own : length_in (bytes ++ rest) ≡ length bytes
    length_own =
        length_there (bytes ++ rest) (omega (arith, six_own, length-append bytes rest))
        ∙ ap (λ (mark : ℕ). length_known (kind_of mark)) (number_before bytes rest 0 (omega (arith, six_own)))
        ∙ ap length_known own.named ∙ sym own.long

    pub first_own : first_in (bytes ++ rest) ≡ bytes
    first_own = rw length_own (take_at bytes rest (length bytes) refl)

    -- and of which kind it is
    mark_own : number_at 0 (bytes ++ rest) ≡ number_at 0 bytes
    mark_own = number_before bytes rest 0 (omega (arith, six_own))

    pub form_own : form_of expected (bytes ++ rest) ≡ Ok (length bytes)
    form_own =
        let l = length_own in
        form_fine expected (bytes ++ rest) (omega (arith, six_own, length-append bytes rest)) (rw mark_own own.as_expected_law) (omega (arith, l, length-append bytes rest))
        (number_before bytes rest 2 (omega (arith, six_own)) ∙ own.numbered) (rw first_own own.sums)
        ∙ ap Ok l

    -- it begins with a chroma record's mark exactly if one is expected
    next_own : chroma_next (bytes ++ rest) ≡ expected.chroma
    next_own =
        rw (le-leb 2 (length (bytes ++ rest)) (omega (arith, six_own, length-append bytes rest)), mark_own) (by expected.chroma own.as_expected_law)
      where
        by : (b : Bool) → as_expected b (kind_of (number_at 0 bytes)) ≡ true → eqb (number_at 0 bytes) in_chroma.mark ≡ b
        by true t = eq-eqb (number_at 0 bytes) in_chroma.mark (chroma_mark (number_at 0 bytes) t)
        by false t = ne_eqb (number_at 0 bytes) in_chroma.mark (luma_mark (number_at 0 bytes) t)

module _ (kind : Kind) (number : ℕ) (more : List ℕ) (levels : List ℤ) where
  pub number_with : number_in (record_with kind number more levels) ≡ number
  unfolding record_with summed
  number_with = omega arith

  mark_with : number_at 0 (record_with kind number more levels) ≡ kind.mark
  unfolding record_with summed
  mark_with = omega arith

  sums_with : sum_holds (record_with kind number more levels) ≡ true
  unfolding record_with
  sums_with = sum_own (front_with kind number more ++ level_bytes levels)

  module _ (front : 4 + length more ≡ kind.front) (long : length levels ≡ kind.levels) where
    pub length_with : length (record_with kind number more levels) ≡ length_of kind
    unfolding record_with summed
    length_with =
        let f = front_with kind number more in
        let b = bytes_of (record_sum (f ++ level_bytes levels)) in
        omega (arith, front, long, length-append (f ++ level_bytes levels) b, length-append f (level_bytes levels), length_levels levels)

    -- a record that is written with a kind's mark and lengths is one, where this kind is expected
    pub own_with : kind_of kind.mark ≡ known kind → (chroma : Bool) → as_expected chroma (known kind) ≡ true
        → Own (record { chroma = chroma; number = number }) (record_with kind number more levels)
    own_with k chroma t = record {
      kind = kind;
      named = ap kind_of mark_with ∙ k;
      as_expected_law = ap (as_expected chroma) (ap kind_of mark_with ∙ k) ∙ t;
      long = length_with;
      numbered = number_with;
      sums = sums_with;
    }

    -- level i stands behind the front
    number_in_law : (i : ℕ) → i < kind.levels → number_at (kind.front + 2 * i) (record_with kind number more levels) ≡ of_z w16 (get_or levels i (pos 0))
    unfolding record_with summed
    number_in_law i h =
        let F = front_with kind number more in
        let L = level_bytes levels in
        let z : kind.front + 2 * i ≡ length F + 2 * i = omega (arith, front) in
        rw z (
        number_before (F ++ L) (bytes_of (record_sum (F ++ L))) (length F + 2 * i) (omega (arith, long, length-append F L, length_levels levels))
        ∙ number_behind F L (2 * i)
        ∙ number_level levels i (omega (arith, long))
        )

    pub level_with_law : ((k : ℕ) → SFits w16 (get_or levels k (pos 0))) → (i : ℕ) → i < kind.levels → level_with kind i (record_with kind number more levels) ≡ get_or levels i (pos 0)
    level_with_law small i h = ap (to_z w16) (number_in_law i h) ∙ to_z-of_z w16 (get_or levels i (pos 0)) (small i)

    pub levels_with : ((k : ℕ) → SFits w16 (get_or levels k (pos 0))) → all_levels_in kind (record_with kind number more levels) ≡ levels
    unfolding all_levels_in
    levels_with small =
        tab_of kind.levels (λ i. level_with kind i (record_with kind number more levels)) levels (pos 0) long (level_with_law small)

-- where the kind has a QP, it stands behind the number
pub qp_with : (kind : Kind) (number qp : ℕ) (more : List ℕ) (levels : List ℤ) → qp_in (record_with kind number (qp ∷ more) levels) ≡ qp
unfolding record_with summed
qp_with kind number qp more levels = refl

-- ---- a macroblock's record, 4x4

module _ (number qp : ℕ) (modes : List ℕ) (levels : List ℤ) where
  pub qp_back : qp_in (record_of number qp modes levels) ≡ qp
  unfolding record_of
  qp_back = qp_with in_fours number qp (packed 8 modes) levels

  pub mode_back : ((k : ℕ) → get_or modes k 0 < 16) → (block : ℕ) → block < 16 → mode_in block (record_of number qp modes levels) ≡ get_or modes block 0
  unfolding record_of record_with summed
  mode_back small block h =
      let R = record_of number qp modes levels in
      let P = packed 8 modes in
      let S = bytes_of (record_sum (front_with in_fours number (qp ∷ packed 8 modes) ++ level_bytes levels)) in
      let l = length_packed modes 8 in
      let a : get_or R (5 + block / 2) 0 ≡ get_or P (block / 2) 0 =
      sym (get_or-drop 5 R (block / 2) 0)
      ∙ get_or-append (P ++ level_bytes levels) S 0 (block / 2) (omega (arith, length-append P (level_bytes levels)))
      ∙ get_or-append P (level_bytes levels) 0 (block / 2) (omega arith) in
      ap (unpaired block) a ∙ packed_back modes small 8 block (omega arith)

  pub not_whole : is_whole (record_of number qp modes levels) ≡ false
  unfolding record_of
  not_whole = ne_eqb _ in_whole.mark (λ e. let z = sym (mark_with in_fours number (qp ∷ packed 8 modes) levels) ∙ e in omega (arith, z))

  fours_front : 4 + length (qp ∷ packed 8 modes) ≡ in_fours.front
  fours_front = omega (arith, length_packed modes 8)

  module _ (long : length levels ≡ in_fours.levels) where
    pub length_record : length (record_of number qp modes levels) ≡ length_of in_fours
    unfolding record_of
    length_record = length_with in_fours number (qp ∷ packed 8 modes) levels fours_front long

    pub own_record : Own (expected_luma number) (record_of number qp modes levels)
    unfolding record_of
    own_record = own_with in_fours number (qp ∷ packed 8 modes) levels fours_front long fours false refl

    module _ (small : (k : ℕ) → SFits w16 (get_or levels k (pos 0))) where
      pub level_back : (block k : ℕ) → block < 16 → k < 16 → level_in block k (record_of number qp modes levels) ≡ get_or levels (16 * block + k) (pos 0)
      unfolding record_of
      level_back block k h l = level_with_law in_fours number (qp ∷ packed 8 modes) levels fours_front long small (16 * block + k) (omega arith)

      pub levels_back : (block : ℕ) → block < 16 → levels_in block (record_of number qp modes levels) ≡ take 16 (drop (16 * block) levels)
      unfolding levels_in
      levels_back block h =
          tab_of 16 (λ k. level_in block k (record_of number qp modes levels)) (take 16 (drop (16 * block) levels)) (pos 0)
          (length-take-le 16 (drop (16 * block) levels) (omega (arith, length-drop (16 * block) levels)))
          (λ k l. level_back block k h l ∙ sym (get_or-take 16 (drop (16 * block) levels) k (pos 0) l ∙ get_or-drop (16 * block) levels k (pos 0)))

-- ---- a macroblock's record, 16x16

module _ (number qp mode : ℕ) (levels : List ℤ) where
  pub whole_qp_back : qp_in (record_whole number qp mode levels) ≡ qp
  unfolding record_whole
  whole_qp_back = qp_with in_whole number qp (mode ∷ []) levels

  pub whole_mode_back : whole_mode_in (record_whole number qp mode levels) ≡ mode
  unfolding record_whole record_with summed
  whole_mode_back = refl

  pub is_whole_law : is_whole (record_whole number qp mode levels) ≡ true
  unfolding record_whole
  is_whole_law = eq-eqb _ in_whole.mark (mark_with in_whole number (qp ∷ mode ∷ []) levels)

  module _ (long : length levels ≡ in_whole.levels) where
    pub length_whole : length (record_whole number qp mode levels) ≡ length_of in_whole
    unfolding record_whole
    length_whole = length_with in_whole number (qp ∷ mode ∷ []) levels refl long

    pub own_whole : Own (expected_luma number) (record_whole number qp mode levels)
    unfolding record_whole
    own_whole = own_with in_whole number (qp ∷ mode ∷ []) levels refl long wholes false refl

    pub whole_levels_back : ((k : ℕ) → SFits w16 (get_or levels k (pos 0))) → all_levels_in in_whole (record_whole number qp mode levels) ≡ levels
    unfolding record_whole
    whole_levels_back small = levels_with in_whole number (qp ∷ mode ∷ []) levels refl long small

-- ---- a chroma record

module _ (number : ℕ) (cb cr : ℤ) (mode : ℕ) (levels : List ℤ) where
  abbrev chroma_more : List ℕ
  chroma_more = signed_byte cb ∷ signed_byte cr ∷ mode ∷ []

  pub cb_offset_back : SFits w8 cb → cb_offset_in (record_chroma number cb cr mode levels) ≡ cb
  unfolding record_chroma record_with summed
  cb_offset_back h = to_z-of_z w8 cb h

  pub cr_offset_back : SFits w8 cr → cr_offset_in (record_chroma number cb cr mode levels) ≡ cr
  unfolding record_chroma record_with summed
  cr_offset_back h = to_z-of_z w8 cr h

  pub chroma_mode_back : chroma_mode_in (record_chroma number cb cr mode levels) ≡ mode
  unfolding record_chroma record_with summed
  chroma_mode_back = refl

  module _ (long : length levels ≡ in_chroma.levels) where
    pub length_chroma : length (record_chroma number cb cr mode levels) ≡ length_of in_chroma
    unfolding record_chroma
    length_chroma = length_with in_chroma number chroma_more levels refl long

    pub own_chroma : Own (expected_chroma number) (record_chroma number cb cr mode levels)
    unfolding record_chroma
    own_chroma = own_with in_chroma number chroma_more levels refl long chromas true refl

    pub chroma_levels_back : ((k : ℕ) → SFits w16 (get_or levels k (pos 0))) → all_levels_in in_chroma (record_chroma number cb cr mode levels) ≡ levels
    unfolding record_chroma
    chroma_levels_back small = levels_with in_chroma number chroma_more levels refl long small

-- ---- records one behind the other, each of any kind that is expected

module _ (colour : Bool) (head : List ℕ) (made : ℕ → List ℕ) (n : ℕ) (own : (k : ℕ) → k < n → Own (expected_in colour k) (made k)) where
  -- where record k begins: what stands before it ends there
  abbrev place_of : ℕ → ℕ
  place_of k = length (head ++ parts k made)

  step_own : (k : ℕ) → k < n → (w : Result ℕ Faulty) → w ≡ Ok (place_of k) → onward colour (head ++ parts n made) k w ≡ Ok (place_of (suc k))
  unfolding parts
  step_own k h w e =
      let file = head ++ parts n made in
      let z : place_of k + length (made k) ≡ length (head ++ (parts k made ++ made k)) =
      omega (arith, length-append head (parts k made), length-append head (parts k made ++ made k), length-append (parts k made) (made k)) in
      ap (onward colour file k) e
      ∙ ap (λ (f : Result ℕ Fault). stepped f (place_of k))
      (ap (form_of (expected_in colour k)) (part_behind head n k made h) ∙ form_own (expected_in colour k) (made k) (own k h) (parts (n - suc k) (λ i. made (suc k + i))))
      ∙ ap Ok z

  walk_to : (m : ℕ) → m ≤ n → walk_of colour m (head ++ parts n made) (length head) ≡ Ok (place_of m)
  unfolding walk_of parts
  walk_to m h =
      fold_keeps (λ k w. w ≡ Ok (place_of k)) m (onward colour (head ++ parts n made)) (Ok (length head))
      (sym (ap (λ (l : List ℕ). Ok (length l)) (append-nil head)))
      (λ k l e. step_own k (omega arith) (fold k (onward colour (head ++ parts n made)) (Ok (length head))) e)

  pub walk_own : walk_of colour n (head ++ parts n made) (length head) ≡ Ok (length (head ++ parts n made))
  walk_own = walk_to n (omega arith)

  -- nothing is sent back: all records are fine and nothing is left
  pub said_own : walk_said (head ++ parts n made) (walk_of colour n (head ++ parts n made) (length head)) ≡ pass
  said_own = rw walk_own (simp (le-leb (length (head ++ parts n made)) (length (head ++ parts n made)) (omega arith)))

  -- record m is found where what stands before it ends, and is the one that was written
  pub place_found : (m : ℕ) → m ≤ n → record_place m (head ++ parts n made) (length head) ≡ length (head ++ parts m made)
  place_found m h = sym (end_known colour (head ++ parts n made) (length head) m (place_of m) (walk_to m h))

  pub record_found : (m : ℕ) → m < n → record_at (record_place m (head ++ parts n made) (length head)) (head ++ parts n made) ≡ made m
  unfolding record_at
  record_found m h =
      ap (λ (place : ℕ). first_in (drop place (head ++ parts n made))) (place_found m (omega arith))
      ∙ ap first_in (part_behind head n m made h) ∙ first_own (expected_in colour m) (made m) (own m h) (parts (n - suc m) (λ i. made (suc m + i)))

  -- behind record k stands the next
  length_found : (k : ℕ) → k < n → length_from (place_of k) (head ++ parts n made) ≡ length (made k)
  length_found k h =
      ap length_in (part_behind head n k made h) ∙ length_own (expected_in colour k) (made k) (own k h) (parts (n - suc k) (λ i. made (suc k + i)))

  -- by what stands behind the first record the file is seen to be mono or colour
  module _ (some : 1 ≤ n) where
    second : length head + length_from (length head) (head ++ parts n made) ≡ place_of 1
    unfolding parts
    second =
        let z : length (head ++ []) ≡ length head = ap length (append-nil head) in
        let l = rw z at (length_found 0 some) in
        omega (arith, l, length-append head (made 0))

    pub colour_found : per_macroblock colour ≤ n → colour_at (length head) (head ++ parts n made) ≡ colour
    unfolding colour_at
    colour_found h = ap (λ (place : ℕ). chroma_next (drop place (head ++ parts n made))) second ∙ by (leb 2 n) refl
      where
        alone : (b : Bool) → per_macroblock b ≤ n → n < 2 → false ≡ b
        alone true k l = absurd (omega arith)
        alone false k l = refl

        by : (b : Bool) → leb 2 n ≡ b → chroma_next (drop (place_of 1) (head ++ parts n made)) ≡ colour
        by true e =
            let k = leb-true 2 n e in
            ap chroma_next (part_behind head n 1 made k) ∙ next_own (expected_in colour 1) (made 1) (own 1 k) (parts (n - suc 1) (λ i. made (suc 1 + i))) ∙ expected_second colour
        by false e =
            let k = leb-false 2 n e in
            let z : n ≡ 1 = omega arith in
            let d : length (drop (place_of 1) (head ++ parts n made)) < 2 = rw z (omega (arith, length-drop (place_of 1) (head ++ parts 1 made))) in
            rw (lt-leb 2 (length (drop (place_of 1) (head ++ parts n made))) d) (alone colour h k)

-- ---- a luma record and its chroma record in turn

module _ (luma chroma : ℕ → List ℕ) where
  unfoldable pub in_turn : ℕ → List ℕ
  in_turn k = cond (eqb (k % 2) 1) (chroma (k / 2)) (luma (k / 2))

  pub in_turn_luma : (m : ℕ) → in_turn (2 * m) ≡ luma m
  unfolding in_turn
  in_turn_luma m =
      let z : 2 * m / 2 ≡ m = omega arith in
      rw (ne_eqb (2 * m % 2) 1 (λ e. omega (arith, e)), z)

  pub in_turn_chroma : (m : ℕ) → in_turn (2 * m + 1) ≡ chroma m
  unfolding in_turn
  in_turn_chroma m =
      let z : (2 * m + 1) / 2 ≡ m = omega arith in
      rw (eq-eqb ((2 * m + 1) % 2) 1 (omega arith), z)

  pub own_in_turn : (count : ℕ)
      → ((m : ℕ) → m < count → Own (expected_luma m) (luma m)) → ((m : ℕ) → m < count → Own (expected_chroma m) (chroma m))
      → (k : ℕ) → k < 2 * count → Own (expected_in true k) (in_turn k)
  unfolding in_turn expected_in
  own_in_turn count l c k h = by (eqb (k % 2) 1)
    where
      by : (b : Bool) → Own (record { chroma = b; number = k / 2 }) (cond b (chroma (k / 2)) (luma (k / 2)))
      by true = c (k / 2) (omega arith)
      by false = l (k / 2) (omega arith)

  -- the same bytes by macroblocks
  pub parts_in_turn : (count : ℕ) → parts (2 * count) in_turn ≡ parts count (λ m. luma m ++ chroma m)
  unfolding parts
  parts_in_turn zero = refl
  parts_in_turn (suc m) =
      let z : 2 * suc m ≡ suc (2 * m + 1) = omega arith in
      ap (λ (k : ℕ). parts k in_turn) z
      ∙ ap (λ (l : List ℕ). l ++ in_turn (2 * m + 1)) (parts_more (2 * m) in_turn)
      ∙ rw (in_turn_luma m, in_turn_chroma m, parts_in_turn m) (append_assoc (parts m (λ i. luma i ++ chroma i)) (luma m) (chroma m))
