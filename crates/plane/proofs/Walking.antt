-- The loops over the records of a file whose form is fine: the place goes from record to record, and from macroblock to macroblock.
--     walk_through                              the walk came through
--     Walking: part_inside, part_is             the place is that at which record k begins; what is lent from there lies in the file, and is record k
--     kind_some                                 luma's record has a QP
--     luma_among, luma_long, chroma_among, chroma_long     macroblock m's records are among the file's, and as long as their kinds
--     walking_none, next_is, next_inside        from one macroblock's records to the next one's
--     tests_refused, tests_mono, tests_colour, luma_passed     what the tests of a macroblock's records come to
-- Assumes nothing.
use mathlib.Core.Path.{◌≡◌, refl, sym, ap, ◌∙◌}
use mathlib.Core.Bool.{Bool, true, false, cond}
use mathlib.Core.List.{List, [], ◌++◌, append-nil}
use Prim.Native.Nat.{ℕ, ◌+◌, ◌-◌, ◌*◌, ◌<◌, ◌≤◌}
use native.Mathlib.Omega.{arith}
use lib.ListN.{length, take, drop}
use Rattle.lists.specs.Chain.{chain, pass, stop}
use Rattle.lists.proofs.Chain.{chain_passed, chain_refused}
use Rattle.lists.proofs.Chains.{chain_front}
use Rattle.refusal.specs.declared.Refusal.{Refusal}
use Rattle.refusal.proofs.Faults.{false_not_true}
use Rattle.record.specs.Faults.{walk_of}
use Rattle.record.specs.Kinds.{in_fours, in_whole, in_chroma, length_of, per_macroblock, expected_in}
use Rattle.record.specs.Records.{is_whole, qp_in, record_at, record_place, length_from, colour_at}
use Rattle.record.specs.declared.Expected.{Expected}
use Rattle.record.proofs.Marks.{expected_luma_law, expected_chroma_law}
use Rattle.record.proofs.Walks.{Lent, lent, lent_whole, lent_fours, lent_chroma, place_none, place_next, walk_whole_exactly_if, form_passes_exactly_if}
use Rattle.picture.specs.declared.Layout.{Layout}
use Rattle.picture.specs.Order.{count_of}
use Rattle.macroblock.specs.Content.{kind_by, content_tests}
use Rattle.macroblock_chroma.specs.Content.{content_tests_chroma}
use Rattle.plane.specs.Decode.{record_in, luma_number, luma_in, chroma_in, chroma_place, forms_tests, macroblock_tests}
use Rattle.plane.specs.Walk.{next_place}
use Rattle.std.specs.Prelude.{Ok}

-- either kind of luma's record has a QP
pub kind_some : (part : List ℕ) → 4 < length_of (kind_by part)
kind_some part = by (is_whole part)
  where
    by : (b : Bool) → 4 < length_of (cond b in_whole in_fours)
    by true = omega arith
    by false = omega arith

module _ (l : Layout) (file : List ℕ) (start : ℕ) where
  -- how many records the file has
  abbrev pub record_count : ℕ
  record_count = luma_number file start (count_of l)

  pub walk_through : chain (forms_tests l start file) ≡ pass → walk_of (colour_at start file) record_count file start ≡ Ok (record_place record_count file start)
  walk_through e = (walk_whole_exactly_if (colour_at start file) file start record_count).1 ((form_passes_exactly_if (colour_at start file) file start record_count).0 e).0

  -- record k begins at the place
  abbrev pub Walking : (place k : ℕ) → Type 0
  Walking place k = place ≡ record_place k file start

  -- ---- record k

  module _ (fine : chain (forms_tests l start file) ≡ pass) (k : ℕ) (h : k < record_count) {place : ℕ} (at : Walking place k) {long : ℕ} (is : long ≡ length_from place file) where
    lent_here : Lent file (expected_in (colour_at start file) k) place long
    lent_here = lent (colour_at start file) file start record_count (record_place record_count file start) (walk_through fine) k h at is

    pub part_inside : place + long ≤ length file
    part_inside = lent_here.inside

    pub part_is : take (place + long - place) (drop place file) ≡ record_in file start k
    unfolding record_in
    part_is = lent_here.part ∙ ap (λ (p : ℕ). record_at p file) at

  -- ---- the records of macroblock m

  module _ (m : ℕ) (h : m < count_of l) where
    pub luma_among : luma_number file start m < record_count
    luma_among = by (colour_at start file)
      where
        by : (b : Bool) → per_macroblock b * m < per_macroblock b * count_of l
        by true = omega arith
        by false = omega arith

    pub chroma_among : colour_at start file ≡ true → luma_number file start m + 1 < record_count
    chroma_among e = by (colour_at start file) e
      where
        by : (b : Bool) → b ≡ true → per_macroblock b * m + 1 < per_macroblock b * count_of l
        by true q = omega arith
        by false q = absurd (false_not_true q)

    module _ (fine : chain (forms_tests l start file) ≡ pass) where
      pub luma_long : {place : ℕ} → Walking place (luma_number file start m) → {long : ℕ} → long ≡ length_from place file
          → length (take (place + long - place) (drop place file)) ≡ length_of (kind_by (take (place + long - place) (drop place file)))
      luma_long {place} at {long} is = by (is_whole (take (place + long - place) (drop place file))) refl
        where
          here : Lent file (expected_in (colour_at start file) (luma_number file start m)) place long
          here = lent_here fine (luma_number file start m) luma_among at is

          luma : (expected_in (colour_at start file) (luma_number file start m)).chroma ≡ false
          luma = ap (λ (x : Expected). x.chroma) (expected_luma_law (colour_at start file) m)

          by : (b : Bool) → is_whole (take (place + long - place) (drop place file)) ≡ b
              → length (take (place + long - place) (drop place file)) ≡ length_of (kind_by (take (place + long - place) (drop place file)))
          by true e = rw e (lent_whole file here e)
          by false e = rw e (lent_fours file here luma e)

      pub chroma_long : colour_at start file ≡ true → {place : ℕ} → Walking place (luma_number file start m + 1) → {long : ℕ} → long ≡ length_from place file
          → length (take (place + long - place) (drop place file)) ≡ length_of in_chroma
      chroma_long e {place} at {long} is = lent_chroma file (lent_here fine (luma_number file start m + 1) (chroma_among e) at is) (by (colour_at start file) e)
        where
          by : (b : Bool) → b ≡ true → (expected_in b (per_macroblock b * m + 1)).chroma ≡ true
          by true q = ap (λ (x : Expected). x.chroma) (expected_chroma_law m)
          by false q = absurd (false_not_true q)

  -- ---- from macroblock to macroblock

  pub walking_none : Walking start (luma_number file start 0)
  walking_none = let z : luma_number file start 0 ≡ 0 = omega arith in rw z (sym (place_none file start))

  pub next_is : (m : ℕ) {place : ℕ} → Walking place (luma_number file start m) → {colour : Bool} → colour ≡ colour_at start file
      → next_place file colour place ≡ record_place (luma_number file start (m + 1)) file start
  next_is m {place} at {colour} is = ap (λ (b : Bool). next_place file b place) is ∙ by (colour_at start file) at
    where
      by : (b : Bool) → place ≡ record_place (per_macroblock b * m) file start → next_place file b place ≡ record_place (per_macroblock b * (m + 1)) file start
      by true e =
          let z : 2 * m + 1 + 1 ≡ 2 * (m + 1) = omega arith in
          rw z at (place_next file start (2 * m + 1) (place_next file start (2 * m) e refl) refl)
      by false e =
          let z : 1 * m + 1 ≡ 1 * (m + 1) = omega arith in
          rw z at (place_next file start (1 * m) e refl)

  pub next_inside : chain (forms_tests l start file) ≡ pass → (m : ℕ) → m < count_of l → {place : ℕ} → Walking place (luma_number file start m)
      → {colour : Bool} → colour ≡ colour_at start file → next_place file colour place ≤ length file
  next_inside fine m h {place} at {colour} is = by colour refl
    where
      by : (b : Bool) → colour ≡ b → next_place file b place ≤ length file
      by true e =
          part_inside fine (luma_number file start m + 1) (chroma_among m h (sym is ∙ e)) (place_next file start (luma_number file start m) at refl) refl
      by false e = part_inside fine (luma_number file start m) (luma_among m h) at refl

-- ---- the tests of macroblock m's records

module _ (l : Layout) (file : List ℕ) (start m : ℕ) where
  pub tests_refused : {r : Refusal} → chain (content_tests l m (luma_in file start m)) ≡ stop r → chain (macroblock_tests l start file m) ≡ stop r
  unfolding macroblock_tests
  tests_refused {r} e = chain_refused (content_tests l m (luma_in file start m)) _ r e

  pub tests_mono : colour_at start file ≡ false → chain (macroblock_tests l start file m) ≡ chain (content_tests l m (luma_in file start m))
  unfolding macroblock_tests
  tests_mono e =
      ap (λ (b : Bool). chain (content_tests l m (luma_in file start m) ++ cond b (content_tests_chroma l m (qp_in (luma_in file start m)) (chroma_place file start m) (chroma_in file start m)) [])) e
      ∙ ap chain (append-nil (content_tests l m (luma_in file start m)))

  pub tests_colour : colour_at start file ≡ true → chain (content_tests l m (luma_in file start m)) ≡ pass
      → chain (macroblock_tests l start file m) ≡ chain (content_tests_chroma l m (qp_in (luma_in file start m)) (chroma_place file start m) (chroma_in file start m))
  unfolding macroblock_tests
  tests_colour e p =
      chain_passed (content_tests l m (luma_in file start m)) _ p
      ∙ ap (λ (b : Bool). chain (cond b (content_tests_chroma l m (qp_in (luma_in file start m)) (chroma_place file start m) (chroma_in file start m)) [])) e

  -- so where all pass, luma's do
  pub luma_passed : chain (macroblock_tests l start file m) ≡ pass → chain (content_tests l m (luma_in file start m)) ≡ pass
  unfolding macroblock_tests
  luma_passed e = chain_front (content_tests l m (luma_in file start m)) _ e
