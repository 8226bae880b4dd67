-- What a record's kind says of it.
--     found                         what holds of every kind holds of one that a mark names
--     front_known, length_known_law     a known kind's front holds mark and number, so its record has six bytes or more
--     longest_known, longest_marked     no kind's record is longer than that of the 4x4 kind
--     kind_found                    the first kind that has the mark is the one that it names
--     mark_known                    a kind that a mark names has this mark
--     as_expected_chroma            the chroma kind's mark is as expected exactly where a chroma record is to stand
--     kind_known                    a mark that is as expected is a kind's
--     luma_mark, chroma_mark        and the chroma kind's exactly where a chroma record is expected
--     length_cut, length_there      the length of the record that bytes begin with
--     fours, wholes, chromas        the kinds there are, by their marks: what a law over a kind asks
--     kind_whole, kind_fours, kind_chroma     and that there are no others: by its mark a record is of one of the three
--     expected_luma_law, expected_chroma_law          which record of a file is a macroblock's luma record, and which its chroma record
--     expected_second               a colour file's second record is a chroma record
-- Assumes nothing.
use mathlib.Core.Path.{◌≡◌, refl, sym, ap, subst, ◌∙◌}
use mathlib.Core.Bool.{Bool, true, false, cond}
use mathlib.Core.List.{List, [], ◌∷◌}
use Prim.Native.Nat.{ℕ, ◌+◌, ◌*◌, ◌/◌, ◌%◌, ◌<◌, ◌≤◌}
use native.Mathlib.Omega.{arith}
use borrow.Author.Tests.{eq-eqb, ne_eqb, eqb-true, le-leb, lt-leb}
use lib.Dec.{eqb}
use lib.ListN.{length}
use Rattle.std.specs.List.{find}
use Rattle.std.specs.Prelude.{Some}
use Rattle.refusal.proofs.Faults.{false_not_true}
use Rattle.record.specs.Kinds.{length_of, in_fours, in_whole, in_chroma, kinds, Known, unknown, known, kind_in, kind_of, known_by, length_known, record_length, as_expected, expected_luma, expected_chroma, per_macroblock, expected_in}
use Rattle.octets.specs.Numbers.{number_at}
use Rattle.record.specs.Records.{length_in}
use Rattle.record.specs.declared.Kind.{Kind}

-- ---- the table

pub fours : kind_of in_fours.mark ≡ known in_fours
unfolding kind_of
fours = refl

pub wholes : kind_of in_whole.mark ≡ known in_whole
unfolding kind_of
wholes = refl

pub chromas : kind_of in_chroma.mark ≡ known in_chroma
unfolding kind_of
chromas = refl

-- what holds of every kind of a list
abbrev All : (P : Kind → Type 0) → List Kind → Type 0
All P [] = Unit {0}
All P (k ∷ ks) = P k × All P ks

unknown_not_known : {k : Kind} → unknown ≡ known k → ⊥
unknown_not_known e = let z : ◌≡◌ {A = ℕ} 0 1 = cc in omega arith

known_inner : {j k : Kind} → known j ≡ known k → j ≡ k
known_inner e = cc

-- ---- a kind that a mark names

found : (P : Kind → Type 0) (ks : List Kind) → All P ks → (mark : ℕ) (k : Kind) → kind_in ks mark ≡ known k → P k
found P [] h mark k e = absurd (unknown_not_known e)
found P (j ∷ ks) h mark k e = by (found P ks h.1 mark k) (eqb mark j.mark) e
  where
    by : (kind_in ks mark ≡ known k → P k) → (b : Bool) → cond b (known j) (kind_in ks mark) ≡ known k → P k
    by rest true q = subst P (known_inner q) h.0
    by rest false q = rest q

marked : (ks : List Kind) (mark : ℕ) (k : Kind) → kind_in ks mark ≡ known k → k.mark ≡ mark
marked [] mark k e = absurd (unknown_not_known e)
marked (j ∷ ks) mark k e = by (marked ks mark k) (eqb mark j.mark) refl e
  where
    by : (kind_in ks mark ≡ known k → k.mark ≡ mark) → (b : Bool) → eqb mark j.mark ≡ b → cond b (known j) (kind_in ks mark) ≡ known k → k.mark ≡ mark
    by rest true p q = sym (ap (λ (i : Kind). i.mark) (known_inner q)) ∙ sym (eqb-true mark j.mark p)
    by rest false p q = rest q

-- the first kind that has the mark
pub kind_found : (mark : ℕ) (ks : List Kind) → known_by (find (λ k. eqb mark k.mark) ks) ≡ kind_in ks mark
kind_found mark [] = refl
kind_found mark (k ∷ ks) = by (eqb mark k.mark) (kind_found mark ks)
  where
    by : (b : Bool) → known_by (find (λ j. eqb mark j.mark) ks) ≡ kind_in ks mark → known_by (cond b (Some k) (find (λ j. eqb mark j.mark) ks)) ≡ cond b (known k) (kind_in ks mark)
    by true rest = refl
    by false rest = rest

module _ (mark : ℕ) (k : Kind) (is : kind_of mark ≡ known k) where
  pub mark_known : k.mark ≡ mark
  unfolding kind_of
  mark_known = marked kinds mark k is

  pub front_known : 4 ≤ k.front
  unfolding kind_of
  front_known = found (λ j. 4 ≤ j.front) kinds (omega arith, (omega arith, (omega arith, tt))) mark k is

  pub longest_known : length_of k ≤ length_of in_fours
  unfolding kind_of
  longest_known = found (λ j. length_of j ≤ length_of in_fours) kinds (omega arith, (omega arith, (omega arith, tt))) mark k is

  -- there are no kinds but the three
  pub kind_whole : mark ≡ in_whole.mark → k ≡ in_whole
  kind_whole e = known_inner (sym is ∙ ap kind_of e ∙ wholes)

  pub kind_chroma : mark ≡ in_chroma.mark → k ≡ in_chroma
  kind_chroma e = known_inner (sym is ∙ ap kind_of e ∙ chromas)

  pub kind_fours : (mark ≡ in_whole.mark → ⊥) → (mark ≡ in_chroma.mark → ⊥) → k ≡ in_fours
  unfolding kind_of
  kind_fours n m = by (eqb mark in_fours.mark) (sym (rw (ne_eqb mark in_whole.mark n, ne_eqb mark in_chroma.mark m) at (sym is)))
    where
      by : (b : Bool) → cond b (known in_fours) unknown ≡ known k → k ≡ in_fours
      by true q = sym (known_inner q)
      by false q = absurd (unknown_not_known q)

module _ (mark : ℕ) where
  -- ---- its length

  pub longest_marked : record_length mark ≤ length_of in_fours
  longest_marked = by (kind_of mark) refl
    where
      by : (k : Known) → kind_of mark ≡ k → length_known k ≤ length_of in_fours
      by unknown p = omega arith
      by (known k) p = longest_known mark k p

  -- ---- whether it is as expected

  pub as_expected_chroma : (chroma : Bool) → mark ≡ in_chroma.mark → as_expected chroma (kind_of mark) ≡ chroma
  as_expected_chroma chroma e = ap (λ (n : ℕ). as_expected chroma (kind_of n)) e ∙ ap (as_expected chroma) chromas ∙ by chroma
    where
      by : (b : Bool) → as_expected b (known in_chroma) ≡ b
      by true = refl
      by false = refl

  module _ (chroma : Bool) (is : as_expected chroma (kind_of mark) ≡ true) where
    pub length_known_law : 6 ≤ record_length mark
    length_known_law = by (kind_of mark) refl is
      where
        by : (k : Known) → kind_of mark ≡ k → as_expected chroma k ≡ true → 6 ≤ length_known k
        by unknown p q = absurd (false_not_true q)
        by (known k) p q = omega (arith, front_known mark k p)

    pub kind_known : (k : Kind) × (kind_of mark ≡ known k)
    kind_known = by (kind_of mark) refl is
      where
        by : (k : Known) → kind_of mark ≡ k → as_expected chroma k ≡ true → (k : Kind) × (kind_of mark ≡ known k)
        by unknown p q = absurd (false_not_true q)
        by (known k) p q = (k, p)

  pub luma_mark : as_expected false (kind_of mark) ≡ true → mark ≡ in_chroma.mark → ⊥
  luma_mark is e = false_not_true (sym (as_expected_chroma false e) ∙ is)

  pub chroma_mark : as_expected true (kind_of mark) ≡ true → mark ≡ in_chroma.mark
  chroma_mark is = by (kind_of mark) refl is
    where
      by : (k : Known) → kind_of mark ≡ k → as_expected true k ≡ true → mark ≡ in_chroma.mark
      by unknown p q = absurd (false_not_true q)
      by (known k) p q = sym (mark_known mark k p) ∙ eqb-true k.mark in_chroma.mark q

-- ---- which record of a file is which

pub expected_luma_law : (colour : Bool) (m : ℕ) → expected_in colour (per_macroblock colour * m) ≡ expected_luma m
unfolding expected_in
expected_luma_law false m = let z : 1 * m ≡ m = omega arith in rw z
expected_luma_law true m =
    let z : 2 * m / 2 ≡ m = omega arith in
    let o : eqb (2 * m % 2) 1 ≡ false = ne_eqb (2 * m % 2) 1 (λ e. omega (arith, e)) in
    rw (o, z)

pub expected_chroma_law : (m : ℕ) → expected_in true (2 * m + 1) ≡ expected_chroma m
unfolding expected_in
expected_chroma_law m =
    let z : (2 * m + 1) / 2 ≡ m = omega arith in
    let o : eqb ((2 * m + 1) % 2) 1 ≡ true = eq-eqb ((2 * m + 1) % 2) 1 (omega arith) in
    rw (o, z)

pub expected_second : (colour : Bool) → (expected_in colour 1).chroma ≡ colour
unfolding expected_in
expected_second true = refl
expected_second false = refl

-- ---- the record that these bytes begin with

module _ (bytes : List ℕ) where
  pub length_cut : length bytes < 2 → length_in bytes ≡ 0
  unfolding length_in
  length_cut h = simp (lt-leb 2 (length bytes) h)

  pub length_there : 2 ≤ length bytes → length_in bytes ≡ record_length (number_at 0 bytes)
  unfolding length_in
  length_there h = simp (le-leb 2 (length bytes) h)
