-- What the tests of a head come to.
--     told_some, told_none                                         what an answer tells of a length
--     length_unknown, length_some                                  a mark is a head's exactly if a head with it has a length
--     tests_cut, tests_mark, tests_short, tests_sum, tests_size, tests_rows, tests_legal     the seven verdicts
--     same_head                                                    an answer is known by what it says and what comes back with it
--     Sized, size_tells                                            what a size that holds tells
--     Told, head_told                                              what a head that is legal tells
-- Assumes nothing.
use mathlib.Core.Path.{◌≡◌, refl, sym, ap, ◌∙◌}
use mathlib.Core.Bool.{Bool, true, false, cond, ◌||◌}
use mathlib.Core.List.{List}
use Prim.Native.Nat.{ℕ, ◌<◌, ◌≤◌}
use native.Mathlib.Omega.{arith}
use borrow.Author.Tests.{le-leb, lt-leb, leb-true}
use lib.Dec.{eqb, leb}
use Rattle.std.proofs.lemmas.Bool.{eqb-true, eqb-false}
use lib.ListN.{length, take}
use Rattle.lists.specs.Chain.{pass, stop, chain}
use Rattle.lists.proofs.Chain.{chain_exactly_if, holds_new}
use Rattle.lists.proofs.Every.{both_true}
use Rattle.refusal.proofs.Same.{says_same}
use Rattle.refusal.specs.declared.Fault.TheVariants.{Mark, Sum}
use Rattle.refusal.specs.declared.Refusal.TheVariants as refusal
use Rattle.refusal.specs.Faults.{refusal_of}
use Rattle.octets.specs.Numbers.{number_at}
use Rattle.octets.specs.Sum.{sum_holds}
use Rattle.head.specs.Entry.{dimension, size_holds, rows_hold, long_at, width_at, height_at, rows_at, head_tests, width_of, height_of, rows_of, long_of, ReadsHead}
use Rattle.head.specs.Heads.{old_mark, old_length, new_mark, new_length, is_head, length_by, some_unless_0}
use Rattle.head.specs.declared.Head.{Head}
use Rattle.std.specs.Prelude.{Err, Ok, Result, Option, Some, None}
use Rattle.refusal.specs.Number.{said}
use Rattle.refusal.specs.declared.Refusal.{Refusal}

-- ---- marks

module _ (mark : ℕ) where
  by_marks : (a b : Bool) → cond a old_length (cond b new_length 0) < 1 → (a || b) ≡ false
  by_marks true b h = absurd (omega arith)
  by_marks false true h = absurd (omega arith)
  by_marks false false h = refl

  pub length_unknown : length_by mark < 1 → is_head mark ≡ false
  unfolding length_by
  length_unknown h = by_marks (eqb mark old_mark) (eqb mark new_mark) h

  some_marks : (a b : Bool) → 1 ≤ cond a old_length (cond b new_length 0) → ((a || b) ≡ true) × (old_length ≤ cond a old_length (cond b new_length 0))
  some_marks true b h = (refl, omega arith)
  some_marks false true h = (refl, omega arith)
  some_marks false false h = absurd (omega arith)

  -- and then it is no shorter than the old one
  pub length_some : 1 ≤ length_by mark → (is_head mark ≡ true) × (old_length ≤ length_by mark)
  unfolding length_by
  length_some h = some_marks (eqb mark old_mark) (eqb mark new_mark) h

-- what an answer tells of a length
module _ (n : ℕ) where
  none_or_some : {long : ℕ} → ◌≡◌ {A = Option ℕ} None (Some long) → ⊥
  none_or_some e = let z : ◌≡◌ {A = ℕ} 0 1 = cc in omega arith

  pub told_some : {long : ℕ} → some_unless_0 n ≡ Some long → (long ≡ n) × (1 ≤ long)
  told_some {long} h = by (eqb n 0) refl h
    where
      by : (t : Bool) → eqb n 0 ≡ t → cond t None (Some n) ≡ Some long → (long ≡ n) × (1 ≤ long)
      by true q e = absurd (none_or_some e)
      by false q e =
          let p : n ≡ long = cc in
          let apart : n ≡ 0 → ⊥ = eqb-false n 0 q in
          (sym p, rw (sym p) (omega (arith, apart)))

  pub told_none : some_unless_0 n ≡ None → n < 1
  told_none h = by (eqb n 0) refl h
    where
      by : (t : Bool) → eqb n 0 ≡ t → cond t None (Some n) ≡ None → n < 1
      by true q e = let z = eqb-true n 0 q in omega (arith, z)
      by false q e = absurd (none_or_some (sym e))

-- ---- the verdicts

module _ (file : List ℕ) where
  pub tests_cut : length file < 2 → chain (head_tests file) ≡ stop (refusal.Form 0)
  tests_cut h = simp (lt-leb 2 (length file) h)

  module _ (two : 2 ≤ length file) where
    pub tests_mark : long_at file < 1 → chain (head_tests file) ≡ stop (refusal_of Mark 0 (long_at file) (length file))
    tests_mark e = simp (le-leb 2 (length file) two, length_unknown (number_at 0 file) e)

    module _ (mark : 1 ≤ long_at file) where
      marked : is_head (number_at 0 file) ≡ true
      marked = (length_some (number_at 0 file) mark).0

      pub tests_short : length file < long_at file → chain (head_tests file) ≡ stop (refusal.Form 0)
      tests_short h = simp (le-leb 2 (length file) two, marked, lt-leb (long_at file) (length file) h)

      module _ (room : long_at file ≤ length file) where
        pub tests_sum : sum_holds (take (long_at file) file) ≡ false → chain (head_tests file) ≡ stop (refusal_of Sum 0 (long_at file) (length file))
        tests_sum e = simp (le-leb 2 (length file) two, marked, le-leb (long_at file) (length file) room, e)

        module _ (sum : sum_holds (take (long_at file) file) ≡ true) where
          pub tests_size : size_holds (width_at file) (height_at file) ≡ false → chain (head_tests file) ≡ stop refusal.Size
          tests_size e = simp (le-leb 2 (length file) two, marked, le-leb (long_at file) (length file) room, sum, e)

          module _ (size : size_holds (width_at file) (height_at file) ≡ true) where
            pub tests_rows : rows_hold (height_at file) (rows_at file) ≡ false → chain (head_tests file) ≡ stop refusal.Size
            tests_rows e = simp (le-leb 2 (length file) two, marked, le-leb (long_at file) (length file) room, sum, size, e)

            pub tests_legal : rows_hold (height_at file) (rows_at file) ≡ true → chain (head_tests file) ≡ pass
            tests_legal e = simp (le-leb 2 (length file) two, marked, le-leb (long_at file) (length file) room, sum, size, e)

-- ---- what a legal head tells

-- what a size that holds tells
pub record Sized (width height : ℕ) : Type 0 where
  pub some : 0 < width
  pub wide : width ≤ 128
  pub tall : 0 < height
  pub high : height ≤ 128

pub size_tells : (width height : ℕ) → size_holds width height ≡ true → Sized width height
unfolding size_holds
size_tells width height e =
    let d = both_true (dimension width) (dimension height) e in
    let w = both_true (leb 1 width) (leb width 128) d.0 in
    let h = both_true (leb 1 height) (leb height 128) d.1 in
    record { some = leb-true 1 width w.0; wide = leb-true width 128 w.1; tall = leb-true 1 height h.0; high = leb-true height 128 h.1 }

-- and rows of a slice that hold
pub rows_of_law : (height rows : ℕ) → rows_hold height rows ≡ true → (0 < rows) × (rows ≤ height)
unfolding rows_hold
rows_of_law height rows e = let r = both_true (leb 1 rows) (leb rows height) e in (leb-true 1 rows r.0, leb-true rows height r.1)

-- what a head that is legal tells
pub record Told (file : List ℕ) (width height rows long : ℕ) : Type 0 where
  pub passed : chain (head_tests file) ≡ pass
  pub wide : width ≡ width_at file
  pub high : height ≡ height_at file
  pub sliced : rows ≡ rows_at file
  pub behind : long ≡ long_at file
  pub sized : Sized width height
  pub some_rows : 0 < rows
  pub most_rows : rows ≤ height

pub head_told : (file : List ℕ) {h : Result Head Refusal} {it : Head} → ReadsHead file h → h ≡ Ok it → Told file it.width it.height it.rows it.long
head_told file {h} {it} p e =
    let v : chain (head_tests file) ≡ pass = sym (says_same p.says) ∙ ap said e in
    let a = (chain_exactly_if (head_tests file)).passes.0 v in
    let w : it.width ≡ width_at file = sym (ap width_of e) ∙ holds_new 0 v p.width in
    let k : it.height ≡ height_at file = sym (ap height_of e) ∙ holds_new 0 v p.height in
    let s : it.rows ≡ rows_at file = sym (ap rows_of e) ∙ holds_new 0 v p.rows in
    let n = rows_of_law (height_at file) (rows_at file) a.1.1.1.1.1.0 in
    record {
      passed = v;
      wide = w;
      high = k;
      sliced = s;
      behind = sym (ap long_of e) ∙ holds_new 0 v p.long;
      sized = rw (w, k) (size_tells (width_at file) (height_at file) a.1.1.1.1.0);
      some_rows = rw s n.0;
      most_rows = rw (s, k) n.1;
    }

pub same_head : (x y : Result Head Refusal) → said x ≡ said y → width_of x ≡ width_of y → height_of x ≡ height_of y → rows_of x ≡ rows_of y → long_of x ≡ long_of y → x ≡ y
same_head (Ok x) (Ok y) e f g i j = λ t. Ok (record { width = f t; height = g t; rows = i t; long = j t })
same_head (Ok x) (Err s) e f g i j = cc
same_head (Err r) (Ok y) e f g i j = cc
same_head (Err r) (Err s) e f g i j = let q : r ≡ s = cc in ap Err q
