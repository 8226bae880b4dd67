-- `record::inner::form` meets its contract: cut mark, mark, cut rest, number and sum, in that order. Assumes nothing.
use mathlib.Core.Path.{◌≡◌, sym, ap, ◌∙◌}
use mathlib.Core.Bool.{Bool, true, false, cond}
use mathlib.Core.List.{List}
use Prim.Native.Nat.{ℕ, ◌+◌, ◌-◌, ◌≤◌}
use native.Mathlib.Omega.{arith}
use lib.ListN.{length, take, drop, length-drop}
use Rattle.record.specs.Kinds.{kind_of, record_length, as_expected}
use Rattle.octets.specs.Numbers.{number_at}
use Rattle.record.specs.Records.{number_in, length_in, first_in}
use Rattle.octets.specs.Sum.{sum_holds}
use Rattle.record.proofs.Forms.{cut_mark, mark_wrong, cut_rest, number_wrong, sum_wrong, form_fine}
use Rattle.record.proofs.Marks.{length_known_law, length_there}
use Rattle.record.proofs.Walks.{mark_drop, number_drop}
use Rattle.record.proofs.inner.form.Goals as goal
use Rattle.std.specs.Prelude.{Ok, Err}
use Rattle.record.specs.Faults.{form_of}
use Rattle.record.specs.declared.Expected.{Expected}
use Rattle.refusal.specs.declared.Fault.TheVariants.{Sum}

number_is : (file : List ℕ) (place : ℕ) {n : ℕ} → n ≡ number_at (place + 2) file → n ≡ number_in (drop place file)
number_is file place e = e ∙ sym (number_drop file place 2)

-- ---- what has been found out, stage by stage
module _ (file : List ℕ) (place : ℕ) {rest : ℕ} (left : rest ≡ length file - place) where
  rest_is : rest ≡ length (drop place file)
  rest_is = left ∙ sym (length-drop place file)

  module _ (some : 2 ≤ rest) {mark : ℕ} (at : mark ≡ number_at place file) where
    -- there is a mark
    two : 2 ≤ length (drop place file)
    two = omega (arith, rest_is)

    mark_is : mark ≡ number_at 0 (drop place file)
    mark_is = at ∙ sym (mark_drop file place)

    -- whether it is as expected
    expected_is : (chroma : Bool) {held b : Bool} → held ≡ as_expected chroma (kind_of mark) → held ≡ b → as_expected chroma (kind_of (number_at 0 (drop place file))) ≡ b
    expected_is chroma h e = ap (λ (n : ℕ). as_expected chroma (kind_of n)) (sym mark_is) ∙ sym h ∙ e

    module _ {long : ℕ} (by : long ≡ record_length mark) where
      long_is : long ≡ length_in (drop place file)
      long_is = by ∙ ap record_length mark_is ∙ sym (length_there (drop place file) two)

      module _ (enough : long ≤ rest) where
        -- the record is all there
        room : length_in (drop place file) ≤ length (drop place file)
        room = omega (arith, long_is, rest_is)

        -- so it ends inside the file, and its number is inside it
        inside : (chroma : Bool) {held : Bool} → held ≡ as_expected chroma (kind_of mark) → held ≡ true → (6 ≤ long) × (place + long ≤ length file)
        inside chroma h e =
            let by_mark = length_there (drop place file) two in
            let six = length_known_law (number_at 0 (drop place file)) chroma (expected_is chroma h e) in
            (omega (arith, six, long_is, by_mark), omega (arith, six, long_is, by_mark, room, length-drop place file))

        summed : {held b : Bool} → held ≡ sum_holds (take (place + long - place) (drop place file)) → held ≡ b → sum_holds (first_in (drop place file)) ≡ b
        summed h e =
            let z : place + long - place ≡ length_in (drop place file) = omega (arith, long_is) in
            ap (λ (n : ℕ). sum_holds (take n (drop place file))) (sym z) ∙ sym h ∙ e

        -- the sum is tested last: by it the form is the fault or the length
        by_sum : (expected : Expected) {held : Bool}
            → held ≡ as_expected expected.chroma (kind_of mark)
            → held ≡ true
            → {number : ℕ}
            → number ≡ number_at (place + 2) file
            → number ≡ expected.number
            → {sum : Bool}
            → sum ≡ sum_holds (take (place + long - place) (drop place file))
            → (b : Bool)
            → sum ≡ b
            → form_of expected (drop place file) ≡ cond b (Ok long) (Err Sum)
        by_sum expected h e n own s false f = sum_wrong expected (drop place file) two (expected_is expected.chroma h e) room (sym (number_is file place n) ∙ own) (summed s f)
        by_sum expected h e n own s true f =
            form_fine expected (drop place file) two (expected_is expected.chroma h e) room (sym (number_is file place n) ∙ own) (summed s f) ∙ ap Ok (sym long_is)

-- ---- the goals
pub returns-then-rest-lt2 : goal.returns-then-rest-lt2
returns-then-rest-lt2 c =
    let a = c.args in
    sym (cut_mark a.expected (drop a.place a.file.now) (omega (arith, rest_is a.file.now a.place c.left-rest.ensures, c.if-rest-lt2.true)))

pub returns-then-not-is_expected : goal.returns-then-not-is_expected
returns-then-not-is_expected c =
    let a = c.args in
    let l = c.left-rest.ensures in
    let t = c.if-rest-lt2.false in
    let m = c.number_at-mark.ensures in
    sym (mark_wrong a.expected (drop a.place a.file.now) (two a.file.now a.place l t m) (expected_is a.file.now a.place l t m a.expected.chroma c.is_expected.ensures c.if-not-is_expected.true))

pub returns-then-rest-long : goal.returns-then-rest-long
returns-then-rest-long c =
    let a = c.args in
    let l = c.left-rest.ensures in
    let t = c.if-rest-lt2.false in
    let m = c.number_at-mark.ensures in
    sym (
    cut_rest a.expected (drop a.place a.file.now) (two a.file.now a.place l t m)
    (expected_is a.file.now a.place l t m a.expected.chroma c.is_expected.ensures c.if-not-is_expected.false)
    (omega (arith, long_is a.file.now a.place l t m c.record_length-long.ensures, rest_is a.file.now a.place l, c.if-rest-long.true))
    )

pub number_at-requires : goal.number_at-requires
number_at-requires c =
    let a = c.args in
    let h =
    inside a.file.now a.place c.left-rest.ensures c.if-rest-lt2.false c.number_at-mark.ensures c.record_length-long.ensures c.if-rest-long.false a.expected.chroma
    c.is_expected.ensures c.if-not-is_expected.false in
    omega (arith, h.0, h.1)

pub returns-then-from-expected : goal.returns-then-from-expected
returns-then-from-expected c =
    let a = c.args in
    let l = c.left-rest.ensures in
    let t = c.if-rest-lt2.false in
    let m = c.number_at-mark.ensures in
    sym (
    number_wrong a.expected (drop a.place a.file.now) (two a.file.now a.place l t m)
    (expected_is a.file.now a.place l t m a.expected.chroma c.is_expected.ensures c.if-not-is_expected.false)
    (room a.file.now a.place l t m c.record_length-long.ensures c.if-rest-long.false)
    (λ e. c.if-from-expected.true (number_is a.file.now a.place (c.from.ensures ∙ c.number_at.ensures) ∙ e))
    )

pub returns-then-not-sum_holds : goal.returns-then-not-sum_holds
returns-then-not-sum_holds c =
    let a = c.args in
    sym (
    by_sum a.file.now a.place c.left-rest.ensures c.if-rest-lt2.false c.number_at-mark.ensures c.record_length-long.ensures c.if-rest-long.false a.expected c.is_expected.ensures c.if-not-is_expected.false
    (c.from.ensures ∙ c.number_at.ensures) c.if-from-expected.false c.sum_holds.ensures false c.if-not-sum_holds.true
    )

pub returns : goal.returns
returns c =
    let a = c.args in
    sym (
    by_sum a.file.now a.place c.left-rest.ensures c.if-rest-lt2.false c.number_at-mark.ensures c.record_length-long.ensures c.if-rest-long.false a.expected c.is_expected.ensures c.if-not-is_expected.false
    (c.from.ensures ∙ c.number_at.ensures) c.if-from-expected.false c.sum_holds.ensures true c.if-not-sum_holds.false
    )
