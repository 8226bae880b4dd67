-- `head::read_head` meets its contract: cut mark, mark, cut rest, sum, then SIZE. Assumes nothing.
use mathlib.Core.Path.{◌≡◌, refl, sym, ap, ◌∙◌}
use mathlib.Core.Bool.{Bool}
use mathlib.Core.List.{List}
use Prim.Native.Nat.{ℕ, ◌≤◌}
use native.Mathlib.Omega.{arith}
use lib.ListN.{length, take}
use lib.Seq.{length-take-le}
use Rattle.std.specs.Prelude.{Err, Option, Some}
use Rattle.lists.specs.Chain.{stop, chain}
use Rattle.refusal.proofs.Same.{says}
use Rattle.refusal.specs.Faults.{refusal_of}
use Rattle.refusal.specs.declared.Fault.TheVariants.{Sum}
use Rattle.refusal.specs.declared.Refusal.{Refusal}
use Rattle.octets.specs.Numbers.{number_at}
use Rattle.octets.specs.Sum.{sum_holds}
use Rattle.head.specs.Entry.{size_holds, rows_hold, long_at, width_at, height_at, rows_at, head_tests, ReadsHead}
use Rattle.head.specs.Heads.{old_length, length_by, some_unless_0}
use Rattle.head.proofs.Heads.{told_some, told_none, length_some, tests_mark, tests_short, tests_sum, tests_size, tests_rows, tests_legal}
use Rattle.head.proofs.read_head.Goals as goal

-- what the mark, and the length that was told by it, tell of the head
module _ (file : List ℕ) {mark long : ℕ} {told : Option ℕ} (at : mark ≡ number_at 0 file) (by : told ≡ some_unless_0 (length_by mark)) (some : told ≡ Some long) where
  -- it is as long as its mark says
  long_is : long ≡ long_at file
  long_is = (told_some (length_by mark) (sym by ∙ some)).0 ∙ ap length_by at

  -- the mark is a head's
  marked : 1 ≤ long_at file
  marked = let t = told_some (length_by mark) (sym by ∙ some) in omega (arith, long_is, t.0, t.1)

  -- and so it has eight bytes
  eight : old_length ≤ long
  eight = omega (arith, long_is, (length_some (number_at 0 file) marked).1)

  -- where there is room for it
  roomy : long ≤ length file → long_at file ≤ length file
  roomy room = omega (arith, room, long_is)

  -- the sum that was tested is the head's
  summed_up : {b held : Bool} → held ≡ sum_holds (take long file) → held ≡ b → sum_holds (take (long_at file) file) ≡ b
  summed_up h e = ap (λ (n : ℕ). sum_holds (take n file)) (sym long_is) ∙ sym h ∙ e

-- the size that was tested is the head's
sized : (file : List ℕ) {w k : ℕ} {b held : Bool} → w ≡ width_at file → k ≡ height_at file → held ≡ size_holds w k → held ≡ b → size_holds (width_at file) (height_at file) ≡ b
sized file e f h q = rw (sym e, sym f) (sym h ∙ q)

-- and so are the rows
rows_tested : (file : List ℕ) {k r : ℕ} {b held : Bool} → k ≡ height_at file → r ≡ rows_at file → held ≡ rows_hold k r → held ≡ b → rows_hold (height_at file) (rows_at file) ≡ b
rows_tested file e f h q = rw (sym e, sym f) (sym h ∙ q)

-- a refusal that the tests send back
refused : (file : List ℕ) {r s : Refusal} → r ≡ s → chain (head_tests file) ≡ stop s → ReadsHead file (Err r)
refused file q e = record { says = says (ap stop q ∙ sym e); width = simp e; height = simp e; rows = simp e; long = simp e }

pub returns-in_default : goal.returns-in_default
returns-in_default c =
    let file = c.args.file.now in
    let none = told_none (length_by (number_at 0 file)) (sym (c.length_by.ensures ∙ ap (λ (n : ℕ). some_unless_0 (length_by n)) c.number_at.ensures) ∙ c.in_default.is) in
    refused file c.of_fault.ensures (tests_mark file c.if-file-lt2.false none)

pub returns-then-file-long : goal.returns-then-file-long
returns-then-file-long c =
    let file = c.args.file.now in
    let at = c.number_at.ensures in
    let by = c.length_by.ensures in
    let some = c.in-Some.is in
    refused file refl (tests_short file c.if-file-lt2.false (marked file at by some) (omega (arith, long_is file at by some, c.if-file-long.true)))

pub sum_holds-requires : goal.sum_holds-requires
sum_holds-requires c =
    rw (length-take-le c.in-Some.long c.args.file.now c.if-file-long.false)
    (omega (arith, eight c.args.file.now c.number_at.ensures c.length_by.ensures c.in-Some.is))

pub of_fault-requires-then-not-sum_holds : goal.of_fault-requires-then-not-sum_holds
of_fault-requires-then-not-sum_holds c =
    let e = eight c.args.file.now c.number_at.ensures c.length_by.ensures c.in-Some.is in
    record { some = λ h. omega (arith, e); inside = λ h. omega (arith, c.if-file-long.false, e) }

pub returns-then-not-sum_holds : goal.returns-then-not-sum_holds
returns-then-not-sum_holds c =
    let file = c.args.file.now in
    let at = c.number_at.ensures in
    let by = c.length_by.ensures in
    let some = c.in-Some.is in
    refused file (c.of_fault-then-not-sum_holds.ensures ∙ ap (λ (n : ℕ). refusal_of Sum 0 n (length file)) (long_is file at by some))
    (tests_sum file c.if-file-lt2.false (marked file at by some) (roomy file at by some c.if-file-long.false)
    (summed_up file at by some c.sum_holds.ensures c.if-not-sum_holds.true))

pub number_at-requires-2 : goal.number_at-requires-2
number_at-requires-2 c = omega (arith, eight c.args.file.now c.number_at.ensures c.length_by.ensures c.in-Some.is, c.if-file-long.false)

pub number_at-requires-3 : goal.number_at-requires-3
number_at-requires-3 c = omega (arith, eight c.args.file.now c.number_at.ensures c.length_by.ensures c.in-Some.is, c.if-file-long.false)

pub rows_at-rows-requires : goal.rows_at-rows-requires
rows_at-rows-requires c = omega (arith, eight c.args.file.now c.number_at.ensures c.length_by.ensures c.in-Some.is, c.if-file-long.false)

pub returns-then-not-size_holds : goal.returns-then-not-size_holds
returns-then-not-size_holds c =
    let file = c.args.file.now in
    let at = c.number_at.ensures in
    let by = c.length_by.ensures in
    let some = c.in-Some.is in
    refused file refl
    (tests_size file c.if-file-lt2.false (marked file at by some) (roomy file at by some c.if-file-long.false)
    (summed_up file at by some c.sum_holds.ensures c.if-not-sum_holds.false)
    (sized file (c.from-width.ensures ∙ c.number_at-2.ensures) (c.from-height.ensures ∙ c.number_at-3.ensures) c.size_holds.ensures c.if-not-size_holds.true))

pub returns-then-not-rows_hold : goal.returns-then-not-rows_hold
returns-then-not-rows_hold c =
    let file = c.args.file.now in
    let at = c.number_at.ensures in
    let by = c.length_by.ensures in
    let some = c.in-Some.is in
    let height = c.from-height.ensures ∙ c.number_at-3.ensures in
    refused file refl
    (tests_rows file c.if-file-lt2.false (marked file at by some) (roomy file at by some c.if-file-long.false)
    (summed_up file at by some c.sum_holds.ensures c.if-not-sum_holds.false)
    (sized file (c.from-width.ensures ∙ c.number_at-2.ensures) height c.size_holds.ensures c.if-not-size_holds.false)
    (rows_tested file height c.rows_at-rows.ensures c.rows_hold.ensures c.if-not-rows_hold.true))

pub returns : goal.returns
returns c =
    let file = c.args.file.now in
    let at = c.number_at.ensures in
    let by = c.length_by.ensures in
    let some = c.in-Some.is in
    let width = c.from-width.ensures ∙ c.number_at-2.ensures in
    let height = c.from-height.ensures ∙ c.number_at-3.ensures in
    let e =
    tests_legal file c.if-file-lt2.false (marked file at by some) (roomy file at by some c.if-file-long.false)
    (summed_up file at by some c.sum_holds.ensures c.if-not-sum_holds.false)
    (sized file width height c.size_holds.ensures c.if-not-size_holds.false)
    (rows_tested file height c.rows_at-rows.ensures c.rows_hold.ensures c.if-not-rows_hold.false) in
    record {
      says = says (sym e);
      width = simp e width;
      height = simp e height;
      rows = simp e c.rows_at-rows.ensures;
      long = simp e (long_is file at by some);
    }
