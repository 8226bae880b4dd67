-- `record::inner::write_record` meets its contract: front and levels come home one behind the other, then the sum. Assumes nothing.
use mathlib.Core.Path.{◌≡◌, ap, ◌∙◌}
use mathlib.Core.List.{List, ◌++◌}
use Prim.Native.Nat.{ℕ, ◌+◌, ◌-◌, ◌*◌, ◌≤◌}
use native.Mathlib.Omega.{arith}
use borrow.Rule.Slice.PartMut.{put_mid}
use lib.ListN.{length, take}
use Rattle.lists.proofs.Parts.{growing_none, growing_part}
use Rattle.octets.specs.Sum.{summed}
use Rattle.record.specs.Records.{record_with}
use Rattle.octets.proofs.Levels.{length_levels}
use Rattle.record.proofs.inner.write_record.Goals as goal

-- what stands before the sum
laid : (d front levels : List ℕ) (a e : ℕ) → length front ≡ a → length levels ≡ e - a → a ≤ e → e + 2 ≡ length d
    → length (put_mid 0 (a - 0) d front) ≡ length d
    → length (put_mid a (e - a) (put_mid 0 (a - 0) d front) levels) ≡ length (put_mid 0 (a - 0) d front)
    → let x = put_mid a (e - a) (put_mid 0 (a - 0) d front) levels in take (length x - 2) x ≡ front ++ levels
laid d front levels a e f l h k first second =
    let one = growing_part front a (growing_none d) (omega arith) (omega arith) (omega arith) in
    let two = growing_part levels e one h (omega (arith, first)) l in
    let x = put_mid a (e - a) (put_mid 0 (a - 0) d front) levels in
    let z : length x - 2 ≡ e = omega (arith, first, second) in
    rw z two.is

pub returns : goal.returns
unfolding record_with
returns c =
    let k = c.args.kind in
    let long = length_levels c.args.levels.now in
    c.write_sum.ensures
    ∙ ap summed
    (laid c.args.part.now c.write_front.new.front c.write_levels.new.out k.front (k.front + 2 * k.levels)
    (omega (arith, ap length c.write_front.ensures, c.requires.part_len.1))
    (omega (arith, ap length c.write_levels.ensures, long, c.requires.levels_len.0))
    (omega arith)
    (omega (arith, c.requires.part_len.0))
    (omega arith)
    (omega arith))
    ∙ rw (c.write_front.ensures, c.write_levels.ensures)
