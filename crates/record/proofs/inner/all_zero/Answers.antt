-- `record::inner::all_zero` meets its contract: one byte that is not 0, or all 32 against as many zeros. Assumes nothing.
use Prim.Native.Nat.{◌+◌, ◌*◌, ◌-◌}
use native.Mathlib.Omega.{arith}
use borrow.Author.Rules.{rules}
use lib.ListN.{take, drop}
use Rattle.std.proofs.lemmas.List.{places}
use Rattle.lists.proofs.Bytes.{bytes_known}
use Rattle.record.proofs.Zeros.{other_byte, zero_part}
use Rattle.record.proofs.inner.all_zero.Goals as goal

pub returns-then-part-at-eq0 : goal.returns-then-part-at-eq0
returns-then-part-at-eq0 c =
    let at = 13 + 32 * c.args.block in
    zero_part c.args.part.now c.args.block (bytes_known c.args.part.now c.type_inv.part) (take (at + 32 - at) (drop at c.args.part.now)) _
    (search (rules, places)) (λ k h. search (rules, places)) c.eq.ensures

pub returns-else-part-at-eq0 : goal.returns-else-part-at-eq0
returns-else-part-at-eq0 c =
    other_byte c.args.part.now c.args.block (bytes_known c.args.part.now c.type_inv.part) 1 (omega arith) c.if-part-at-eq0.false
