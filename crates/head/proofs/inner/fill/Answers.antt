use Rattle.std.proofs.Common.{◌≡◌, ◌+◌, ◌-◌, ◌*◌, length, get_or, ap, ◌∙◌, arith, rules}
use Rattle.lists.proofs.Parts.{growing_none, growing_part}
use Rattle.octets.specs.Numbers.{bytes_of}
use Rattle.octets.proofs.Bits.{high_first}
use Rattle.head.specs.Heads.{words}
use Rattle.head.proofs.Words.{words_more}
use Rattle.head.proofs.inner.fill.Goals as goal

pub loop-k-init : goal.loop-k-init
unfolding words
loop-k-init c = growing_none c.args.head.now

pub loop-k-preserved : goal.loop-k-preserved
loop-k-preserved c =
    let k = c.loop-k.k in
    let w = c.copy_from_slice.new.self in
    let z : 2 * (k + 1) ≡ 2 * k + 2 = omega arith in
    let is : w ≡ bytes_of (get_or c.args.numbers.now k 0) = c.copy_from_slice.ensures.after ∙ c.to_be_bytes.ensures ∙ high_first (get_or c.args.numbers.now k 0) (search rules) in
    let long : length w ≡ 2 * k + 2 - 2 * k = omega (arith, ap length is) in
    rw (z, words_more c.args.numbers.now k c.loop-k-test.true, ← is) (growing_part w (2 * k + 2) c.loop-k.invariant (omega arith) (omega arith) long)
