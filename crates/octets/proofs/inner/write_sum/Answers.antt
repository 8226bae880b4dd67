use Rattle.std.proofs.Common.{◌≡◌, ◌-◌, ◌++◌, length, take, refl, ap, ◌∙◌, arith, rules}
use Rattle.lists.proofs.Parts.{growing_part, growing_done}
use Rattle.octets.specs.Numbers.{bytes_of}
use Rattle.octets.specs.Sum.{summed, record_sum}
use Rattle.octets.proofs.Bits.{high_first}
use Rattle.octets.proofs.inner.write_sum.Goals as goal

pub returns : goal.returns
unfolding summed
returns c =
    let d = c.args.part.now in
    let n = length d - 2 in
    let w = c.copy_from_slice.new.self in
    let is : w ≡ bytes_of (record_sum (take n d)) =
    c.copy_from_slice.ensures.after ∙ c.to_be_bytes.ensures ∙ high_first c.sum-sum.result c.sum-sum.type_inv ∙ ap bytes_of c.sum-sum.ensures in
    let long : length w ≡ length d - n = omega (arith, ap length is) in
    growing_done (growing_part w (length d) (record { room = omega arith; is = refl }) (omega arith) (omega arith) long) (search rules) ∙ ap (λ l. take n d ++ l) is
