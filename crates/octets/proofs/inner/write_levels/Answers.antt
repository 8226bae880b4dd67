use Rattle.std.proofs.Common.{◌≡◌, get_or, pos, ap, ◌∙◌, arith, w16, of_z, rules}
use Rattle.lists.proofs.Pairs.{pairing_none, pairing_more, pairing_done}
use Rattle.octets.proofs.Bits.{level_first}
use Rattle.octets.proofs.Levels.{levels_by_two}
use Rattle.octets.specs.Numbers.{bytes_of}
use Rattle.octets.proofs.inner.write_levels.Goals as goal

pub loop-k-init : goal.loop-k-init
loop-k-init c = pairing_none _ _ _ (search rules)

pub loop-k-preserved : goal.loop-k-preserved
loop-k-preserved c =
    let z = get_or c.args.levels.now c.loop-k.k (pos 0) in
    let is : c.to_be_bytes.result ≡ bytes_of (of_z w16 z) = c.to_be_bytes.ensures ∙ level_first z (c.requires.1 c.loop-k.k) in
    pairing_more _ _ _ c.loop-k.invariant (omega arith) (ap (λ l. get_or l 0 0) is) (ap (λ l. get_or l 1 0) is)

pub returns : goal.returns
returns c = pairing_done _ _ _ c.loop-k.invariant (omega arith) ∙ levels_by_two c.args.levels.now
