-- The contracts of `octets` determine what its functions answer and what they leave. Assumes nothing.
use Rattle.std.proofs.Common.{ℕ, List, sym, refl, ◌∙◌}
use Rattle.unique.specs.Unique.{Unique}
use Rattle.octets.proofs.inner.number_at.Kinds as number_at
use Rattle.octets.proofs.inner.number_at.Reads as number_at_reads
use Rattle.octets.proofs.inner.write_levels.Kinds as write_levels
use Rattle.octets.proofs.inner.write_levels.Reads as write_levels_reads
use Rattle.octets.proofs.inner.level_at.Kinds as level_at_law
use Rattle.octets.proofs.inner.level_at.Reads as level_at_reads
use Rattle.octets.proofs.inner.signed_byte.Kinds as signed_byte_law
use Rattle.octets.proofs.inner.signed_byte.Reads as signed_byte_reads
use Rattle.octets.proofs.inner.signed_in.Kinds as signed_in_law
use Rattle.octets.proofs.inner.signed_in.Reads as signed_in_reads
use Rattle.octets.proofs.inner.packed.Kinds as packed
use Rattle.octets.proofs.inner.packed.Reads as packed_reads
use Rattle.octets.proofs.inner.unpack.Kinds as unpack
use Rattle.octets.proofs.inner.unpack.Reads as unpack_reads
use Rattle.octets.proofs.inner.sum_holds.Kinds as sum_holds_law
use Rattle.octets.proofs.inner.sum_holds.Reads as sum_holds_reads
use Rattle.octets.proofs.inner.write_sum.Kinds as write_sum
use Rattle.octets.proofs.inner.write_sum.Reads as write_sum_reads

pub number_at_unique : Unique 1 number_at.ps number_at.r number_at_reads.Learnt (Unit {0}) (λ κs e. tt)
number_at_unique κs a x y e f p q = (p ∙ sym q, refl)

pub write_levels_unique : Unique 2 write_levels.ps write_levels.r write_levels_reads.Learnt (List ℕ) (λ κs e. e.1.0.now)
write_levels_unique κs a x y e f p q = (refl, p ∙ sym q)

pub level_at_unique : Unique 1 level_at_law.ps level_at_law.r level_at_reads.Learnt (Unit {0}) (λ κs e. tt)
level_at_unique κs a x y e f p q = (p ∙ sym q, refl)

pub signed_byte_unique : Unique 0 signed_byte_law.ps signed_byte_law.r signed_byte_reads.Learnt (Unit {0}) (λ κs e. tt)
signed_byte_unique κs a x y e f p q = (p ∙ sym q, refl)

pub signed_in_unique : Unique 0 signed_in_law.ps signed_in_law.r signed_in_reads.Learnt (Unit {0}) (λ κs e. tt)
signed_in_unique κs a x y e f p q = (p ∙ sym q, refl)

pub packed_unique : Unique 0 packed.ps packed.r packed_reads.Learnt (Unit {0}) (λ κs e. tt)
packed_unique κs a x y e f p q = (p ∙ sym q, refl)

pub unpack_unique : Unique 0 unpack.ps unpack.r unpack_reads.Learnt (Unit {0}) (λ κs e. tt)
unpack_unique κs a x y e f p q = (p ∙ sym q, refl)

pub sum_holds_unique : Unique 1 sum_holds_law.ps sum_holds_law.r sum_holds_reads.Learnt (Unit {0}) (λ κs e. tt)
sum_holds_unique κs a x y e f p q = (p ∙ sym q, refl)

pub write_sum_unique : Unique 1 write_sum.ps write_sum.r write_sum_reads.Learnt (List ℕ) (λ κs e. e.0.now)
write_sum_unique κs a x y e f p q = (refl, p ∙ sym q)
