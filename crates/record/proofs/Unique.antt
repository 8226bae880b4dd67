-- The contracts of `record` determine what its functions answer and what they leave. Assumes nothing.
use mathlib.Core.Path.{refl, sym, ◌∙◌}
use mathlib.Core.List.{List}
use Prim.Native.Nat.{ℕ}
use lib.IntN.{ℤ}
use Rattle.unique.specs.Unique.{Unique}
use Rattle.refusal.proofs.Same.{same_answer}
use Rattle.record.proofs.Zeros.{same_flag}
use Rattle.record.proofs.inner.fours_length.Kinds as fours_length
use Rattle.record.proofs.inner.fours_length.Reads as fours_length_reads
use Rattle.record.proofs.inner.chroma_length.Kinds as chroma_length
use Rattle.record.proofs.inner.chroma_length.Reads as chroma_length_reads
use Rattle.record.proofs.inner.write_fours.Kinds as write_fours
use Rattle.record.proofs.inner.write_fours.Reads as write_fours_reads
use Rattle.record.proofs.inner.write_whole.Kinds as write_whole
use Rattle.record.proofs.inner.write_whole.Reads as write_whole_reads
use Rattle.record.proofs.inner.write_chroma.Kinds as write_chroma
use Rattle.record.proofs.inner.write_chroma.Reads as write_chroma_reads
use Rattle.record.proofs.inner.qp.Kinds as qp
use Rattle.record.proofs.inner.qp.Reads as qp_reads
use Rattle.record.proofs.inner.is_whole.Kinds as is_whole
use Rattle.record.proofs.inner.is_whole.Reads as is_whole_reads
use Rattle.record.proofs.inner.whole_mode.Kinds as whole_mode
use Rattle.record.proofs.inner.whole_mode.Reads as whole_mode_reads
use Rattle.record.proofs.inner.mode.Kinds as mode
use Rattle.record.proofs.inner.mode.Reads as mode_reads
use Rattle.record.proofs.inner.all_zero.Kinds as all_zero
use Rattle.record.proofs.inner.all_zero.Reads as all_zero_reads
use Rattle.record.proofs.inner.block_levels.Kinds as block_levels
use Rattle.record.proofs.inner.block_levels.Reads as block_levels_reads
use Rattle.record.proofs.inner.whole_levels.Kinds as whole_levels_law
use Rattle.record.proofs.inner.whole_levels.Reads as whole_levels_reads
use Rattle.record.proofs.inner.both_levels.Kinds as both_levels
use Rattle.record.proofs.inner.both_levels.Reads as both_levels_reads
use Rattle.record.proofs.inner.cb_offset.Kinds as cb_offset_law
use Rattle.record.proofs.inner.cb_offset.Reads as cb_offset_reads
use Rattle.record.proofs.inner.cr_offset.Kinds as cr_offset_law
use Rattle.record.proofs.inner.cr_offset.Reads as cr_offset_reads
use Rattle.record.proofs.inner.chroma_mode.Kinds as chroma_mode
use Rattle.record.proofs.inner.chroma_mode.Reads as chroma_mode_reads
use Rattle.record.proofs.inner.length_from.Kinds as length_from
use Rattle.record.proofs.inner.length_from.Reads as length_from_reads
use Rattle.record.proofs.inner.colour_from.Kinds as colour_from
use Rattle.record.proofs.inner.colour_from.Reads as colour_from_reads
use Rattle.record.proofs.inner.walked.Kinds as walked
use Rattle.record.proofs.inner.walked.Reads as walked_reads

pub fours_length_unique : Unique 0 fours_length.ps fours_length.r fours_length_reads.Learnt (Unit {0}) (λ κs e. tt)
fours_length_unique κs a x y e f p q = (p ∙ sym q, refl)

pub chroma_length_unique : Unique 0 chroma_length.ps chroma_length.r chroma_length_reads.Learnt (Unit {0}) (λ κs e. tt)
chroma_length_unique κs a x y e f p q = (p ∙ sym q, refl)

pub write_fours_unique : Unique 2 write_fours.ps write_fours.r write_fours_reads.Learnt (List ℕ) (λ κs e. e.1.1.1.1.0.now)
write_fours_unique κs a x y e f p q = (p.0 ∙ sym q.0, p.1 ∙ sym q.1)

pub write_whole_unique : Unique 2 write_whole.ps write_whole.r write_whole_reads.Learnt (List ℕ) (λ κs e. e.1.1.1.1.0.now)
write_whole_unique κs a x y e f p q = (p.0 ∙ sym q.0, p.1 ∙ sym q.1)

pub write_chroma_unique : Unique 2 write_chroma.ps write_chroma.r write_chroma_reads.Learnt (List ℕ) (λ κs e. e.1.1.1.1.1.0.now)
write_chroma_unique κs a x y e f p q = (p.0 ∙ sym q.0, p.1 ∙ sym q.1)

pub qp_unique : Unique 1 qp.ps qp.r qp_reads.Learnt (Unit {0}) (λ κs e. tt)
qp_unique κs a x y e f p q = (p ∙ sym q, refl)

pub is_whole_unique : Unique 1 is_whole.ps is_whole.r is_whole_reads.Learnt (Unit {0}) (λ κs e. tt)
is_whole_unique κs a x y e f p q = (p ∙ sym q, refl)

pub whole_mode_unique : Unique 1 whole_mode.ps whole_mode.r whole_mode_reads.Learnt (Unit {0}) (λ κs e. tt)
whole_mode_unique κs a x y e f p q = (p ∙ sym q, refl)

pub mode_unique : Unique 1 mode.ps mode.r mode_reads.Learnt (Unit {0}) (λ κs e. tt)
mode_unique κs a x y e f p q = (p ∙ sym q, refl)

pub block_levels_unique : Unique 1 block_levels.ps block_levels.r block_levels_reads.Learnt (Unit {0}) (λ κs e. tt)
block_levels_unique κs a x y e f p q = (p ∙ sym q, refl)

pub all_zero_unique : Unique 1 all_zero.ps all_zero.r all_zero_reads.Learnt (Unit {0}) (λ κs e. tt)
all_zero_unique κs a x y e f p q = (same_flag x y p q, refl)

pub whole_levels_unique : Unique 2 whole_levels_law.ps whole_levels_law.r whole_levels_reads.Learnt (List ℤ) (λ κs e. e.1.0.now)
whole_levels_unique κs a x y e f p q = (refl, p ∙ sym q)

pub both_levels_unique : Unique 2 both_levels.ps both_levels.r both_levels_reads.Learnt (List ℤ) (λ κs e. e.1.0.now)
both_levels_unique κs a x y e f p q = (refl, p ∙ sym q)

pub cb_offset_unique : Unique 1 cb_offset_law.ps cb_offset_law.r cb_offset_reads.Learnt (Unit {0}) (λ κs e. tt)
cb_offset_unique κs a x y e f p q = (p ∙ sym q, refl)

pub cr_offset_unique : Unique 1 cr_offset_law.ps cr_offset_law.r cr_offset_reads.Learnt (Unit {0}) (λ κs e. tt)
cr_offset_unique κs a x y e f p q = (p ∙ sym q, refl)

pub chroma_mode_unique : Unique 1 chroma_mode.ps chroma_mode.r chroma_mode_reads.Learnt (Unit {0}) (λ κs e. tt)
chroma_mode_unique κs a x y e f p q = (p ∙ sym q, refl)

pub length_from_unique : Unique 1 length_from.ps length_from.r length_from_reads.Learnt (Unit {0}) (λ κs e. tt)
length_from_unique κs a x y e f p q = (p ∙ sym q, refl)

pub colour_from_unique : Unique 1 colour_from.ps colour_from.r colour_from_reads.Learnt (Unit {0}) (λ κs e. tt)
colour_from_unique κs a x y e f p q = (p ∙ sym q, refl)

pub walked_unique : Unique 1 walked.ps walked.r walked_reads.Learnt (Unit {0}) (λ κs e. tt)
walked_unique κs a x y e f p q = (same_answer x y (p ∙ sym q), refl)
