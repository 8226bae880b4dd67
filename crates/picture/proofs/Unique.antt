-- The contracts of `picture` determine what its functions answer, and the plane or the lent area that they leave.
-- Assumes nothing.
use mathlib.Core.Path.{refl, sym, ◌∙◌}
use mathlib.Core.List.{List}
use Prim.Native.Nat.{ℕ}
use Rattle.unique.specs.Unique.{Unique}
use Rattle.picture.proofs.inner.one_slice.Kinds as one_slice
use Rattle.picture.proofs.inner.one_slice.Reads as one_slice_reads
use Rattle.picture.proofs.inner.column_inside.Kinds as column_inside
use Rattle.picture.proofs.inner.column_inside.Reads as column_inside_reads
use Rattle.picture.proofs.inner.row_inside.Kinds as row_inside
use Rattle.picture.proofs.inner.row_inside.Reads as row_inside_reads
use Rattle.picture.proofs.inner.flags.Kinds as flags
use Rattle.picture.proofs.inner.flags.Reads as flags_reads
use Rattle.picture.proofs.inner.first_place.Kinds as first_place_law
use Rattle.picture.proofs.inner.first_place.Reads as first_place_reads
use Rattle.picture.proofs.inner.gather.Kinds as gather
use Rattle.picture.proofs.inner.gather.Reads as gather_reads
use Rattle.picture.proofs.inner.gather_over.Kinds as gather_over
use Rattle.picture.proofs.inner.gather_over.Reads as gather_over_reads
use Rattle.picture.proofs.inner.block_at.Kinds as block_at
use Rattle.picture.proofs.inner.block_at.Reads as block_at_reads
use Rattle.picture.proofs.inner.store_at.Kinds as store_at
use Rattle.picture.proofs.inner.store_at.Reads as store_at_reads
use Rattle.picture.proofs.inner.read_block.Kinds as read_block
use Rattle.picture.proofs.inner.read_block.Reads as read_block_reads
use Rattle.picture.proofs.inner.store_block.Kinds as store_block
use Rattle.picture.proofs.inner.store_block.Reads as store_block_reads
use Rattle.picture.proofs.inner.flags_round.Kinds as flags_round_law
use Rattle.picture.proofs.inner.flags_round.Reads as flags_round_reads
use Rattle.picture.proofs.inner.gather_round.Kinds as gather_round
use Rattle.picture.proofs.inner.gather_round.Reads as gather_round_reads
use Rattle.picture.proofs.inner.read_whole.Kinds as read_whole
use Rattle.picture.proofs.inner.read_whole.Reads as read_whole_reads
use Rattle.picture.proofs.inner.store_whole.Kinds as store_whole
use Rattle.picture.proofs.inner.store_whole.Reads as store_whole_reads

pub one_slice_unique : Unique 0 one_slice.ps one_slice.r one_slice_reads.Learnt (Unit {0}) (λ κs e. tt)
one_slice_unique κs a x y e f p q = (p ∙ sym q, refl)

pub column_inside_unique : Unique 0 column_inside.ps column_inside.r column_inside_reads.Learnt (Unit {0}) (λ κs e. tt)
column_inside_unique κs a x y e f p q = (p.0 ∙ sym q.0, refl)

pub row_inside_unique : Unique 0 row_inside.ps row_inside.r row_inside_reads.Learnt (Unit {0}) (λ κs e. tt)
row_inside_unique κs a x y e f p q = (p.0 ∙ sym q.0, refl)

pub flags_unique : Unique 0 flags.ps flags.r flags_reads.Learnt (Unit {0}) (λ κs e. tt)
flags_unique κs a x y e f p q = (p ∙ sym q, refl)

pub first_place_unique : Unique 0 first_place_law.ps first_place_law.r first_place_reads.Learnt (Unit {0}) (λ κs e. tt)
first_place_unique κs a x y e f p q = (p ∙ sym q, refl)

pub gather_unique : Unique 1 gather.ps gather.r gather_reads.Learnt (Unit {0}) (λ κs e. tt)
gather_unique κs a x y e f p q = (p ∙ sym q, refl)

pub gather_over_unique : Unique 2 gather_over.ps gather_over.r gather_over_reads.Learnt (Unit {0}) (λ κs e. tt)
gather_over_unique κs a x y e f p q = (p ∙ sym q, refl)

pub block_at_unique : Unique 1 block_at.ps block_at.r block_at_reads.Learnt (Unit {0}) (λ κs e. tt)
block_at_unique κs a x y e f p q = (p ∙ sym q, refl)

pub store_at_unique : Unique 1 store_at.ps store_at.r store_at_reads.Learnt (List ℕ) (λ κs e. e.0.now)
store_at_unique κs a x y e f p q = (refl, p ∙ sym q)

pub read_block_unique : Unique 1 read_block.ps read_block.r read_block_reads.Learnt (Unit {0}) (λ κs e. tt)
read_block_unique κs a x y e f p q = (p ∙ sym q, refl)

pub store_block_unique : Unique 1 store_block.ps store_block.r store_block_reads.Learnt (List ℕ) (λ κs e. e.0.now)
store_block_unique κs a x y e f p q = (refl, p ∙ sym q)

pub flags_round_unique : Unique 0 flags_round_law.ps flags_round_law.r flags_round_reads.Learnt (Unit {0}) (λ κs e. tt)
flags_round_unique κs a x y e f p q = (p ∙ sym q, refl)

pub gather_round_unique : Unique 2 gather_round.ps gather_round.r gather_round_reads.Learnt (List ℕ) (λ κs e. e.1.1.1.1.0.now)
gather_round_unique κs a x y e f p q = (refl, p ∙ sym q)

pub read_whole_unique : Unique 2 read_whole.ps read_whole.r read_whole_reads.Learnt (List ℕ) (λ κs e. e.1.1.1.1.0.now)
read_whole_unique κs a x y e f p q = (refl, p ∙ sym q)

pub store_whole_unique : Unique 2 store_whole.ps store_whole.r store_whole_reads.Learnt (List ℕ) (λ κs e. e.0.now)
store_whole_unique κs a x y e f p q = (refl, p ∙ sym q)
