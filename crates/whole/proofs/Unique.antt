-- Uniqueness of the public functions' results, over their actual contracts.
--     absolute_unique, gap_unique, clip_unique, inside_unique, first_outside_unique, copy_unique
-- Assumes nothing.
use mathlib.Core.Path.{refl, sym, ◌∙◌}
use mathlib.Core.List.{List}
use lib.IntN.{ℤ}
use Rattle.unique.specs.Unique.{Unique}
use Rattle.whole.proofs.inner.absolute.Kinds as absolute_kinds
use Rattle.whole.proofs.inner.absolute.Reads as absolute_reads
use Rattle.whole.proofs.inner.gap.Kinds as gap_kinds
use Rattle.whole.proofs.inner.gap.Reads as gap_reads
use Rattle.whole.proofs.inner.clip.Kinds as clip_kinds
use Rattle.whole.proofs.inner.clip.Reads as clip_reads
use Rattle.whole.proofs.inner.inside.Kinds as inside_kinds
use Rattle.whole.proofs.inner.inside.Reads as inside_reads
use Rattle.whole.proofs.inner.copy.Kinds as copy_kinds
use Rattle.whole.proofs.inner.copy.Reads as copy_reads
use Rattle.whole.proofs.inner.first_outside.Kinds as first_outside_kinds
use Rattle.whole.proofs.inner.first_outside.Reads as first_outside_reads

pub absolute_unique : Unique 0 absolute_kinds.ps absolute_kinds.r absolute_reads.Learnt (Unit {0}) (λ κs e. tt)
absolute_unique κs a x y e f p q = (p ∙ sym q, refl)

pub gap_unique : Unique 0 gap_kinds.ps gap_kinds.r gap_reads.Learnt (Unit {0}) (λ κs e. tt)
gap_unique κs a x y e f p q = (p ∙ sym q, refl)

pub clip_unique : Unique 0 clip_kinds.ps clip_kinds.r clip_reads.Learnt (Unit {0}) (λ κs e. tt)
clip_unique κs a x y e f p q = (p ∙ sym q, refl)

pub inside_unique : Unique 0 inside_kinds.ps inside_kinds.r inside_reads.Learnt (Unit {0}) (λ κs e. tt)
inside_unique κs a x y e f p q = (p ∙ sym q, refl)

pub first_outside_unique : Unique 1 first_outside_kinds.ps first_outside_kinds.r first_outside_reads.Learnt (Unit {0}) (λ κs e. tt)
first_outside_unique κs a x y e f p q = (p ∙ sym q, refl)

pub copy_unique : Unique 2 copy_kinds.ps copy_kinds.r copy_reads.Learnt (List ℤ) (λ κs e. e.1.0.now)
copy_unique κs a x y e f p q = (refl, p ∙ sym q)
