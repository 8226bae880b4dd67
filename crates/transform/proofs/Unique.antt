-- The contracts of `transform` determine what its functions answer and write. Assumes nothing.
use mathlib.Core.Path.{refl, sym, ◌∙◌}
use mathlib.Core.List.{List}
use lib.IntN.{ℤ}
use Rattle.unique.specs.Unique.{Unique}
use Rattle.refusal.proofs.Same.{says_same, same_answer}
use Rattle.transform.proofs.forward.Kinds as forward
use Rattle.transform.proofs.forward.Reads as forward_reads
use Rattle.transform.proofs.inner.forward_block.Kinds as forward_block
use Rattle.transform.proofs.inner.forward_block.Reads as forward_block_reads
use Rattle.transform.proofs.inner.inverse_block.Kinds as inverse_block
use Rattle.transform.proofs.inner.inverse_block.Reads as inverse_block_reads
use Rattle.transform.proofs.inner.hadamard4.Kinds as hadamard4
use Rattle.transform.proofs.inner.hadamard4.Reads as hadamard4_reads
use Rattle.transform.proofs.inner.hadamard2.Kinds as hadamard2
use Rattle.transform.proofs.inner.hadamard2.Reads as hadamard2_reads

pub forward_unique : Unique 2 forward.ps forward.r forward_reads.Learnt (List ℤ) (λ κs e. e.1.0.now)
forward_unique κs a x y e f p q = (same_answer x y (says_same p.says ∙ sym (says_same q.says)), p.wrote ∙ sym q.wrote)

pub forward_block_unique : Unique 0 forward_block.ps forward_block.r forward_block_reads.Learnt (Unit {0}) (λ κs e. tt)
forward_block_unique κs a x y e f p q = (p ∙ sym q, refl)

pub inverse_block_unique : Unique 0 inverse_block.ps inverse_block.r inverse_block_reads.Learnt (Unit {0}) (λ κs e. tt)
inverse_block_unique κs a x y e f p q = (p ∙ sym q, refl)

pub hadamard4_unique : Unique 0 hadamard4.ps hadamard4.r hadamard4_reads.Learnt (Unit {0}) (λ κs e. tt)
hadamard4_unique κs a x y e f p q = (p ∙ sym q, refl)

pub hadamard2_unique : Unique 0 hadamard2.ps hadamard2.r hadamard2_reads.Learnt (Unit {0}) (λ κs e. tt)
hadamard2_unique κs a x y e f p q = (p ∙ sym q, refl)
