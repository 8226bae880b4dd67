-- The contracts of `residual_whole` determine what its functions answer and write. Assumes nothing.
use mathlib.Core.Path.{refl, sym, ◌∙◌}
use mathlib.Core.List.{List}
use Prim.Native.Nat.{ℕ}
use lib.IntN.{ℤ}
use Rattle.unique.specs.Unique.{Unique}
use Rattle.residual_whole.proofs.inner.levels.Kinds as levels_law
use Rattle.residual_whole.proofs.inner.levels.Reads as levels_reads
use Rattle.residual_whole.proofs.inner.dc_fits.Kinds as dc_fits_law
use Rattle.residual_whole.proofs.inner.dc_fits.Reads as dc_fits_reads
use Rattle.residual_whole.proofs.inner.first_ac.Kinds as first_ac_law
use Rattle.residual_whole.proofs.inner.first_ac.Reads as first_ac_reads
use Rattle.residual_whole.proofs.inner.rebuilt.Kinds as rebuilt_law
use Rattle.residual_whole.proofs.inner.rebuilt.Reads as rebuilt_reads

pub levels_unique : Unique 3 levels_law.ps levels_law.r levels_reads.Learnt (List ℤ) (λ κs e. e.1.1.1.1.0.now)
levels_unique κs a x y e f p q = (refl, p ∙ sym q)

pub dc_fits_unique : Unique 1 dc_fits_law.ps dc_fits_law.r dc_fits_reads.Learnt (Unit {0}) (λ κs e. tt)
dc_fits_unique κs a x y e f p q = (p ∙ sym q, refl)

pub first_ac_unique : Unique 1 first_ac_law.ps first_ac_law.r first_ac_reads.Learnt (Unit {0}) (λ κs e. tt)
first_ac_unique κs a x y e f p q = (p ∙ sym q, refl)

pub rebuilt_unique : Unique 3 rebuilt_law.ps rebuilt_law.r rebuilt_reads.Learnt (List ℕ) (λ κs e. e.1.1.1.1.0.now)
rebuilt_unique κs a x y e f p q = (refl, p ∙ sym q)
