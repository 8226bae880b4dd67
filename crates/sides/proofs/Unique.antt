-- The contracts of `sides` determine what its functions answer and write. Assumes nothing.
use mathlib.Core.Path.{refl, sym, ◌∙◌}
use mathlib.Core.List.{List}
use Prim.Native.Nat.{ℕ}
use Rattle.unique.specs.Unique.{Unique}
use Rattle.sides.proofs.Found.{same_picks}
use Rattle.sides.proofs.inner.put_side.Kinds as put_side
use Rattle.sides.proofs.inner.put_side.Reads as put_side_reads
use Rattle.sides.proofs.inner.put_plane.Kinds as put_plane
use Rattle.sides.proofs.inner.put_plane.Reads as put_plane_reads
use Rattle.sides.proofs.inner.mean.Kinds as mean
use Rattle.sides.proofs.inner.mean.Reads as mean_reads
use Rattle.sides.proofs.inner.permitted.Kinds as permitted
use Rattle.sides.proofs.inner.permitted.Reads as permitted_reads
use Rattle.sides.proofs.inner.fill.Kinds as fill
use Rattle.sides.proofs.inner.fill.Reads as fill_reads
use Rattle.sides.proofs.inner.choose.Kinds as choose
use Rattle.sides.proofs.inner.choose.Reads as choose_reads

pub put_side_unique : Unique 2 put_side.ps put_side.r put_side_reads.Learnt (List ℕ) (λ κs e. e.1.1.1.0.now)
put_side_unique κs a x y e f p q = (refl, p ∙ sym q)

pub put_plane_unique : Unique 3 put_plane.ps put_plane.r put_plane_reads.Learnt (List ℕ) (λ κs e. e.1.1.1.1.0.now)
put_plane_unique κs a x y e f p q = (refl, p ∙ sym q)

pub mean_unique : Unique 2 mean.ps mean.r mean_reads.Learnt (Unit {0}) (λ κs e. tt)
mean_unique κs a x y e f p q = (p ∙ sym q, refl)

pub permitted_unique : Unique 0 permitted.ps permitted.r permitted_reads.Learnt (Unit {0}) (λ κs e. tt)
permitted_unique κs a x y e f p q = (p ∙ sym q, refl)

pub fill_unique : Unique 2 fill.ps fill.r fill_reads.Learnt (List ℕ) (λ κs e. e.1.1.1.0.now)
fill_unique κs a x y e f p q = (refl, p ∙ sym q)

pub choose_unique : Unique 3 choose.ps choose.r choose_reads.Learnt (List ℕ) (λ κs e. e.1.1.1.0.now)
choose_unique κs a x y e f p q = same_picks refl _ x y _ _ p q
