-- The contracts of `chroma` determine what its functions answer and write. Assumes nothing.
use mathlib.Core.Path.{refl, sym, ◌∙◌}
use mathlib.Core.List.{List}
use Prim.Native.Nat.{ℕ}
use Rattle.unique.specs.Unique.{Unique}
use Rattle.chroma.proofs.Found.{same_picks_for_both}
use Rattle.chroma.proofs.inner.permitted.Kinds as permitted
use Rattle.chroma.proofs.inner.permitted.Reads as permitted_reads
use Rattle.chroma.proofs.inner.fill.Kinds as fill
use Rattle.chroma.proofs.inner.fill.Reads as fill_reads
use Rattle.chroma.proofs.inner.choose_for_both.Kinds as choose_for_both
use Rattle.chroma.proofs.inner.choose_for_both.Reads as choose_for_both_reads

pub permitted_unique : Unique 0 permitted.ps permitted.r permitted_reads.Learnt (Unit {0}) (λ κs e. tt)
permitted_unique κs a x y e f p q = (p ∙ sym q, refl)

pub fill_unique : Unique 2 fill.ps fill.r fill_reads.Learnt (List ℕ) (λ κs e. e.1.1.1.0.now)
fill_unique κs a x y e f p q = (refl, p ∙ sym q)

pub choose_for_both_unique : Unique 6 choose_for_both.ps choose_for_both.r choose_for_both_reads.Learnt (List ℕ × List ℕ)
    (λ κs e. (e.1.1.1.1.1.0.now, e.1.1.1.1.1.1.0.now))
choose_for_both_unique κs a x y e f p q = same_picks_for_both refl refl _ _ x y _ _ _ _ p q
