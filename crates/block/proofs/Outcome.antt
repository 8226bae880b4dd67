-- A block by value is known by what it carries.
-- Assumes nothing.
use mathlib.Core.Path.{◌≡◌, sym, ◌∙◌}
use mathlib.Core.List.{List}
use Prim.Native.Nat.{ℕ}
use Rattle.intra4.specs.Samples.{Round}
use Rattle.intra4.specs.Choice.{at}
use Rattle.block.specs.Entry.{Carries}
use Rattle.block.specs.declared.inner.Block.{Block}

pub same_block : {qp : ℕ} {round : Round} {samples : List ℕ} (x y : Block) → Carries qp round samples x → Carries qp round samples y → x ≡ y
same_block x y p q =
    let e : at x.mode x.sad ≡ at y.mode y.sad = p.best ∙ sym q.best in
    let m : x.mode ≡ y.mode = cc in
    let s : x.sad ≡ y.sad = cc in
    let l = p.levels ∙ sym q.levels in
    let b = p.rebuilt ∙ sym q.rebuilt in
    λ i. record { mode = m i; sad = s i; levels = l i; rebuilt = b i }
