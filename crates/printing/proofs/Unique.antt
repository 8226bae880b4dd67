-- The contract of `printing` determines what its function answers. Assumes nothing.
use mathlib.Core.Path.{◌≡◌, refl, sym, ◌∙◌}
use mathlib.Core.List.{List}
use Prim.Native.Nat.{ℕ}
use Rattle.unique.specs.Unique.{Unique}
use Rattle.printing.specs.Text.{Written}
use Rattle.printing.specs.declared.Text.{Text}
use Rattle.printing.proofs.printed.Kinds as printed
use Rattle.printing.proofs.printed.Reads as printed_reads

same_text : {w : List ℕ} (x y : Text) → Written w x → Written w y → x ≡ y
same_text x y p q =
    let b = p.bytes ∙ sym q.bytes in
    let n = p.count ∙ sym q.count in
    λ i. record { bytes = b i; len = n i }

pub printed_unique : Unique 1 printed.ps printed.r printed_reads.Learnt (Unit {0}) (λ κs e. tt)
printed_unique κs a x y e f p q = (same_text x y p.wrote q.wrote, refl)
