-- `printing::printed` meets its contract: the text of each answer. Assumes nothing.
use mathlib.Core.Path.{◌≡◌, subst}
use mathlib.Core.List.{List}
use Prim.Native.Nat.{ℕ, ◌≤◌}
use Rattle.printing.specs.Text.{Written}
use Rattle.printing.specs.Printed.{text_of, Prints}
use Rattle.printing.specs.declared.Text.{Text}
use Rattle.printing.proofs.Coded.{text_short, text_refused, text_coded}
use Rattle.printing.proofs.printed.Goals as goal

printed_as : {l : List ℕ} {input : List ℕ} {r : Text} → l ≡ text_of input → Written l r → r.len ≤ 1024 → Prints input r
printed_as {l} {input} {r} e p h = record { wrote = subst (λ (w : List ℕ). Written w r) e p; room = h }

pub returns-then-input-ne31 : goal.returns-then-input-ne31
returns-then-input-ne31 c = printed_as (text_short c.args.input.now c.if-input-ne31.true) c.refused.ensures.text c.refused.ensures.room

pub returns-in-Err : goal.returns-in-Err
returns-in-Err c =
    printed_as (text_refused c.args.input.now c.if-input-ne31.false c.code_block.ensures c.in-Err.is) c.refused-in-Err.ensures.text c.refused-in-Err.ensures.room

pub returns-in-Ok : goal.returns-in-Ok
returns-in-Ok c =
    printed_as (text_coded c.args.input.now c.if-input-ne31.false c.code_block.ensures c.in-Ok.is) c.accepted.ensures.text c.accepted.ensures.room
