-- `head::inner::write_head` meets its contract: the head, new or old, comes home over the front. Assumes nothing.
use mathlib.Core.Path.{◌≡◌, ap, ◌∙◌}
use mathlib.Core.List.{List}
use Prim.Native.Nat.{ℕ, ◌-◌}
use native.Mathlib.Omega.{arith}
use borrow.Author.Tests.{eq-eqb, ne_eqb}
use lib.ListN.{length}
use Rattle.lists.specs.Parts.{over}
use Rattle.lists.proofs.Parts.{front_home}
use Rattle.head.specs.Heads.{old_length, new_length, words, old_head, new_head, head_of}
use Rattle.head.proofs.inner.write_head.Goals as goal

pub returns-then-rows-height-clause-file_after : goal.returns-then-rows-height-clause-file_after
unfolding head_of new_head words
returns-then-rows-height-clause-file_after c =
    let d = c.args.file.now in
    let w = c.fill.new.head in
    let l : length w ≡ new_length - 0 = omega (arith, c.fill.auto.head) in
    rw (ne_eqb c.args.rows c.args.height c.if-rows-height.true) (front_home d w new_length l ∙ ap (λ (k : List ℕ). over k d) c.fill.ensures)

pub returns-clause-file_after : goal.returns-clause-file_after
unfolding head_of old_head words
returns-clause-file_after c =
    let d = c.args.file.now in
    let w = c.fill-2.new.head in
    let l : length w ≡ old_length - 0 = omega (arith, c.fill-2.auto.head) in
    rw (eq-eqb c.args.rows c.args.height c.if-rows-height.false) (front_home d w old_length l ∙ ap (λ (k : List ℕ). over k d) c.fill-2.ensures)
