use mathlib.Core.Path.{◌≡◌, ap, ◌∙◌}
use Prim.Native.Nat.{◌+◌}
use borrow.Author.Rules.{rules}
use lib.ListN.{get_or, length}
use Rattle.std.proofs.lemmas.List.{places}
use Rattle.picture.proofs.Pasted.{run_pasted}
use Rattle.picture.proofs.inner.copy_row.Goals as goal

pub returns : goal.returns
returns c =
    let a = c.args in
    let w = c.copy_from_slice.new.self in
    let long : length w ≡ a.count = search (rules, places) in
    run_pasted a.to.now w a.place a.count c.requires.1 long (λ k. get_or a.from.now (a.start + k) 0) (λ k h. ap (λ l. get_or l k 0) c.copy_from_slice.ensures.after ∙ search (rules, places))
