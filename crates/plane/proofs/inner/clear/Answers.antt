-- `plane::inner::clear` meets its contract: the library's fill. Assumes nothing.
use mathlib.Core.Path.{◌≡◌, sym, ◌∙◌}
use Prim.Native.Nat.{ℕ}
use borrow.Author.Rules.{rules}
use lib.ListN.{replicate}
use Rattle.std.proofs.lemmas.List.{length-replicate, get_or-replicate}
use Rattle.lists.proofs.Tab.{tab_of}
use Rattle.plane.specs.Decode.{cleared}
use Rattle.plane.proofs.inner.clear.Goals as goal

zeros : (n : ℕ) → replicate n 0 ≡ cleared n
zeros n = sym (tab_of n (λ k. 0) (replicate n 0) 0 (length-replicate n 0) (λ k h. sym (get_or-replicate n k 0 0 h)))

pub returns : goal.returns
returns c = c.fill.ensures.after (λ y h. search rules) ∙ zeros _
