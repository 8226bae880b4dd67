-- `sides::rules::rises` meets its contract. Assumes nothing.
use mathlib.Core.Path.{◌≡◌, sym, ap, subst, ◌∙◌}
use mathlib.Core.List.{List}
use Prim.Native.Nat.{ℕ, ◌≤◌}
use borrow.Author.Rules.{rules}
use lib.IntN.{ℤ}
use mir.Syntax.{w32}
use mir.Val.{to_z, of_z}
use Rattle.lists.specs.Tab.{tab}
use Rattle.lists.proofs.Made.{made_tab}
use Rattle.whole.specs.Bounds.{Within, Each}
use Rattle.whole.proofs.Bound.{argument}
use Rattle.whole.proofs.Lists.{each_tab}
use Rattle.sides.specs.Code.{rise_of}
use Rattle.sides.proofs.Slope.{rise_small}
use Rattle.sides.proofs.rules.rises.Goals as goal

each : (n : ℕ) (b : ℤ) {l : List ℤ} → n ≤ 16 → Within 600000 b → l ≡ tab 16 (rise_of n (to_z w32 (of_z w32 b))) → (l ≡ tab 16 (rise_of n b)) × Each 20000000 l
each n b {l} h w e =
    let q : l ≡ tab 16 (rise_of n b) = e ∙ ap (λ (z : ℤ). tab 16 (rise_of n z)) (argument w32 w tt).is in
    (q, subst (Each 20000000) (sym q) (each_tab 20000000 16 (rise_of n b) (λ k m. rise_small n b k h w m)))

pub returns : goal.returns
returns c =
    each c.args.n c.args.b c.requires.1 c.requires.2
    (made_tab _ _ _ 16 (rise_of c.args.n (to_z w32 (of_z w32 c.args.b))) (λ k y q h p. search rules) c.from_fn.ensures.items)
