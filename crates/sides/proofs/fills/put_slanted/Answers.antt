use mathlib.Core.Path.{◌≡◌, ap, ◌∙◌}
use mathlib.Core.List.{List}
use Prim.Native.Nat.{ℕ}
use native.Mathlib.Omega.{arith}
use lib.IntN.{ℤ, pos}
use lib.ListN.{get_or}
use mir.Syntax.{w32}
use mir.Val.{to_z, of_z, SFits}
use mir.ValLaws.{to_z-of_z}
use Rattle.lists.specs.Tab.{grid}
use Rattle.lists.proofs.Tab.{get_d_tab, squaring_none, squaring_more, squaring_done}
use Rattle.whole.proofs.Bound.{argument, within}
use Rattle.whole.proofs.Steps.{each_at}
use Rattle.sides.specs.Plane.{slanted}
use Rattle.sides.proofs.Slope.{slanted_by}
use Rattle.sides.proofs.fills.put_slanted.Goals as goal

-- numbers that fit are read back from their bits
plain : (n : ℕ) (a b c : ℤ) → SFits w32 a → SFits w32 b → SFits w32 c
    → grid n (slanted n (to_z w32 (of_z w32 a)) (to_z w32 (of_z w32 b)) (to_z w32 (of_z w32 c))) ≡ grid n (slanted n a b c)
plain n a b c p q r = λ i. grid n (slanted n (to_z-of_z w32 a p i) (to_z-of_z w32 b q i) (to_z-of_z w32 c r i))

pub shown-requires : goal.shown-requires
shown-requires c =
    (within (argument w32 c.row_start-row.ensures.1 tt), within (argument w32 (each_at 20000000 c.rises-rises.result c.rises-rises.ensures.1 c.loop-x.x) tt))

pub loop-x-preserved : goal.loop-x-preserved
loop-x-preserved c =
    let x = c.loop-x.x in
    squaring_more _ _ c.loop-x.invariant (omega arith) (omega arith)
    (slanted_by _ _ _ _ _ _
    ((argument w32 c.row_start-row.ensures.1 tt).is ∙ c.row_start-row.ensures.0)
    ((argument w32 (each_at 20000000 c.rises-rises.result c.rises-rises.ensures.1 x) tt).is
    ∙ ap (λ (t : List ℤ). get_or t x (pos 0)) c.rises-rises.ensures.0
    ∙ get_d_tab 16 _ x (pos 0) (omega arith))
    c.shown.ensures)

pub returns : goal.returns
returns c =
    squaring_done _ _ c.loop-y.invariant (omega arith)
    ∙ plain c.args.n c.args.a c.args.b c.args.c c.ranges.a c.ranges.b c.ranges.c

pub loop-y-init : goal.loop-y-init
loop-y-init c = squaring_none _ _ (omega arith)
