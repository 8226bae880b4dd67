-- `sides::inner::put_plane` meets its contract: a, b and c are the standard's. Assumes nothing.
use mathlib.Core.Path.{◌≡◌, ◌∙◌}
use mathlib.Core.List.{List, [], ◌∷◌}
use Prim.Native.Nat.{ℕ, ◌-◌}
use lib.IntN.{ℤ, pos, ◌+ℤ◌, ◌*ℤ◌}
use mir.Syntax.{w32}
use mir.Val.{to_z, of_z}
use Rattle.lists.specs.Tab.{grid}
use Rattle.whole.specs.Bounds.{Within}
use Rattle.whole.proofs.Bound.{argument}
use Rattle.intra4.specs.Rules.{row_of}
use Rattle.sides.specs.Plane.{slope, tilt, slanted, plane}
use Rattle.sides.proofs.inner.put_plane.Goals as goal

module _ (n : ℕ) (T S : ℤ → ℕ) {a b c : ℤ} {out : List ℕ} where
  planed : (a ≡ pos 16 *ℤ (pos (S (pos (n - 1))) +ℤ pos (T (pos (n - 1))))) × Within 8160 a
      → (b ≡ tilt n (slope n T)) × Within 600000 b
      → (c ≡ tilt n (slope n S)) × Within 600000 c
      → out ≡ grid n (slanted n (to_z w32 (of_z w32 a)) (to_z w32 (of_z w32 b)) (to_z w32 (of_z w32 c)))
      → out ≡ grid n (plane n T S)
  unfolding plane
  planed p q r e =
      e
      ∙ (λ i. grid n (slanted n ((argument w32 p.1 tt).is i) ((argument w32 q.1 tt).is i) ((argument w32 r.1 tt).is i)))
      ∙ (λ i. grid n (slanted n (p.0 i) (q.0 i) (r.0 i)))

pub returns : goal.returns
returns c =
    planed c.args.n (row_of (c.args.corner ∷ []) c.args.above.now) (row_of (c.args.corner ∷ []) c.args.left.now) c.start-a.ensures
    c.tilt-b.ensures
    c.tilt-c.ensures
    c.put_slanted.ensures
