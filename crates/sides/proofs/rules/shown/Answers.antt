-- `sides::rules::shown` meets its contract: straight-line code. Assumes nothing.
use mathlib.Core.Path.{refl, ap, ◌∙◌}
use mathlib.Core.List.{List, [], ◌∷◌}
use Prim.Native.Nat.{ℕ}
use lib.IntN.{ℤ, pos}
use lib.ListN.{get_or}
use mir.Syntax.{w32}
use Rattle.whole.specs.Bounds.{Within}
use Rattle.whole.specs.Clip.{clip}
use Rattle.whole.proofs.Steps.{Code, inp, add, shr, exact_of, at_most, bounded_at}
use Rattle.sides.specs.Code.{shown_of}
use Rattle.sides.proofs.rules.shown.Goals as goal

abbrev bounds : List ℕ
bounds = 30000000 ∷ 20000000 ∷ []

abbrev both : Code
both = add (inp 0) (inp 1)

pub returns : goal.returns
unfolding shown_of
returns c =
    let numbers : List ℤ = c.args.row ∷ c.args.rise ∷ [] in
    let small : (i : ℕ) → Within (at_most bounds i) (get_or numbers i (pos 0)) = bounded_at bounds numbers refl (c.requires.0, (c.requires.1, tt)) in
    c.clip.ensures ∙ ap (clip 255) (exact_of w32 (at_most bounds) numbers small (shr both 5) tt)
