-- `transform::inner::forward_row` meets its contract: the code, reflected; that nothing overflows is one test that the checker computes.
-- Assumes nothing.
use mathlib.Core.Path.{refl, ◌∙◌}
use mathlib.Core.List.{List, [], ◌∷◌}
use mir.Syntax.{w32}
use Rattle.whole.proofs.Steps.{Code, inp, add, sub, safe}
use Rattle.whole.proofs.Lists.{exacts, expressions}
use Rattle.transform.specs.Quads.{wide}
use Rattle.transform.specs.Forward.{C}
use Rattle.transform.proofs.Rows.{row_through}
use Rattle.transform.proofs.inner.forward_row.Goals as goal

abbrev e : Code
e = add (inp 0) (inp 3)

abbrev f : Code
f = add (inp 1) (inp 2)

abbrev g : Code
g = sub (inp 1) (inp 2)

abbrev h : Code
h = sub (inp 0) (inp 3)

abbrev code : List Code
code = add e f ∷ add (add h h) g ∷ sub e f ∷ sub (sub h g) g ∷ []

pub overflow_add-result : goal.overflow_add-result
overflow_add-result c = safe w32 wide c.args.v c.requires (add e f) tt

pub overflow_add-result-3 : goal.overflow_add-result-3
overflow_add-result-3 c = safe w32 wide c.args.v c.requires (add (add h h) g) tt

pub overflow_sub-result : goal.overflow_sub-result
overflow_sub-result c = safe w32 wide c.args.v c.requires (sub e f) tt

pub overflow_sub-result-2 : goal.overflow_sub-result-2
overflow_sub-result-2 c = safe w32 wide c.args.v c.requires (sub h g) tt

pub overflow_sub-result-3 : goal.overflow_sub-result-3
overflow_sub-result-3 c = safe w32 wide c.args.v c.requires (sub (sub h g) g) tt

pub returns : goal.returns
returns c =
    let v = c.args.v in
    exacts w32 wide v c.requires code tt ∙ row_through C (expressions code) v refl
