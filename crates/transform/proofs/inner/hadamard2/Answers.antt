-- `transform::inner::hadamard2` meets its contract: the code, reflected; that nothing overflows is one test that the checker computes.
-- Assumes nothing.
use mathlib.Core.Path.{refl, ◌∙◌}
use mathlib.Core.List.{List, [], ◌∷◌}
use lib.Dec.{T}
use mir.Syntax.{w32}
use mir.Val.{SFits}
use Rattle.whole.proofs.Steps.{Code, inp, add, sub, safe, raw, ok}
use Rattle.whole.proofs.Lists.{exacts, expressions}
use Rattle.transform.specs.Hadamard.{H2}
use Rattle.transform.proofs.Rows.{square_through}
use Rattle.transform.proofs.inner.hadamard2.Goals as goal
use Rattle.transform.proofs.inner.hadamard2.Goals.{Start}

abbrev e : Code
e = add (inp 0) (inp 1)

abbrev f : Code
f = sub (inp 0) (inp 1)

abbrev g : Code
g = add (inp 2) (inp 3)

abbrev h : Code
h = sub (inp 2) (inp 3)

abbrev code : List Code
code = add e g ∷ add f h ∷ sub e g ∷ sub f h ∷ []

fit : (c : Start) (z : Code) → T (ok w32 32768 z) → SFits w32 (raw w32 c.args.w z)
fit c z t = safe w32 32768 c.args.w c.requires z t

pub overflow_add-result : goal.overflow_add-result
overflow_add-result c = fit c.before.before.before.before.before.before.before.before (add e g) tt

pub overflow_add-result-2 : goal.overflow_add-result-2
overflow_add-result-2 c = fit c.before.before.before.before.before.before.before.before (add f h) tt

pub overflow_sub-result : goal.overflow_sub-result
overflow_sub-result c = fit c.before.before.before.before.before.before.before.before (sub e g) tt

pub overflow_sub-result-2 : goal.overflow_sub-result-2
overflow_sub-result-2 c = fit c.before.before.before.before.before.before.before.before (sub f h) tt

pub returns : goal.returns
returns c =
    exacts w32 32768 c.args.w c.requires code tt ∙ square_through H2 (expressions code) c.args.w refl
