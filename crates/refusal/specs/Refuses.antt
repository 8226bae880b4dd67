-- "given exactly if", "Tests run in the table's order" (01, "What is sent back, and in which order it is tested").
-- P is a function's `Reads.Learnt`, which the toolchain makes of the contract's own text, so a weaker contract breaks the theorem.
-- Assumes nothing.
use Rattle.std.specs.Prelude.{List, ℕ}
use contract.Lifetimes.{Lfts}
use denote.Triple.Clauses.{AtExit}
use borrow.Fn.Kind.{ParamKind, ResultKind}
use borrow.Fn.Kinds.{Dens, res_t, Out, ended_of}
use Rattle.lists.specs.Chain.{Test, Verdict, ExactlyIf}
use Rattle.refusal.specs.declared.Refusal.{Refusal}

-- whatever result x P allows for arguments a, `told` reads of it that the call passes exactly if all of `tests` of these arguments pass, and
-- that it is refused with r exactly if r's test is the first that fails
abbrev pub RefusesExactlyIf : (n : ℕ) (ps : List (ParamKind n)) (r : ResultKind n) → Out n ps r
    → ((κs : Lfts n) → Dens κs ps → List (Test Refusal)) → ((κs : Lfts n) → (res_t r κs).Denot → Verdict Refusal) → Type 0
RefusesExactlyIf n ps r P tests told =
    (κs : Lfts n) (a : Dens κs ps) (x : (res_t r κs).Denot) (e : AtExit (ended_of n ps r) κs)
    → P κs a x e
    → ExactlyIf (tests κs a) (told κs x)
