-- "Uniqueness is proved: any two results it allows are the same" (01, "What the stamp covers").
-- P is a function's `Reads.Learnt`, which the toolchain makes of the contract's own text, so a weaker contract breaks the theorem.
-- Assumes nothing.
use Rattle.std.specs.Prelude.{◌≡◌, List, ℕ}
use contract.Lifetimes.{Lfts}
use denote.Triple.Clauses.{AtExit}
use borrow.Fn.Kind.{ParamKind, ResultKind}
use borrow.Fn.Kinds.{Dens, res_t, Out, ended_of}

-- for the same arguments any two results that P allows are the same, and so is what `seen` reads of the outputs at exit
abbrev pub Unique : (n : ℕ) (ps : List (ParamKind n)) (r : ResultKind n) → Out n ps r → (B : Type 0) → ((κs : Lfts n) → AtExit (ended_of n ps r) κs → B) → Type 0
Unique n ps r P B seen =
    (κs : Lfts n) (a : Dens κs ps) (x y : (res_t r κs).Denot) (e f : AtExit (ended_of n ps r) κs)
    → P κs a x e
    → P κs a y f
    → (x ≡ y) × (seen κs e ≡ seen κs f)
