-- "the result says how many bytes were used, and the rest keep theirs" (02, Req 01), of any call of `code_plane`, over its own reading: a holds
-- the call's arguments, r its answer, e what is lent at its exit.
--     rest_keeps     where it answers how many bytes were used, these lie in the area, and every byte behind them is as it was
-- Assumes nothing.
use mathlib.Core.Path.{◌≡◌, subst}
use mathlib.Core.List.{List}
use Prim.Native.Nat.{ℕ, ◌≤◌}
use contract.Lifetimes.{Lfts}
use denote.Triple.Clauses.{AtExit}
use borrow.Fn.Kinds.{Dens, res_t, ended_of}
use lib.ListN.{length, drop}
use Rattle.plane.specs.Code.{CodesPlane}
use Rattle.plane.proofs.CodedOutcome.{outcome}
use Rattle.plane.proofs.code_plane.Kinds as call
use Rattle.plane.proofs.code_plane.Reads as reads
use Rattle.std.specs.Prelude.{Ok, Result}
use Rattle.refusal.specs.declared.Refusal.{Refusal}

module _ (κs : Lfts 3) (a : Dens κs call.ps) (r : (res_t call.r κs).Denot) (e : AtExit (ended_of 3 call.ps call.r) κs) (p : reads.Learnt κs a r e) where
  -- the file area, as it was lent and as it is left
  abbrev lent : List ℕ
  lent = a.1.1.1.1.1.0.now

  abbrev left : List ℕ
  left = e.1.1.1.1.1.0.now

  pub rest_keeps : (used : ℕ) → r ≡ Ok used → (used ≤ length lent) × (drop used left ≡ drop used lent)
  rest_keeps used is =
      let rebuilt = a.1.1.1.1.1.1.0.now in
      let c = subst (λ (x : Result ℕ Refusal). CodesPlane a.0 a.1.0 a.1.1.0 a.1.1.1.0 a.1.1.1.1.0.now lent rebuilt x left e.1.1.1.1.1.1.0.now) is p in
      let o = outcome a.0 a.1.0 a.1.1.0 a.1.1.1.0 a.1.1.1.1.0.now lent rebuilt used left e.1.1.1.1.1.1.0.now c in
      (o.within, o.kept)
